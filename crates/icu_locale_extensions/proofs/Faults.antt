-- What is spelled in a syntax is what is read, and why a text is refused.
use Rattle.std.specs.Prelude.{◌≡◌, ◌↔◌, ℕ, List, Result, Ok, Err}
use Rattle.std.proofs.Common.{refl, ap, sym, ◌∙◌}
use Rattle.icu_locale_core.specs.Identifier.{pieces}
use Rattle.icu_locale_core.specs.declared.parse_error.ParseError.{ParseError}
use Rattle.icu_locale_extensions.specs.Grammar.{IsLocaleId}
use Rattle.icu_locale_extensions.specs.laws.Reader.{and_then, read, read_by}
use Rattle.icu_locale_extensions.specs.Syntaxes.{SpellsBy, base_text, modifier_text, tag_text, with_modifier}
use Rattle.icu_locale_extensions.specs.declared.identifier.LocaleIdentifier.{LocaleIdentifier}
use Rattle.icu_locale_extensions.specs.declared.syntax.Syntax.{Syntax}
use Rattle.icu_locale_extensions.specs.declared.syntax.Syntax.TheVariants.{Unicode, Bcp47, Posix}

module _ (derived : (ps : List (List ℕ)) (x : LocaleIdentifier) → IsLocaleId ps x ↔ (read ps ≡ Ok x)) where
  posix_there : (t : List ℕ) (x : LocaleIdentifier) → SpellsBy Posix t x → read_by Posix t ≡ Ok x
  posix_there t x s =
      ap (λ r. and_then r (λ y. Ok (with_modifier (modifier_text t) y))) ((derived (pieces (base_text t)) s.base).0 s.spells) ∙ ap Ok (sym s.changed)

  posix_back : (t : List ℕ) (x : LocaleIdentifier) → read_by Posix t ≡ Ok x → SpellsBy Posix t x
  posix_back t x is = by (read (pieces (base_text t))) refl is
    where
      by : (r : Result LocaleIdentifier ParseError) → read (pieces (base_text t)) ≡ r → and_then r (λ y. Ok (with_modifier (modifier_text t) y)) ≡ Ok x → SpellsBy Posix t x
      by (Ok y) e is = record { base = y; spells = (derived (pieces (base_text t)) y).1 e; changed = sym (ap (λ o. elim o [ Ok z ↦ z | Err f ↦ x ]) is) }
      by (Err f) e is = absurd (cc is)

  pub spelled_read : (s : Syntax) (t : List ℕ) (x : LocaleIdentifier) → SpellsBy s t x ↔ (read_by s t ≡ Ok x)
  spelled_read Unicode t x = derived (pieces t) x
  spelled_read Bcp47 t x = derived (pieces (tag_text t)) x
  spelled_read Posix t x = (posix_there t x, posix_back t x)

-- a name is refused where its base is
pub posix_fault : (t : List ℕ) (e : ParseError) → read_by Posix t ≡ Err e → read (pieces (base_text t)) ≡ Err e
posix_fault t e is = by (read (pieces (base_text t))) is
  where
    by : (r : Result LocaleIdentifier ParseError) → and_then r (λ y. Ok (with_modifier (modifier_text t) y)) ≡ Err e → r ≡ Err e
    by (Ok y) is = absurd (cc is)
    by (Err f) is = cc is

pub posix_refused : (t : List ℕ) (e : ParseError) → read (pieces (base_text t)) ≡ Err e → read_by Posix t ≡ Err e
posix_refused t e is = ap (λ r. and_then r (λ y. Ok (with_modifier (modifier_text t) y))) is
