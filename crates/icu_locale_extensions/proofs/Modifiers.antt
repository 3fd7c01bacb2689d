-- What a name of a POSIX locale spells: its base with the modifier in it.
use Rattle.std.specs.Prelude.{◌≡◌, ℕ, not, ◌&&◌, List, Result, Ok, Err, IfOk}
use Rattle.std.proofs.Common.{ap, ◌∙◌, inl, inr}
use Rattle.icu_locale_core.specs.TextSet.{TextSet, difference, empty}
use Rattle.icu_locale_core.specs.laws.TextSets.{contains-difference, contains-empty, same_set}
use Rattle.icu_locale_core.specs.TextSet.{contains}
use Rattle.icu_locale_extensions.specs.Locales.{IsLocaleIdentifier}
use Rattle.icu_locale_extensions.specs.laws.Reader.{and_then, ReadsAs}
use Rattle.icu_locale_extensions.specs.Syntaxes.{base_text, modifier_text, with_modifier}
use Rattle.icu_locale_core.specs.declared.parse_error.ParseError.{ParseError}
use Rattle.icu_locale_extensions.specs.declared.identifier.LocaleIdentifier.{LocaleIdentifier}
use Rattle.icu_locale_extensions.specs.declared.syntax.Syntax.TheVariants.{Posix, Unicode}

-- a fact of what was read gives another
pub IfOk-map : {X : Type 0} {P Q : X → Type 0} → ((x : X) → P x → Q x) → (r : Result X ParseError) → IfOk r P → IfOk r Q
IfOk-map f (Ok x) h = f x h
IfOk-map f (Err e) h = tt

-- a set without the members of an empty one is that set
pub difference_none : (s : TextSet) → difference s empty ≡ s
difference_none s = same_set (difference s empty) s (λ q. contains-difference s empty q ∙ ap (λ b. not b && contains s q) (contains-empty q))

pub posix_read : (t : List ℕ) (y z : LocaleIdentifier) → ReadsAs Unicode (base_text t) (Ok y) → IsLocaleIdentifier z
    → z ≡ with_modifier (modifier_text t) y → ReadsAs Posix t (Ok z)
posix_read t y z reads known is = record {
  read = elim reads.read [
    | inl memory ↦ absurd (cc memory)
    | inr same ↦ inr (ap Ok is ∙ ap (λ r. and_then r (λ x. Ok (with_modifier (modifier_text t) x))) same)
  ];
  found = (known, record { base = y; spells = reads.found.1; changed = is });
  language = (λ e. absurd (cc e), λ e. absurd (cc (reads.language.1 e)));
  memory = λ e. absurd (cc e);
}
