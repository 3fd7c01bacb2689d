use Rattle.std.proofs.Common.{◌≡◌, ℕ, List, [], None, Ok, ap, sym, ◌∙◌, append-nil, refl}
use Rattle.icu_locale_core.specs.Identifier.{pieces}
use Rattle.icu_locale_core.specs.Readings.{read_pieces}
use Rattle.icu_locale_core.specs.declared.langid.LanguageIdentifier.{LanguageIdentifier}
use Rattle.icu_locale_extensions.specs.Built.{bare}
use Rattle.icu_locale_extensions.specs.Grammar.{absent, done}
use Rattle.icu_locale_extensions.specs.laws.Reader.{read}
use Rattle.icu_locale_extensions.proofs.Derived.{locale_read}
use Rattle.icu_locale_extensions.proofs.LanguageIds.{language_ids_read, read_derived}
use Rattle.icu_locale_extensions.proofs.Plain.{bare_is}
use Rattle.icu_locale_extensions.proofs.laws.identifiers_read_alike.Goals as goal

identifier_read : (ps : List (List ℕ)) (x : LanguageIdentifier) → read_pieces ps ≡ Ok x → read ps ≡ Ok (bare x)
identifier_read ps x is = ap read (sym (append-nil ps)) ∙ locale_read language_ids_read ps [] [] x [] None (read_derived ps x is) done refl absent

pub returns-clause-known : goal.returns-clause-known
returns-clause-known c = bare_is

pub returns-clause-alike : goal.returns-clause-alike
returns-clause-alike c = λ s t x is spells. c.strict_texts_read_alike.ensures s t (bare x) ((c.derived_is_read.ensures (pieces t) (bare x)).1
    (identifier_read (pieces t) x (c.pieces_are_read.ensures.complete t x is spells)))
