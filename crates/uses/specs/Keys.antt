-- Keys of a store, and two calls one after the other.
use Rattle.std.specs.Prelude.{◌⊎◌, Result, Ok, Err}
use Rattle.icu_locale_core.specs.declared.locale.Locale.{Locale}
use Rattle.icu_locale.specs.Canonical.{IsCanonical}
use Rattle.icu_locale.specs.LikelySubtags.{LikelySubtags}
use Rattle.icu_locale.specs.Refusals.{IsRefusal}
use Rattle.icu_locale.specs.declared.canonicalizer.CanonicalizeError.{CanonicalizeError}
use Rattle.icu_locale.specs.declared.canonicalizer.rules.Rules.{Rules}

-- the refusal of one of two locales, the first asked first: that of the second comes where the first has a canonical form
abbrev pub IsRefusalOfEither : LikelySubtags → Rules → (one other : Locale) → CanonicalizeError
    → Type 0
IsRefusalOfEither likely rules one other e =
    IsRefusal likely rules one e
    ⊎ (((x : Locale) × IsCanonical likely rules one x) × IsRefusal likely rules other e)

-- the answer of the first of two calls, or the refusal
abbrev pub first_answer : {A B E : Type 0} → Result (A × B) E → Result A E
first_answer (Ok answers) = Ok answers.0
first_answer (Err refusal) = Err refusal
