-- A run that rules of languages alone go along is the same by all rules.
use Rattle.std.proofs.Common.{◌≡◌, ℕ, zero, suc, Option, Some, None, option_and_then, refl, ap, ◌∙◌}
use Rattle.icu_locale_core.specs.declared.langid.LanguageIdentifier.{LanguageIdentifier}
use Rattle.icu_locale.specs.Kinds.{next, by_language_alias}
use Rattle.icu_locale_runs.specs.Run.{at, BecomesEnd, StandsIn}
use Rattle.icu_locale_values.specs.Whole.{WholeRules, GoesByLanguages}

module _ {X : Type 0} (first second : X → Option X) (start : X) (alike : (y : X) → StandsIn first start y → second y ≡ first y) where
  followed : (place : ℕ) (o : Option X) → at first start place ≡ o → option_and_then second o ≡ option_and_then first o
  followed place None is = refl
  followed place (Some y) is = alike y (place, is)

  same_at : (place : ℕ) → at second start place ≡ at first start place
  same_at zero = refl
  same_at (suc place) = ap (option_and_then second) (same_at place) ∙ followed place (at first start place) refl

  same_end : (new : Option X) → BecomesEnd first (Some start) new → BecomesEnd second (Some start) new
  same_end None ends = absurd ends
  same_end (Some y) ends = record {
    stands = (ends.stands.0, same_at ends.stands.0 ∙ ends.stands.1);
    last = alike y ends.stands ∙ ends.last;
  }

pub by_languages : (by : WholeRules) (lang new : Option LanguageIdentifier) → GoesByLanguages by lang → BecomesEnd (by_language_alias by.rules) lang new
    → BecomesEnd (next by.likely by.rules) lang new
by_languages by None new alike ends = ends
by_languages by (Some l) new alike ends = same_end (by_language_alias by.rules) (next by.likely by.rules) l alike new ends
