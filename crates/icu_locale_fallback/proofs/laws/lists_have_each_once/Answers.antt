use Rattle.icu_locale_fallback.specs.Fallback.{next}
use Rattle.icu_locale_fallback.specs.Identifiers.{next_identifier}
use Rattle.icu_locale_fallback.proofs.Whole.{each_once}
use Rattle.icu_locale_fallback.proofs.laws.lists_have_each_once.Goals as goal

pub returns : goal.returns
returns c = record {
  locales = λ by x list are. each_once (next by) x list are;
  identifiers = λ by x list are. each_once (next_identifier by) x list are;
}
