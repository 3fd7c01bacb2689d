use Rattle.icu_locale_validity.proofs.WholeLaws.{none_listed}
use Rattle.icu_locale_validity.proofs.laws.nothing_is_listed.Goals as goal

pub returns : goal.returns
returns c = none_listed
