use Rattle.icu_locale_full_names.proofs.Giving.{given_is_written}
use Rattle.icu_locale_full_names.proofs.laws.given_names_are_written.Goals as goal

pub returns : goal.returns
returns c = given_is_written
