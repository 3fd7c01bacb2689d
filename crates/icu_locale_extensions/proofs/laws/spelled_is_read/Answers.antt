use Rattle.icu_locale_extensions.proofs.Faults.{spelled_read}
use Rattle.icu_locale_extensions.proofs.laws.spelled_is_read.Goals as goal

pub returns : goal.returns
returns c = spelled_read c.derived_is_read.ensures
