use Rattle.icu_locale_core.proofs.Written.{same_from_spells}
use Rattle.icu_locale_core.proofs.laws.spelled_once.Goals as goal

pub returns : goal.returns
returns c = same_from_spells
