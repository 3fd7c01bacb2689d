use Rattle.icu_locale.proofs.Maximal.{same_where_unmodified}
use Rattle.icu_locale.proofs.laws.maximizing_tells_a_change.Goals as goal

pub returns-clause-unmodified : goal.returns-clause-unmodified
returns-clause-unmodified c = same_where_unmodified
