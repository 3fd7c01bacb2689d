use Rattle.icu_locale_values.proofs.Stills.{applied_exactly}
use Rattle.icu_locale_values.proofs.laws.applied_where_changed.Goals as goal

pub returns : goal.returns
returns c = applied_exactly
