use Rattle.icu_locale_places.proofs.Told.{begins_told}
use Rattle.icu_locale_places.proofs.laws.begins_is_told.Goals as goal

pub returns : goal.returns
returns c = begins_told c.derived_is_read.ensures
