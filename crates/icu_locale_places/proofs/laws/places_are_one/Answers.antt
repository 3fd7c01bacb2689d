use Rattle.icu_locale_places.proofs.Told.{one_place, some_place}
use Rattle.icu_locale_places.proofs.laws.places_are_one.Goals as goal

pub returns-clause-some : goal.returns-clause-some
returns-clause-some c = some_place c.begins_is_told.ensures

pub returns-clause-one : goal.returns-clause-one
returns-clause-one c = one_place
