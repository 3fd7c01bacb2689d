use Rattle.icu_locale_validity.proofs.FirstPlaces.{places}
use Rattle.icu_locale_validity.proofs.laws.places_are_where_parts_lie.Goals as goal

pub returns : goal.returns
returns c = places
