use Rattle.icu_locale_places.proofs.Probed.{first_is_language}
use Rattle.icu_locale_places.proofs.laws.languages_come_first.Goals as goal

pub returns : goal.returns
returns c = first_is_language c.begins_is_told.ensures
