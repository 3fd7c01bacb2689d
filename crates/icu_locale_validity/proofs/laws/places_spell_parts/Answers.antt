use Rattle.icu_locale_validity.proofs.Spelled.{spelled}
use Rattle.icu_locale_validity.proofs.laws.places_spell_parts.Goals as goal

pub returns : goal.returns
returns c = spelled
