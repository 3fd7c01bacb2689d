use Rattle.icu_locale_validity.proofs.Lies.{lies}
use Rattle.icu_locale_validity.proofs.laws.places_lie_in_texts.Goals as goal

pub returns : goal.returns
returns c = lies
