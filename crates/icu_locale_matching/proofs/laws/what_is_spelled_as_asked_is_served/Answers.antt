use Rattle.icu_locale_matching.proofs.Serving.{own_spelling_is_served}
use Rattle.icu_locale_matching.proofs.laws.what_is_spelled_as_asked_is_served.Goals as goal

pub returns : goal.returns
returns c = own_spelling_is_served
