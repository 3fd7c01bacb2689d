use Rattle.icu_locale_matching.proofs.Serving.{own_form_is_served}
use Rattle.icu_locale_matching.proofs.laws.what_means_as_asked_is_served.Goals as goal

pub returns : goal.returns
returns c = own_form_is_served
