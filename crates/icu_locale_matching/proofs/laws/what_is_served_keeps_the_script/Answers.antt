use Rattle.icu_locale_matching.proofs.Serving.{served_script}
use Rattle.icu_locale_matching.proofs.laws.what_is_served_keeps_the_script.Goals as goal

pub returns : goal.returns
returns c = served_script
