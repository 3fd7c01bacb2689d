use Rattle.icu_locale_matching.proofs.OneService.{served_is_one}
use Rattle.icu_locale_matching.proofs.laws.what_is_served_is_one.Goals as goal

pub returns : goal.returns
returns c = served_is_one c.spelled_once_by.ensures
