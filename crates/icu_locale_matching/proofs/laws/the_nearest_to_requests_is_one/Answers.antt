use Rattle.icu_locale_matching.proofs.OneService.{nearest_to_is_one}
use Rattle.icu_locale_matching.proofs.laws.the_nearest_to_requests_is_one.Goals as goal

pub returns : goal.returns
returns c = nearest_to_is_one
