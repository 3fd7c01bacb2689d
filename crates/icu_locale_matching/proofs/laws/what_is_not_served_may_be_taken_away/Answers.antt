use Rattle.icu_locale_matching.proofs.Fewer.{part_has_the_same}
use Rattle.icu_locale_matching.proofs.laws.what_is_not_served_may_be_taken_away.Goals as goal

pub returns : goal.returns
returns c = part_has_the_same
