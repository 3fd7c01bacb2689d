use Rattle.icu_locale_matching.proofs.Fewer.{whole_is_no_farther}
use Rattle.icu_locale_matching.proofs.laws.what_is_added_is_no_farther.Goals as goal

pub returns : goal.returns
returns c = whole_is_no_farther
