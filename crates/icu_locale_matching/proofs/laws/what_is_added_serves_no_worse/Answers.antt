use Rattle.icu_locale_matching.proofs.Additions.{found_by_more, more_is_no_farther, served_still}
use Rattle.icu_locale_matching.proofs.laws.what_is_added_serves_no_worse.Goals as goal

pub returns-clause-served : goal.returns-clause-served
returns-clause-served c = served_still c.spelled_once_by.ensures

pub returns-clause-header : goal.returns-clause-header
returns-clause-header c = found_by_more c.spelled_once_by.ensures

pub returns-clause-requests : goal.returns-clause-requests
returns-clause-requests c = more_is_no_farther
