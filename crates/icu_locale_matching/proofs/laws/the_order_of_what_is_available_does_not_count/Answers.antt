use Rattle.icu_locale_matching.proofs.Additions.{order_for_header, order_for_requests}
use Rattle.icu_locale_matching.proofs.Fewer.{order_alike}
use Rattle.icu_locale_matching.proofs.laws.the_order_of_what_is_available_does_not_count.Goals as goal

pub returns-clause-nearest : goal.returns-clause-nearest
returns-clause-nearest c = order_alike

pub returns-clause-requests : goal.returns-clause-requests
returns-clause-requests c = order_for_requests

pub returns-clause-header : goal.returns-clause-header
returns-clause-header c = order_for_header c.spelled_once_by.ensures
