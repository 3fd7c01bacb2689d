use Rattle.icu_locale_matching.proofs.Within.{asked_within, served_within, nearest_within}
use Rattle.icu_locale_matching.proofs.laws.what_is_served_is_available.Goals as goal

pub returns-clause-header : goal.returns-clause-header
returns-clause-header c = served_within

pub returns-clause-requests : goal.returns-clause-requests
returns-clause-requests c = nearest_within

pub returns-clause-asked : goal.returns-clause-asked
returns-clause-asked c = asked_within
