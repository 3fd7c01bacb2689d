use Rattle.icu_locale_matching.proofs.Wished.{refused_out}
use Rattle.icu_locale_matching.proofs.laws.what_is_refused_is_not_served.Goals as goal

pub returns : goal.returns
returns c = refused_out c.spelled_once_by.ensures
