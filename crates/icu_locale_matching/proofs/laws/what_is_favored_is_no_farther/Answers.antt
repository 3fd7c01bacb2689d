use Rattle.icu_locale_matching.proofs.Favors.{favored_no_farther, favored_within}
use Rattle.icu_locale_matching.proofs.laws.what_is_favored_is_no_farther.Goals as goal

pub returns-clause-farther : goal.returns-clause-farther
returns-clause-farther c = favored_no_farther

pub returns-clause-within : goal.returns-clause-within
returns-clause-within c = favored_within
