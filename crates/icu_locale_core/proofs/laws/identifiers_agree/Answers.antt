use Rattle.icu_locale_core.specs.laws.Identifiers.{identifiers_decide}
use Rattle.icu_locale_core.proofs.Agreements.{Agree-from_test, identifiers_tie, same_identifier}
use Rattle.icu_locale_core.proofs.laws.identifiers_agree.Goals as goal

pub returns : goal.returns
returns c = Agree-from_test _ _ _ identifiers_decide identifiers_tie same_identifier
