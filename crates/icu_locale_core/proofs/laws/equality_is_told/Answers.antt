use Rattle.icu_locale_core.specs.laws.Identifiers.{values_decide}
use Rattle.icu_locale_core.proofs.Agreements.{keywords_tell, locales_tell}
use Rattle.icu_locale_core.proofs.laws.equality_is_told.Goals as goal

pub returns-clause-values : goal.returns-clause-values
returns-clause-values c = λ v w. ((values_decide v w).0, (values_decide v w).1)

pub returns-clause-keywords : goal.returns-clause-keywords
returns-clause-keywords c = λ k l. ((keywords_tell k l).0, (keywords_tell k l).1)

pub returns-clause-locales : goal.returns-clause-locales
returns-clause-locales c = λ x y. ((locales_tell x y).0, (locales_tell x y).1)
