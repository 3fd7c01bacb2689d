use Rattle.icu_locale_core.specs.laws.TextSets.{text_lists_ties}
use Rattle.icu_locale_core.specs.laws.Identifiers.{sets_tell}
use Rattle.icu_locale_core.proofs.Agreements.{Agree-from_test, same_variants}
use Rattle.icu_locale_core.proofs.laws.variants_agree.Goals as goal

pub returns-clause-agree : goal.returns-clause-agree
returns-clause-agree c = Agree-from_test _ _ _ sets_tell text_lists_ties same_variants
