use Rattle.std.proofs.Common.{◌∙◌}
use Rattle.icu_locale_core.specs.TextSet.{contains}
use Rattle.icu_locale_core.specs.laws.TextSets.{contains-union, contains-difference}
use Rattle.icu_locale_core.proofs.TextSets.{members_of_list, turned}
use Rattle.icu_locale_core.proofs.laws.members_of_sets.Goals as goal

pub returns-clause-list : goal.returns-clause-list
returns-clause-list c = members_of_list

pub returns-clause-union : goal.returns-clause-union
returns-clause-union c = contains-union

pub returns-clause-difference : goal.returns-clause-difference
returns-clause-difference c s u t = contains-difference s u t ∙ turned (contains u t) (contains s t)
