use Rattle.icu_locale_core.specs.laws.Maps.{same_sorted_map, put_back}
use Rattle.icu_locale_core.specs.laws.TextSets.{text_total, text_same}
use Rattle.icu_locale_core.proofs.laws.keywords_are_a_map.Goals as goal

pub returns-clause-same : goal.returns-clause-same
returns-clause-same c = same_sorted_map text_total text_same

pub returns-clause-put_back : goal.returns-clause-put_back
returns-clause-put_back c = put_back text_total text_same
