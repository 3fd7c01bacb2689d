use Rattle.icu_provider.specs.laws.SortedMaps.{IsSortedMap-from_empty}
use Rattle.icu_tables.proofs.from_json.members.fill_by.Goals as goal

-- no rows rise
pub from_rows-requires : goal.from_rows-requires
from_rows-requires g c = IsSortedMap-from_empty g.K.Ord.cmp c.new.result.items c.new.ensures.items
