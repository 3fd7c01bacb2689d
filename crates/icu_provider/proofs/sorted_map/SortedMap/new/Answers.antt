use Rattle.icu_provider.specs.laws.SortedMaps.{IsSortedMap-from_empty}
use Rattle.icu_provider.proofs.sorted_map.SortedMap.new.Goals as goal

-- a new list has no rows
pub invariant_of-result : goal.invariant_of-result
invariant_of-result g c = IsSortedMap-from_empty _ _ c.new.ensures.items
