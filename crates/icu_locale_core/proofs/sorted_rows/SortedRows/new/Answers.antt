use Rattle.icu_locale_core.specs.laws.SortedMaps.{IsSortedMap-from_empty}
use Rattle.icu_locale_core.proofs.sorted_rows.SortedRows.new.Goals as goal

-- a new list has no rows
pub invariant_of-result : goal.invariant_of-result
invariant_of-result g c = IsSortedMap-from_empty _ _ c.new.ensures.items
