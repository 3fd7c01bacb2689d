use Rattle.icu_locale_core.specs.laws.SortedMaps.{All-remove_entry}
use Rattle.icu_locale_core.proofs.row_map.RowMap.remove.Goals as goal

-- each row is still one of its kind
pub invariant_of-self : goal.invariant_of-self
invariant_of-self g c = rw c.remove.ensures.rows (All-remove_entry _ g.K.RowKey.IsRow _ c.self.invariant)

pub returns-clause-sets : goal.returns-clause-sets
returns-clause-sets g c other = rw (← c.self.view_is) (c.remove.ensures.sets other)
