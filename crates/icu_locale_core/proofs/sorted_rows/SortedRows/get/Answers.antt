use Rattle.std.proofs.Common.{Some, sym, ap, ◌∙◌}
use Rattle.icu_locale_core.specs.laws.SortedMaps.{lookup_at, lookup_in_gap}
use Rattle.icu_locale_core.proofs.sorted_rows.SortedRows.get.Goals as goal

-- the row that was read is the one that the look-up finds
pub returns-in-Ok : goal.returns-in-Ok
returns-in-Ok g c =
    let found = lookup_at g.met.K.Ord.total _ c.args.key.now c.in-Ok.at c.index.result.now c.self.invariant (rw c.self.view_is c.in-Ok.ensures) in
    rw (← c.self.view_is) (ap (λ row. Some row.1) c.index.ensures ∙ sym found)

-- no row has the key
pub returns-in-Err : goal.returns-in-Err
returns-in-Err g c = sym (lookup_in_gap g.met.K.Ord.total _ _ _ c.in-Err.ensures)
