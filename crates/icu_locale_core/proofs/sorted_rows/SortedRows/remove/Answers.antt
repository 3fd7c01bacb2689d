use Rattle.std.proofs.Common.{Some, sym, ap, ◌∙◌}
use Rattle.icu_locale_core.specs.Maps.{value_at}
use Rattle.icu_locale_core.specs.laws.SortedMaps.{IsSortedMap-remove_entry, SetsOnly-remove_entry, remove_entry-at, remove_entry-absent, lookup_at, lookup_in_gap}
use Rattle.icu_locale_core.proofs.sorted_rows.SortedRows.remove.Goals as goal

-- the key is there, and its row is taken out
pub invariant_of-self : goal.invariant_of-self
invariant_of-self g c =
    let taken = remove_entry-at g.met.K.Ord.total _ c.args.key.now c.in-Ok.at c.self.invariant (rw c.self.view_is c.in-Ok.ensures) in
    rw (c.remove.ensures.items, taken) (IsSortedMap-remove_entry g.K.Ord.cmp _ _ c.self.invariant)

pub returns-in-Ok-clause-value : goal.returns-in-Ok-clause-value
returns-in-Ok-clause-value g c =
    let found = lookup_at g.met.K.Ord.total _ c.args.key.now c.in-Ok.at c.remove.result c.self.invariant (rw c.self.view_is c.in-Ok.ensures) in
    rw (← c.self.view_is) (ap (λ row. Some row.1) c.remove.ensures.value ∙ sym found)

pub returns-in-Ok-clause-rows : goal.returns-in-Ok-clause-rows
returns-in-Ok-clause-rows g c =
    rw (c.remove.ensures.items, ← c.self.view_is) (remove_entry-at g.met.K.Ord.total _ c.args.key.now c.in-Ok.at c.self.invariant
    (rw c.self.view_is c.in-Ok.ensures))

-- no row has the key
pub returns-in-Err-clause-value : goal.returns-in-Err-clause-value
returns-in-Err-clause-value g c = sym (lookup_in_gap g.met.K.Ord.total _ _ _ c.in-Err.ensures)

pub returns-in-Err-clause-rows : goal.returns-in-Err-clause-rows
returns-in-Err-clause-rows g c = sym (remove_entry-absent _ _ (lookup_in_gap g.met.K.Ord.total _ _ _ c.in-Err.ensures))

pub returns-in-Ok-clause-sets : goal.returns-in-Ok-clause-sets
returns-in-Ok-clause-sets g c other =
    let taken = remove_entry-at g.met.K.Ord.total _ c.args.key.now c.in-Ok.at c.self.invariant (rw c.self.view_is c.in-Ok.ensures) in
    rw (c.remove.ensures.items, taken, ← c.self.view_is) (SetsOnly-remove_entry g.met.K.Ord.total _ c.args.key.now c.self.invariant other)

pub returns-in-Err-clause-sets : goal.returns-in-Err-clause-sets
returns-in-Err-clause-sets g c other =
    let left = remove_entry-absent _ _ (lookup_in_gap g.met.K.Ord.total _ _ _ c.in-Err.ensures) in
    ap (λ rows. value_at g.K.Ord.cmp rows other) (sym left) ∙ rw (← c.self.view_is) (SetsOnly-remove_entry g.met.K.Ord.total _ c.args.key.now c.self.invariant other)
