use Rattle.std.proofs.Common.{Some, IsSome, sym, ap, subst, ◌∙◌}
use Rattle.std.proofs.lemmas.Bool.{false≢true}
use Rattle.icu_locale_core.specs.laws.SortedMaps.{inserts_at, inserts_in_gap, lookup_at, lookup_in_gap}
use Rattle.icu_locale_core.proofs.sorted_rows.SortedRows.insert.Goals as goal

-- the key is there, and its row takes the value
pub invariant_of-self : goal.invariant_of-self
invariant_of-self g c = (inserts_at g.met.K.Ord.total _ c.args.key _ _ _ c.self.invariant (rw c.self.view_is c.in-Ok.ensures) c.index_mut.ensures.value).sorted

pub returns-in-Ok-clause-rows : goal.returns-in-Ok-clause-rows
returns-in-Ok-clause-rows g c =
    let inserted = inserts_at g.met.K.Ord.total _ c.args.key c.args.value _ _ c.self.invariant (rw c.self.view_is c.in-Ok.ensures) c.index_mut.ensures.value in
    rw (c.replace.ensures.after, ← c.self.view_is) inserted.rows

-- what was in the row is what a look-up finds
pub returns-in-Ok-clause-before : goal.returns-in-Ok-clause-before
returns-in-Ok-clause-before g c =
    let found = lookup_at g.met.K.Ord.total _ c.args.key c.in-Ok.at c.index_mut.result.now c.self.invariant (rw c.self.view_is c.in-Ok.ensures) in
    rw (← c.self.view_is, c.replace.ensures.value) (ap (λ row. Some row.1) c.index_mut.ensures.value ∙ sym found)

-- the row is new
pub invariant_of-self-in-Err : goal.invariant_of-self-in-Err
invariant_of-self-in-Err g c = rw c.in_ok-insert-in-Err.ensures.items (inserts_in_gap g.met.K.Ord.total _ c.args.key c.args.value
    c.in-Err.at c.self.invariant (rw c.self.view_is c.in-Err.ensures)).sorted

pub returns-in_ok-insert-in-Err-clause-rows : goal.returns-in_ok-insert-in-Err-clause-rows
returns-in_ok-insert-in-Err-clause-rows g c =
    rw (c.in_ok-insert-in-Err.ensures.items, ← c.self.view_is) (inserts_in_gap g.met.K.Ord.total _ c.args.key c.args.value
    c.in-Err.at c.self.invariant (rw c.self.view_is c.in-Err.ensures)).rows

pub returns-in_ok-insert-in-Err-clause-before : goal.returns-in_ok-insert-in-Err-clause-before
returns-in_ok-insert-in-Err-clause-before g c = sym (lookup_in_gap g.met.K.Ord.total _ _ _ c.in-Err.ensures)

-- memory is refused only to a new row
pub returns-in_err-insert-in-Err-clause-present : goal.returns-in_err-insert-in-Err-clause-present
returns-in_err-insert-in-Err-clause-present g c there =
    absurd (false≢true (subst (λ o. IsSome o) (lookup_in_gap g.met.K.Ord.total _ _ _ c.in-Err.ensures) there))

pub returns-in-Ok-clause-sets : goal.returns-in-Ok-clause-sets
returns-in-Ok-clause-sets g c other =
    let inserted = inserts_at g.met.K.Ord.total _ c.args.key c.args.value _ _ c.self.invariant (rw c.self.view_is c.in-Ok.ensures) c.index_mut.ensures.value in
    rw (c.replace.ensures.after, ← c.self.view_is) (inserted.sets other)

pub returns-in_ok-insert-in-Err-clause-sets : goal.returns-in_ok-insert-in-Err-clause-sets
returns-in_ok-insert-in-Err-clause-sets g c other =
    rw (c.in_ok-insert-in-Err.ensures.items, ← c.self.view_is) ((inserts_in_gap g.met.K.Ord.total _ c.args.key c.args.value
    c.in-Err.at c.self.invariant (rw c.self.view_is c.in-Err.ensures)).sets other)
