use Rattle.std.proofs.Common.{IsSome, is_some, ap, sym, subst, ◌∙◌, if◌then◌else◌}
use Rattle.std.proofs.lemmas.Bool.{false≢true}
use Rattle.std.specs.BTreeMap.{insert_entry}
use Rattle.icu_locale_core.specs.Maps.{value_at}
use Rattle.icu_locale_core.specs.laws.FirstRows.{first_is_there, first_is_new}
use Rattle.icu_locale_core.specs.laws.SortedMaps.{inserts_in_gap, lookup_at, lookup_in_gap}
use Rattle.icu_locale_core.proofs.sorted_rows.SortedRows.add.Goals as goal

-- the key is there
pub returns-in-Ok-clause-added : goal.returns-in-Ok-clause-added
returns-in-Ok-clause-added g c key =
    let found = lookup_at g.met.K.Ord.total _ c.args.key c.in-Ok.field-0 (c.args.key, c.args.value) c.self.invariant (rw c.self.view_is c.in-Ok.ensures) in
    let there = ap is_some found in
    rw (← c.self.view_is) (first_is_there g.met.K.Ord.total c.self.inside.rows.items c.args.key c.args.value there key)

pub returns-in-Ok-clause-rows : goal.returns-in-Ok-clause-rows
returns-in-Ok-clause-rows g c =
    let found = lookup_at g.met.K.Ord.total _ c.args.key c.in-Ok.field-0 (c.args.key, c.args.value) c.self.invariant (rw c.self.view_is c.in-Ok.ensures) in
    let there = ap is_some found in
    rw (← c.self.view_is) (sym (ap (λ b. if b then c.self.inside.rows.items else insert_entry g.K.Ord.cmp c.self.inside.rows.items c.args.key c.args.value) there))

-- the row is new
pub invariant_of-self-in-Err : goal.invariant_of-self-in-Err
invariant_of-self-in-Err g c = rw c.in_ok-insert-in-Err.ensures.items (inserts_in_gap g.met.K.Ord.total _ c.args.key c.args.value
    c.in-Err.at c.self.invariant (rw c.self.view_is c.in-Err.ensures)).sorted

pub returns-in_ok-insert-in-Err-clause-added : goal.returns-in_ok-insert-in-Err-clause-added
returns-in_ok-insert-in-Err-clause-added g c key =
    let inserted = inserts_in_gap g.met.K.Ord.total _ c.args.key c.args.value c.in-Err.at c.self.invariant (rw c.self.view_is c.in-Err.ensures) in
    let none = lookup_in_gap g.met.K.Ord.total c.self.inside.rows.items c.args.key c.in-Err.at (rw c.self.view_is c.in-Err.ensures) in
    let first = first_is_new g.met.K.Ord.total c.self.inside.rows.items c.args.key c.args.value _ none inserted.sets key in
    ap (λ rows. value_at g.K.Ord.cmp rows key) c.in_ok-insert-in-Err.ensures.items ∙ rw (← c.self.view_is) first

pub returns-in_ok-insert-in-Err-clause-rows : goal.returns-in_ok-insert-in-Err-clause-rows
returns-in_ok-insert-in-Err-clause-rows g c =
    let rows = c.self.inside.rows.items in
    let inserted = inserts_in_gap g.met.K.Ord.total _ c.args.key c.args.value c.in-Err.at c.self.invariant (rw c.self.view_is c.in-Err.ensures) in
    let none = lookup_in_gap g.met.K.Ord.total rows c.args.key c.in-Err.at (rw c.self.view_is c.in-Err.ensures) in
    c.in_ok-insert-in-Err.ensures.items ∙ rw (← c.self.view_is) (inserted.rows
    ∙ sym (ap (λ o. if is_some o then rows else insert_entry g.K.Ord.cmp rows c.args.key c.args.value) none))

-- memory is refused only to a new row
pub returns-in_err-insert-in-Err-clause-present : goal.returns-in_err-insert-in-Err-clause-present
returns-in_err-insert-in-Err-clause-present g c there =
    absurd (false≢true (subst (λ o. IsSome o) (lookup_in_gap g.met.K.Ord.total _ _ _ c.in-Err.ensures) there))
