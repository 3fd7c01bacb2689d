use Rattle.std.proofs.Common.{◌≡◌, rules, sym, ◌∙◌, ap, subst}
use Rattle.std.specs.List.Sorted.{IsStrictlySortedBy}
use Rattle.std.specs.Map.{keys_of}
use Rattle.std.specs.String.{string_cmp}
use Rattle.std.proofs.lemmas.Map.Made.{keys_of-map_values}
use Rattle.serde_json.proofs.Views.{Entry}
use Rattle.icu_tables.proofs.Members.{IsReadBefore, row-more, rows-end, keys_rise}
use Rattle.icu_tables.proofs.from_json.values.rows_of.Goals as goal

-- a member whose name is a key is a row
pub loop-name-preserved-in-Continue-branch-2 : goal.loop-name-preserved-in-Continue-branch-2
loop-name-preserved-in-Continue-branch-2 g c =
    let all = c.into_iter-name-iterator.result in
    let e : Entry = (c.in-Some-2.name.now, c.in-Some-2.member.now) in
    let rows = c.loop-name.rows.items in
    let before = subst (λ left. IsReadBefore g.K.RowKey.key g.V.FromValue.seen g.V.FromValue.shape all left rows) c.in-Some-2.ensures.steps
    c.loop-name.invariant in
    let named = ap g.K.RowKey.key (sym c.as_str.ensures.value) ∙ sym c.in-Some-from_name.ensures in
    rw c.in_ok-push.ensures.items (row-more g.K.RowKey.key g.V.FromValue.seen g.V.FromValue.shape all c.next.new.self e rows
    c.in-Some-from_name.key c.in_ok-value.value c.in_ok-value.ensures named before)

-- the names rise, so the keys do
pub returns-clause-sorted : goal.returns-clause-sorted
returns-clause-sorted g c =
    let all = c.into_iter-name-iterator.result in
    let rows = c.loop-name.rows.items in
    let whole : all ≡ c.in-Some.members.now.entries = search rules in
    let sorted = subst (λ es. IsStrictlySortedBy string_cmp (keys_of es)) (sym whole) c.iter-name-items.ensures.ordered in
    let ended = subst (λ left. IsReadBefore g.K.RowKey.key g.V.FromValue.seen g.V.FromValue.shape all left rows) c.in-None.ensures.steps.0
    c.loop-name.invariant in
    let said = rows-end g.K.RowKey.key g.V.FromValue.seen g.V.FromValue.shape all rows ended in
    subst (IsStrictlySortedBy g.K.Ord.cmp) (keys_of-map_values g.V.FromValue.seen rows)
    (keys_rise g.K.RowKey.key g.V.FromValue.shape g.K.Ord.cmp g.met.K.RowKey.by_name all _ sorted said)
