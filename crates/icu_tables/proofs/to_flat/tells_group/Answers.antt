use Rattle.std.proofs.Common.{◌∷◌, ◌+◌, ◌≡◌, ◌∙◌, drop, sym, ap, subst}
use Rattle.std.proofs.lemmas.List.{drop_more, drop_all}
use Rattle.icu_tables.specs.Groups.{Names, group_rows, request_of}
use Rattle.icu_tables.specs.LentNames.{rows_in_flat}
use Rattle.icu_tables.specs.inner.Told.{AreToldBy}
use Rattle.icu_tables.proofs.to_flat.tells_group.Goals as goal

-- one name more is told
pub loop-row-preserved : goal.loop-row-preserved
loop-row-preserved c =
    let l = c.loop-row in
    let row = c.row-item.result in
    let rows = c.as_slice-row-items.result.now in
    let group = c.args.group.now.0 in
    let more = drop (l.row-index + 1) rows in
    let left : drop l.row-index rows ≡ row ∷ more = drop_more rows l.row-index row c.loop-row-test.true ∙ ap (λ first. first ∷ more) (sym c.row-item.is) in
    λ told. l.invariant (subst (λ names. AreToldBy (rows_in_flat c.args.flat.now) (group_rows request_of group names)) (sym left)
    (c.tells_row.ensures c.if-not-tells_row.false, told))

-- none is left
pub returns : goal.returns
returns c =
    let l = c.loop-row in
    let rows = c.as_slice-row-items.result.now in
    let told = λ (names : Names). AreToldBy (rows_in_flat c.args.flat.now) (group_rows request_of c.args.group.now.0 names) in
    λ _. subst told c.as_slice-row-items.ensures.rows (l.invariant (subst told (sym (drop_all l.row-index rows c.loop-row-test.false)) tt))
