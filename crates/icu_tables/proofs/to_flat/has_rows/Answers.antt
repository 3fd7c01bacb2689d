use Rattle.std.proofs.Common.{◌∷◌, ◌+◌, ◌≡◌, ◌∙◌, drop, sym, ap, subst}
use Rattle.std.proofs.lemmas.List.{drop_more, drop_all}
use Rattle.icu_tables.specs.Groups.{NameGroup, group_rows, request_of}
use Rattle.icu_tables.specs.LentNames.{keyed}
use Rattle.icu_tables.specs.inner.Told.{AreToldBy}
use Rattle.icu_tables.proofs.ToFlat.{told_text}
use Rattle.icu_tables.proofs.to_flat.has_rows.Goals as goal

-- the name of one text more is there
pub loop-row-preserved : goal.loop-row-preserved
loop-row-preserved c =
    let l = c.loop-row in
    let row = c.row-item.result in
    let rows = c.args.rows.now in
    let group : NameGroup = (c.args.marker, c.args.locale.now) in
    let more = drop (l.row-index + 1) rows in
    let left : drop l.row-index rows ≡ row ∷ more = drop_more rows l.row-index row c.loop-row-test.true ∙ ap (λ first. first ∷ more) (sym c.row-item.is) in
    λ told. l.invariant (subst (λ texts. AreToldBy c.args.names.now (group_rows request_of group (keyed c.args.marker texts))) (sym left)
    (told_text c.args.names.now group c.args.marker row more (c.has_row.ensures c.if-not-has_row.false) told))

-- none is left
pub returns : goal.returns
returns c =
    let l = c.loop-row in
    let group : NameGroup = (c.args.marker, c.args.locale.now) in
    λ _. l.invariant (subst (λ texts. AreToldBy c.args.names.now (group_rows request_of group (keyed c.args.marker texts)))
    (sym (drop_all l.row-index c.args.rows.now c.loop-row-test.false)) tt)
