use Rattle.std.proofs.Common.{◌≡◌, ◌++◌, IfOk, sym, ap, ◌∙◌, subst}
use Rattle.std.proofs.lemmas.List.{append-nil}
use Rattle.icu_provider.specs.SortedMaps.{IsSortedMap}
use Rattle.icu_tables.proofs.from_json.rows.in_one_list.Goals as goal

-- no row is left, so all were taken
pub from_rows-requires : goal.from_rows-requires
from_rows-requires g c =
    let rows = c.loop-row.rows.items in
    let whole = c.loop-row.invariant ∙ ap (λ left. rows ++ left) c.in-None.ensures.steps.0 ∙ append-nil rows in
    subst (IsSortedMap g.K.Ord.cmp) whole c.len.ensures.ordered

pub returns : goal.returns
returns g c =
    let rows = c.loop-row.rows.items in
    let whole = c.loop-row.invariant ∙ ap (λ left. rows ++ left) c.in-None.ensures.steps.0 ∙ append-nil rows in
    subst (λ listed. IfOk c.from_rows.result (λ map. g.M.FromRows.kept map ≡ listed)) (sym whole) c.from_rows.ensures
