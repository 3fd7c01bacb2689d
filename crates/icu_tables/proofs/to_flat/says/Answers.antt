use Rattle.std.proofs.Common.{◌≡◌, ◌∙◌, Some, filter_map, sym, ap, subst}
use Rattle.std.specs.Option.{option_map}
use Rattle.std.proofs.lemmas.Option.{same_Some}
use Rattle.icu_tables_flat.specs.Flat.{listed}
use Rattle.icu_tables_flat.specs.Form.{flat_rows}
use Rattle.icu_tables.specs.Groups.{flat_names}
use Rattle.icu_tables.specs.LentNames.{keyed_group, rows_in_flat}
use Rattle.icu_tables.specs.inner.Told.{AreToldBy}
use Rattle.icu_tables.proofs.ToFlat.{told_alike}
use Rattle.icu_tables.proofs.to_flat.says.Goals as goal

-- each has the names of the other
pub returns-then-tells_groups : goal.returns-then-tells_groups
returns-then-tells_groups c =
    let flat = c.in-Ok.flat in
    let names = c.args.names.now in
    let read : flat_rows c.args.bytes.now ≡ Some flat = c.in-Ok.ensures.read in
    let same : listed flat ≡ c.args.texts.now = same_Some _ _ (ap (option_map listed) (sym read) ∙ c.requires) in
    let told = subst (AreToldBy (rows_in_flat flat)) c.groups.ensures (c.tells_groups.ensures c.if-tells_groups.true) in
    λ has.
    let also = subst (λ named. AreToldBy names (flat_names (filter_map keyed_group named))) (c.as_slice.ensures.rows ∙ sym same) (c.has_groups.ensures has) in
    (flat, read, told_alike c.keys_are_told_apart.ensures.names (rows_in_flat flat) names told also)
