use Rattle.std.proofs.Common.{◌≡◌, ℕ, List, [], ◌∷◌, ◌++◌, length, append_assoc, sym, ap, ◌∙◌, subst, arith}
use Rattle.std.proofs.lemmas.List.{append-nil, nil_from_length}
use Rattle.std.specs.Vec.Iter.{into_iter_items}
use Rattle.icu_provider.specs.Requests.{name_cmp}
use Rattle.icu_provider.specs.SortedMaps.{IsSortedMap}
use Rattle.icu_provider.specs.declared.data_locale.DataLocale.{DataLocale}
use Rattle.icu_provider.specs.declared.names.NameKey.{NameKey}
use Rattle.icu_provider.specs.declared.names.NameMarker.{NameMarker}
use Rattle.icu_tables.proofs.Gaps.{insert_entry-behind}
use Rattle.icu_tables.proofs.NameGroups.{name_total}
use Rattle.icu_tables.proofs.from_json.names.NameRowsFromRowsTuple3NameMarkerDataLocaleNameKeyTableText.from_rows.Goals as goal

-- the keys rise, so the row comes after those that are there
pub loop-marker-preserved : goal.loop-marker-preserved
loop-marker-preserved c =
    let steps = c.in-Some.ensures.steps in
    let names = c.enter_group.new.names in
    let rest = into_iter_items c.next.new.self in
    let row : (NameMarker × DataLocale × NameKey) × List ℕ = ((c.in-Some.marker, c.in-Some.locale, c.in-Some.key), c.in-Some.name) in
    let whole : c.args.rows.items ≡ names ++ row ∷ rest = c.loop-marker.invariant.0
    ∙ ap (λ left. c.loop-marker.names ++ left) steps.0 ∙ ap (λ now. now ++ row ∷ rest) (sym c.enter_group.ensures) in
    let rises = subst (IsSortedMap name_cmp) whole c.requires in
    let put : c.put.new.self ≡ names ++ row ∷ [] = c.in-Ok.ensures.rows ∙ insert_entry-behind name_total names rest row rises in
    let shorter : length (into_iter_items c.loop-marker.marker-iterator) ≡ length (row ∷ rest) = ap length steps.0 in (
      whole ∙ sym (append_assoc names (row ∷ []) rest) ∙ ap (λ now. now ++ rest) (sym put),
      omega (arith, c.loop-marker.invariant.1, steps.1, shorter),
    )

-- no row is left, so all are in
pub returns : goal.returns
returns c =
    let none : into_iter_items c.loop-marker.marker-iterator ≡ [] = nil_from_length (into_iter_items c.loop-marker.marker-iterator)
    (omega (arith, c.loop-marker.invariant.1, c.in-None.ensures.steps.0)) in
    c.note_group.ensures ∙ sym (c.loop-marker.invariant.0 ∙ ap (λ left. c.loop-marker.names ++ left) none ∙ append-nil c.loop-marker.names)
