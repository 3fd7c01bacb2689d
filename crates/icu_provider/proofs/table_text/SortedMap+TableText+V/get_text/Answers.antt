use Rattle.std.proofs.Common.{sym, ap, ◌∙◌, subst}
use Rattle.icu_locale_core.specs.Maps.{value_at}
use Rattle.icu_locale_core.specs.TextSet.{text_cmp}
use Rattle.icu_locale_core.specs.laws.TextSets.{text_total}
use Rattle.icu_provider.specs.SortedMaps.{IsSortedMap}
use Rattle.icu_provider.specs.laws.SortedMaps.{lookup_at, lookup_in_gap}
use Rattle.icu_provider.proofs.table_text.SortedMap+TableText+V.get_text.Goals as goal

-- the row that was read is the one that the look-up finds
pub returns-in-Ok : goal.returns-in-Ok
returns-in-Ok g c =
    let rows = c.as_slice-rows.ensures in
    let sorted = subst (IsSortedMap text_cmp) (sym rows.rows) rows.sorted in
    let found = lookup_at text_total _ c.args.text.now c.in-Ok.at c.index-rows-at.result sorted c.in-Ok.ensures in
    sym found ∙ ap (λ held. value_at text_cmp held c.args.text.now) rows.rows

-- no row has the text
pub returns-in-Err : goal.returns-in-Err
returns-in-Err g c =
    sym (lookup_in_gap text_total _ _ _ c.in-Err.ensures) ∙ ap (λ held. value_at text_cmp held c.args.text.now) c.as_slice-rows.ensures.rows
