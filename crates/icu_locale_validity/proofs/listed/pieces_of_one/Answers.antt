use Rattle.std.proofs.Common.{sym, [], ◌∷◌}
use Rattle.icu_locale_core.specs.laws.SortedMaps.{lookup_at, lookup_in_gap}
use Rattle.icu_locale_validity.proofs.Ones.{value_total}
use Rattle.icu_locale_validity.proofs.listed.pieces_of_one.Goals as goal

pub returns-in-Ok : goal.returns-in-Ok
returns-in-Ok c =
    rw (← c.as_slice-rows.ensures.rows) (sym (lookup_at value_total c.as_slice-rows.result.now (c.args.piece ∷ []) c.in-Ok.at c.index-rows-at.result
    (rw c.as_slice-rows.ensures.rows c.as_slice-rows.ensures.sorted) c.in-Ok.ensures))

pub returns-in-Err : goal.returns-in-Err
returns-in-Err c = rw (← c.as_slice-rows.ensures.rows) (sym (lookup_in_gap value_total _ _ _ c.in-Err.ensures))
