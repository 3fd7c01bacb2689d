use Rattle.std.proofs.Common.{◌≡◌, take}
use Rattle.icu_locale_core.proofs.sorted_rows.SortedRows.try_clone.Given as goal

-- the rows so far are copied
abbrev pub invariant-loop-row : goal.invariant-loop-row
invariant-loop-row g l = l.rows.items ≡ take l.row-index l.row-items
