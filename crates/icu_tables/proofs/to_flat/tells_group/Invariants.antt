use Rattle.std.proofs.Common.{drop}
use Rattle.icu_tables.specs.Groups.{group_rows, request_of}
use Rattle.icu_tables.specs.LentNames.{rows_in_flat}
use Rattle.icu_tables.specs.inner.Told.{AreToldBy}
use Rattle.icu_tables.proofs.to_flat.tells_group.Given as goal

-- all names are told where those that are left are
abbrev pub invariant-loop-row : goal.invariant-loop-row
invariant-loop-row l = AreToldBy (rows_in_flat l.fn.flat) (group_rows request_of l.fn.group.0 (drop l.row-index l.row-items))
    → AreToldBy (rows_in_flat l.fn.flat) (group_rows request_of l.fn.group.0 l.row-items)
