use Rattle.std.proofs.Common.{drop}
use Rattle.icu_tables.specs.Groups.{group_rows, request_of}
use Rattle.icu_tables.specs.LentNames.{keyed}
use Rattle.icu_tables.specs.inner.Told.{AreToldBy}
use Rattle.icu_tables.proofs.to_flat.has_rows.Given as goal

-- the names of all texts are there where those of the texts that are left are
abbrev pub invariant-loop-row : goal.invariant-loop-row
invariant-loop-row l =
    AreToldBy l.fn.names (group_rows request_of (l.fn.marker, l.fn.locale) (keyed l.fn.marker (drop l.row-index l.fn.rows)))
    → AreToldBy l.fn.names (group_rows request_of (l.fn.marker, l.fn.locale) (keyed l.fn.marker l.fn.rows))
