use Rattle.std.proofs.Common.{drop}
use Rattle.icu_tables.specs.Groups.{flat_names}
use Rattle.icu_tables.specs.LentNames.{rows_in_flat}
use Rattle.icu_tables.specs.inner.Told.{AreToldBy}
use Rattle.icu_tables.proofs.to_flat.tells_groups.Given as goal

-- the names of all groups are told where those of the groups that are left are
abbrev pub invariant-loop-group : goal.invariant-loop-group
invariant-loop-group l = AreToldBy (rows_in_flat l.fn.flat) (flat_names (drop l.group-index l.fn.groups))
    → AreToldBy (rows_in_flat l.fn.flat) (flat_names l.fn.groups)
