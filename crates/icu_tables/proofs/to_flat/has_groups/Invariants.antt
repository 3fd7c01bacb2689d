use Rattle.std.proofs.Common.{drop, filter_map}
use Rattle.icu_tables.specs.Groups.{flat_names}
use Rattle.icu_tables.specs.LentNames.{keyed_group}
use Rattle.icu_tables.specs.inner.Told.{AreToldBy}
use Rattle.icu_tables.proofs.to_flat.has_groups.Given as goal

-- the names of all groups are there where those of the groups that are left are
abbrev pub invariant-loop-group : goal.invariant-loop-group
invariant-loop-group l = AreToldBy l.fn.names (flat_names (filter_map keyed_group (drop l.group-index l.fn.groups)))
    → AreToldBy l.fn.names (flat_names (filter_map keyed_group l.fn.groups))
