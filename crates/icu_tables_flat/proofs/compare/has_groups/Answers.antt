use Rattle.std.proofs.Common.{arith}
use Rattle.icu_tables_flat.specs.Flat.{listed}
use Rattle.icu_tables_flat.proofs.Same.{same_more}
use Rattle.icu_tables_flat.proofs.compare.has_groups.Goals as goal

pub loop-at-preserved : goal.loop-at-preserved
loop-at-preserved c =
    same_more (listed c.args.flat.now) c.args.groups.now c.loop-at.at c.index-groups-at.result c.loop-at.invariant
    (c.has_group.ensures c.if-not-has_group.false) (omega arith) c.index-groups-at.is
