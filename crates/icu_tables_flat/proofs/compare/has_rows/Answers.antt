use Rattle.std.proofs.Common.{arith}
use Rattle.icu_tables_flat.specs.Flat.{run_at}
use Rattle.icu_tables_flat.proofs.Same.{same_more}
use Rattle.icu_tables_flat.proofs.compare.has_rows.Goals as goal

pub loop-at-preserved : goal.loop-at-preserved
loop-at-preserved c =
    same_more (run_at c.args.flat.now c.args.run) c.args.rows.now c.loop-at.at c.index-rows-at.result c.loop-at.invariant
    (c.has_row.ensures c.if-not-has_row.false) (omega arith) c.index-rows-at.is
