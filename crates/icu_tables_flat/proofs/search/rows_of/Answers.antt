use Rattle.std.proofs.Common.{sym, arith}
use Rattle.icu_tables_flat.proofs.Cuts.{run_past, run_there}
use Rattle.icu_tables_flat.proofs.search.rows_of.Goals as goal

pub returns-then-run-runs : goal.returns-then-run-runs
returns-then-run-runs c = sym (run_past c.args.runs.now c.args.rows.now c.args.run (omega arith))

pub returns : goal.returns
returns c =
    run_there c.args.runs.now c.args.rows.now c.args.run c.start_of.result c.number32.result c.get.result c.requires
    (omega arith) c.start_of.ensures c.number32.ensures c.get.ensures.lookup
