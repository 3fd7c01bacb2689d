use Rattle.std.proofs.Common.{◌≡◌, drop}
use Rattle.icu_tables_flat.specs.Form.{ends}
use Rattle.icu_tables_flat.specs.inner.Walks.{runs_fit}
use Rattle.icu_tables_flat.proofs.check.runs_fit.Given as goal

abbrev pub invariant-loop-run : goal.invariant-loop-run
invariant-loop-run l =
    runs_fit l.fn.texts l.fn.rows l.start (ends (drop l.run-index l.fn.runs))
    ≡ runs_fit l.fn.texts l.fn.rows 0 (ends l.fn.runs)
