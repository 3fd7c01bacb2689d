use Rattle.std.proofs.Common.{◌≡◌, None, option_copied, drop}
use Rattle.icu_tables_flat.specs.inner.Walks.{rows_fit}
use Rattle.icu_tables_flat.proofs.check.rows_fit.Given as goal

abbrev pub invariant-loop-row : goal.invariant-loop-row
invariant-loop-row l =
    rows_fit l.fn.texts (option_copied l.before) (drop l.row-index l.fn.rows)
    ≡ rows_fit l.fn.texts None l.fn.rows
