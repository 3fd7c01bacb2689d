use Rattle.std.proofs.Common.{◌≡◌, take}
use Rattle.icu_tables_flat.specs.Flat.{run_at}
use Rattle.icu_tables_flat.proofs.compare.has_rows.Given as goal

abbrev pub invariant-loop-at : goal.invariant-loop-at
invariant-loop-at l = take l.at (run_at l.fn.flat l.fn.run) ≡ take l.at l.fn.rows
