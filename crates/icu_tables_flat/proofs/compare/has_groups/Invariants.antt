use Rattle.std.proofs.Common.{◌≡◌, take}
use Rattle.icu_tables_flat.specs.Flat.{listed}
use Rattle.icu_tables_flat.proofs.compare.has_groups.Given as goal

abbrev pub invariant-loop-at : goal.invariant-loop-at
invariant-loop-at l = take l.at (listed l.fn.flat) ≡ take l.at l.fn.groups
