use Rattle.std.proofs.Common.{◌≡◌, ◌++◌, take}
use Rattle.std.specs.Map.{keys_of}
use Rattle.icu_tables_flat.specs.Flat.{run_at}
use Rattle.icu_tables.specs.LentNames.{keyed}
use Rattle.icu_tables.proofs.lent_names.add_run_keys.Given as goal

-- the keys of the rows so far were added
abbrev pub invariant-loop-at : goal.invariant-loop-at
invariant-loop-at l = l.keys.items ≡ l.initial.keys.items ++ keys_of (keyed l.fn.marker (take l.at (run_at l.fn.lent l.fn.run)))
