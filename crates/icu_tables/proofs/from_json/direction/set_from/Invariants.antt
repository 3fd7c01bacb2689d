use Rattle.std.proofs.Common.{◌≡◌, take}
use Rattle.std.specs.Map.{keys_of}
use Rattle.icu_tables.proofs.from_json.direction.set_from.Given as goal

-- the rows so far have the scripts so far
abbrev pub invariant-loop-script : goal.invariant-loop-script
invariant-loop-script l = keys_of l.rows.items ≡ take l.script-index l.script-items
