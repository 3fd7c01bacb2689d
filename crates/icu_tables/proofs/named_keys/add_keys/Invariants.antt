use Rattle.std.proofs.Common.{◌≡◌, ◌++◌, take}
use Rattle.std.specs.Map.{keys_of}
use Rattle.icu_tables.proofs.named_keys.add_keys.Given as goal

-- the keys of the names so far stand after those that were there
abbrev pub invariant-loop-name : goal.invariant-loop-name
invariant-loop-name l = l.keys.items ≡ l.fn.keys.items ++ keys_of (take l.name-index l.fn.names)
