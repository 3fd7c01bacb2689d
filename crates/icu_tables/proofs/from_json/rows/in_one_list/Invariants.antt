use Rattle.std.proofs.Common.{◌≡◌, ◌++◌}
use Rattle.icu_tables.proofs.from_json.rows.in_one_list.Given as goal

-- the rows that were taken, before those that are left, are the map's
abbrev pub invariant-loop-row : goal.invariant-loop-row
invariant-loop-row g l = l.fn.map.entries ≡ l.rows.items ++ l.row-iterator
