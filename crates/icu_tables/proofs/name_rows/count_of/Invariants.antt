use Rattle.std.proofs.Common.{◌≡◌, ◌+◌, ◌-◌, ◌^◌, ◌<◌, drop, length}
use Rattle.std.specs.Prelude.{min}
use Rattle.icu_tables.specs.Groups.{flat_names}
use Rattle.icu_tables.proofs.name_rows.count_of.Given as goal

-- what was counted and what is left make the whole
abbrev pub invariant-loop-group : goal.invariant-loop-group
invariant-loop-group l = record {
  counted : min (l.count + length (flat_names (drop l.group-index l.groups))) (2 ^ 64 - 1) ≡ min (length (flat_names l.groups)) (2 ^ 64 - 1);
  small : l.count < 2 ^ 64;
}
