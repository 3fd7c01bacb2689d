use Rattle.std.proofs.Common.{◌≡◌, [], length, drop, arith, ap}
use Rattle.std.proofs.Math.ListN.{drop_of_length-le}
use Rattle.icu_tables.specs.Groups.{flat_names}
use Rattle.icu_tables.proofs.name_rows.count_of.Goals as goal

-- no group is left
pub returns : goal.returns
returns c =
    let groups = c.args.groups.now in
    let none : drop c.loop-group.group-index groups ≡ [] = drop_of_length-le groups (omega (arith, c.loop-group-test.false)) in
    let left : length (flat_names (drop c.loop-group.group-index groups)) ≡ 0 = ap (λ rest. length (flat_names rest)) none in
    let whole = c.loop-group.invariant.counted in
    omega (arith, left, whole, c.loop-group.invariant.small)
