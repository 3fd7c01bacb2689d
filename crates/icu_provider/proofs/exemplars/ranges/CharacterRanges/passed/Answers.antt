use Rattle.std.proofs.Common.{rules, of_calls, nat_le}
use Rattle.std.proofs.lemmas.List.Sorted.{IsPartitionPoint-from_clause}
use Rattle.icu_provider.proofs.Bounds.{bounds_are_parted, IsPlace-from_point}
use Rattle.icu_provider.proofs.exemplars.ranges.CharacterRanges.passed.Goals as goal

-- the bounds rise, so the test parts them
pub returns-clause-place : goal.returns-clause-place
returns-clause-place c =
    let bounds = c.as_slice.result.now in
    let parted = bounds_are_parted bounds c.args.character (rw c.as_slice.ensures.value c.self.invariant.rises) in
    let point = IsPartitionPoint-from_clause (λ bound. nat_le bound c.args.character) bounds c.partition_point.result
    c.partition_point.ensures.partitioned parted (λ a r f k. search (rules, of_calls)) in
    rw (← c.self.view_is, ← c.as_slice.ensures.value) (IsPlace-from_point c.args.character bounds c.partition_point.result
    c.partition_point.ensures.bound point)

pub returns-clause-even : goal.returns-clause-even
returns-clause-even c = rw (← c.self.view_is) c.self.invariant.even
