use Rattle.std.proofs.Common.{rules}
use Rattle.std.specs.Ordering.{is_lt, is_le}
use Rattle.std.proofs.lemmas.List.Sorted.{IsPartitionPoint-from_clause}
use Rattle.icu_locale.specs.Index.{subtags_cmp}
use Rattle.icu_locale.proofs.SortedRows.{rows_rise, rest_rises, parted_below, parted_above, IsPartOf-cut}
use Rattle.icu_locale.proofs.negotiator.rows_with.Goals as goal

-- after the rows below the form, up to those above it
pub returns : goal.returns
returns c =
    let rows = c.args.rows.now in
    let rest = c.split_at.result.1.now in
    let d = c.args.minimal.now in
    let first = IsPartitionPoint-from_clause (λ r. is_lt (subtags_cmp r.minimal d)) rows c.partition_point-below.result
    c.partition_point-below.ensures.partitioned (parted_below rows d (rows_rise rows c.requires d)) (λ a r q k. search rules) in
    let second = IsPartitionPoint-from_clause (λ r. is_le (subtags_cmp r.minimal d)) rest c.partition_point-count.result
    c.partition_point-count.ensures.partitioned (parted_above rest d (rest_rises rows rest d c.partition_point-below.result c.requires
    c.split_at.ensures.back)) (λ a r q k. search rules) in
    IsPartOf-cut rows rest _ d c.partition_point-below.result c.partition_point-count.result c.requires c.split_at.ensures.back
    c.split_at-2.ensures.front c.partition_point-below.ensures.bound c.partition_point-count.ensures.bound first second
