use Rattle.std.proofs.Common.{◌≤◌, length, nat_eq, sym, ap, ◌∙◌, subst, arith}
use Rattle.std.specs.Cmp.Lexicographic.{pointwise}
use Rattle.std.specs.List.Sorted.{IsStrictlySortedBy}
use Rattle.std.specs.Map.{keys_of}
use Rattle.std.proofs.lemmas.List.{take_all}
use Rattle.std.proofs.lemmas.List.Filters.{dedup_is}
use Rattle.icu_locale_core.specs.TextSet.{text_cmp}
use Rattle.icu_tables.proofs.Items.{unique_rises, unique_is_set}
use Rattle.icu_tables.proofs.from_json.direction.set_from.Goals as goal

-- the scripts are sorted, and each is there once
pub try_from_sorted-requires : goal.try_from_sorted-requires
try_from_sorted-requires c =
    let sorted = c.sort_unstable.new.self.items in
    let left = dedup_is (pointwise nat_eq) sorted c.dedup.new.self.items c.dedup.ensures.filtered in
    let past : length c.deref-script-items.result.now ≤ c.loop-script.script-index = omega arith in
    let whole = c.loop-script.invariant ∙ take_all c.loop-script.script-index c.deref-script-items.result.now past ∙ c.deref-script-items.ensures.value in
    subst (IsStrictlySortedBy text_cmp) (sym whole) (unique_rises sorted c.dedup.new.self.items left c.sort_unstable.ensures.sorted)

-- and they are those of the list
pub returns-clause-members : goal.returns-clause-members
returns-clause-members c =
    let sorted = c.sort_unstable.new.self.items in
    let left = dedup_is (pointwise nat_eq) sorted c.dedup.new.self.items c.dedup.ensures.filtered in
    let past : length c.deref-script-items.result.now ≤ c.loop-script.script-index = omega arith in
    let whole = c.loop-script.invariant ∙ take_all c.loop-script.script-index c.deref-script-items.result.now past ∙ c.deref-script-items.ensures.value in
    ap keys_of c.in_ok-try_from_sorted.ensures.rows ∙ whole ∙ unique_is_set c.args.scripts.items sorted c.dedup.new.self.items left
    c.sort_unstable.ensures.permutation c.sort_unstable.ensures.sorted
