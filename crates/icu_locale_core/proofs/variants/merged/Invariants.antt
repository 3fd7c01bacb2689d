use Rattle.std.proofs.Common.{◌≡◌, ◌+◌, ◌++◌, length}
use Rattle.std.specs.List.Sorted.{IsStrictlySortedBy}
use Rattle.icu_locale_core.specs.TextSet.{text_cmp, from_list, rising}
use Rattle.icu_locale_core.proofs.variants.merged.Given as goal

-- what was pushed, and then what is left in order, is the whole in order
abbrev pub invariant-loop-next : goal.invariant-loop-next
invariant-loop-next l = record {
  left_rises : IsStrictlySortedBy text_cmp l.left;
  right_rises : IsStrictlySortedBy text_cmp l.right;
  whole : rising (from_list (l.fn.left ++ l.fn.right)) ≡ l.list.items ++ rising (from_list (l.left ++ l.right));
}

abbrev pub decreases-loop-next : goal.decreases-loop-next
decreases-loop-next l = length l.left + length l.right
