use Rattle.std.proofs.Common.{◌≡◌, length}
use Rattle.std.specs.List.Sorted.{IsStrictlySortedBy}
use Rattle.icu_locale_core.specs.TextSet.{text_cmp}
use Rattle.icu_locale_core.specs.inner.Variants.{HasAllAbove}
use Rattle.icu_locale_core.specs.laws.TextSets.{is_among}
use Rattle.icu_locale_core.proofs.variants.past.Given as goal

-- what was passed is below the variant
abbrev pub invariant-loop-first : goal.invariant-loop-first
invariant-loop-first l = record {
  rises : IsStrictlySortedBy text_cmp l.list;
  there : is_among l.variant l.fn.list ≡ is_among l.variant l.list;
  later : HasAllAbove l.variant l.fn.list l.list;
}

abbrev pub decreases-loop-first : goal.decreases-loop-first
decreases-loop-first l = length l.list
