use Rattle.std.proofs.Common.{◌≡◌, true, take}
use Rattle.std.specs.List.{list_all}
use Rattle.std.specs.List.Sorted.{IsStrictlySortedBy}
use Rattle.icu_locale_core.specs.TextSet.{text_cmp, contains, rising}
use Rattle.icu_locale_core.proofs.Merges.{AnswersFrom}
use Rattle.icu_locale_core.proofs.variants.Variants.is_subset.Given as goal

-- those passed are among the others, and what is left of the others answers for those to come
abbrev pub invariant-loop-variant : goal.invariant-loop-variant
invariant-loop-variant l = record {
  inside : list_all (contains l.fn.others) (take l.variant-index (rising l.fn.self)) ≡ true;
  rises : IsStrictlySortedBy text_cmp l.rest;
  answers : AnswersFrom l.fn.others l.rest (rising l.fn.self) l.variant-index;
}
