use Rattle.std.proofs.Common.{◌≡◌, not, take}
use Rattle.std.specs.List.{filter}
use Rattle.std.specs.List.Sorted.{IsStrictlySortedBy}
use Rattle.icu_locale_core.specs.TextSet.{text_cmp, contains, rising}
use Rattle.icu_locale_core.proofs.Merges.{AnswersFrom}
use Rattle.icu_locale_core.proofs.variants.Variants.without.Given as goal

-- those passed that are not removed, and what is left of the removed answers for those to come
abbrev pub invariant-loop-variant : goal.invariant-loop-variant
invariant-loop-variant l = record {
  kept : l.list.items ≡ filter (λ t. not (contains l.fn.removed t)) (take l.variant-index (rising l.fn.self));
  rises : IsStrictlySortedBy text_cmp l.rest;
  answers : AnswersFrom l.fn.removed l.rest (rising l.fn.self) l.variant-index;
}
