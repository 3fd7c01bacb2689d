use Rattle.std.proofs.Common.{◌∙◌, ◌++◌, ap, subst}
use Rattle.std.specs.List.{All}
use Rattle.std.proofs.lemmas.Bool.{false≢true}
use Rattle.icu_locale_core.specs.Subtag.{IsVariant}
use Rattle.icu_locale_core.specs.TextSet.{from_list, difference}
use Rattle.icu_locale_core.specs.laws.TextSets.{from_list-rising}
use Rattle.icu_locale_core.proofs.TextSets.{rising_rises}
use Rattle.icu_locale_core.proofs.Merges.{none_united}
use Rattle.icu_locale_core.proofs.variants.Variants.try_replaced.Goals as goal

pub returns-in_err-kept-clause-free : goal.returns-in_err-kept-clause-free
returns-in_err-kept-clause-free c none = absurd (false≢true (c.in_err-kept.ensures.free (none_united _ c.args.added.now none)))

pub merged-requires-clause-left : goal.merged-requires-clause-left
merged-requires-clause-left c = rw (c.deref.ensures.value, c.in_ok-kept.ensures.list) (rising_rises (difference c.args.self.now c.args.removed.now))

pub merged-requires-clause-right : goal.merged-requires-clause-right
merged-requires-clause-right c = rw c.as_slice.ensures (rising_rises c.args.added.now)

pub invariant_of-result : goal.invariant_of-result
invariant_of-result c = record {
  rise = rw c.in_ok-items.ensures.list (rising_rises _);
  each = subst (All IsVariant) c.deref-2.ensures.value c.know_each.ensures;
}

pub returns-clause-members : goal.returns-clause-members
returns-clause-members c =
    ap from_list c.in_ok-items.ensures.list
    ∙ from_list-rising (from_list (c.deref.result.now ++ c.as_slice.result.now))
    ∙ (λ i. from_list ((c.deref.ensures.value ∙ c.in_ok-kept.ensures.list) i ++ c.as_slice.ensures i))
