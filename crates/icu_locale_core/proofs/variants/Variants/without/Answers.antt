use Rattle.std.proofs.Common.{◌≡◌, ◌<◌, ◌∙◌, ◌++◌, ◌∷◌, [], sym, ap, true, false, not, length, get_or, append-nil}
use Rattle.std.specs.List.{filter}
use Rattle.std.proofs.lemmas.List.{take_all}
use Rattle.icu_locale_core.specs.TextSet.{contains, rising}
use Rattle.icu_locale_core.specs.laws.TextSets.{contains-rising, is_among-Contains}
use Rattle.icu_locale_core.proofs.TextSets.{rising_rises}
use Rattle.icu_locale_core.proofs.Merges.{answers-here, answers-next, filter_more, rising-difference, some_left}
use Rattle.icu_locale_core.proofs.variants.Variants.without.Goals as goal

pub loop-variant-init : goal.loop-variant-init
loop-variant-init c = record {
  kept = c.new-list.ensures.items;
  rises = rw c.as_slice-rest.ensures (rising_rises c.args.removed.now);
  answers = λ k low high. rw c.as_slice-rest.ensures (contains-rising c.args.removed.now _);
}

pub loop-variant-preserved-then-is_removed : goal.loop-variant-preserved-then-is_removed
loop-variant-preserved-then-is_removed c =
    let s = c.args.self.now in
    let removed = c.args.removed.now in
    let t = c.variant-item.result in
    let place = c.loop-variant.variant-index in
    let within : place < length (rising s) = rw (← c.as_slice-variant-items.ensures) c.loop-variant-test.true in
    let is : t ≡ get_or (rising s) place t = c.variant-item.is ∙ ap (λ ts. get_or ts place t) c.as_slice-variant-items.ensures in
    let found : contains removed t ≡ true = answers-here removed (rising s) (rising_rises s) place t c.loop-variant.rest.now within is
    c.loop-variant.invariant.answers ∙ sym c.past-is_removed.ensures.there ∙ c.if-is_removed.true in
    record {
      kept = c.loop-variant.invariant.kept ∙ sym (append-nil _) ∙ sym (filter_more (λ u. not (contains removed u))
          (rising s) place t false within is (ap not found));
      rises = c.past-is_removed.ensures.rises;
      answers = answers-next removed (rising s) (rising_rises s) place t c.loop-variant.rest.now within is c.past-is_removed.result.0.now
          c.loop-variant.invariant.answers c.past-is_removed.ensures.later;
    }

pub loop-variant-preserved : goal.loop-variant-preserved
loop-variant-preserved c =
    let s = c.args.self.now in
    let removed = c.args.removed.now in
    let t = c.variant-item.result in
    let place = c.loop-variant.variant-index in
    let within : place < length (rising s) = rw (← c.as_slice-variant-items.ensures) c.loop-variant-test.true in
    let is : t ≡ get_or (rising s) place t = c.variant-item.is ∙ ap (λ ts. get_or ts place t) c.as_slice-variant-items.ensures in
    let off : contains removed t ≡ false = answers-here removed (rising s) (rising_rises s) place t c.loop-variant.rest.now within is
    c.loop-variant.invariant.answers ∙ sym c.past-is_removed.ensures.there ∙ c.if-is_removed.false in
    record {
      kept = c.in_ok-push.ensures.items ∙ ap (λ ts. ts ++ t ∷ []) c.loop-variant.invariant.kept
          ∙ sym (filter_more (λ u. not (contains removed u)) (rising s) place t true within is (ap not off));
      rises = c.past-is_removed.ensures.rises;
      answers = answers-next removed (rising s) (rising_rises s) place t c.loop-variant.rest.now within is c.past-is_removed.result.0.now
          c.loop-variant.invariant.answers c.past-is_removed.ensures.later;
    }

pub returns-in_err-push-clause-free : goal.returns-in_err-push-clause-free
returns-in_err-push-clause-free c none =
    let s = c.args.self.now in
    let removed = c.args.removed.now in
    let t = c.variant-item.result in
    let place = c.loop-variant.variant-index in
    let within : place < length (rising s) = rw (← c.as_slice-variant-items.ensures) c.loop-variant-test.true in
    let is : t ≡ get_or (rising s) place t = c.variant-item.is ∙ ap (λ ts. get_or ts place t) c.as_slice-variant-items.ensures in
    let off : contains removed t ≡ false = answers-here removed (rising s) (rising_rises s) place t c.loop-variant.rest.now within is
    c.loop-variant.invariant.answers ∙ sym c.past-is_removed.ensures.there ∙ c.if-is_removed.false in
    absurd (some_left s removed t (contains-rising s t ∙ is_among-Contains t (rising s) (place, within, sym is)) off none)

pub returns-clause-list : goal.returns-clause-list
returns-clause-list c =
    let s = c.args.self.now in
    c.loop-variant.invariant.kept
    ∙ ap (filter (λ u. not (contains c.args.removed.now u))) (rw (← c.as_slice-variant-items.ensures)
    (take_all c.loop-variant.variant-index c.as_slice-variant-items.result.now c.loop-variant-test.false))
    ∙ sym (rising-difference s c.args.removed.now)
