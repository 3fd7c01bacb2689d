use Rattle.std.proofs.Common.{◌≡◌, ◌<◌, ◌∙◌, sym, ap, true, false, length, get_or, refl}
use Rattle.std.proofs.lemmas.Bool.{false≢true, false_from_ne_true, and_from}
use Rattle.std.proofs.lemmas.List.Folds.{list_all_more}
use Rattle.icu_locale_core.specs.TextSet.{contains, rising, is_subset}
use Rattle.icu_locale_core.specs.laws.TextSets.{contains-rising, is_among-Contains}
use Rattle.icu_locale_core.proofs.TextSets.{rising_rises, is_subset-at}
use Rattle.icu_locale_core.proofs.Merges.{answers-here, answers-next}
use Rattle.icu_locale_core.proofs.variants.Variants.is_subset.Goals as goal

pub loop-variant-init : goal.loop-variant-init
loop-variant-init c = record {
  inside = refl;
  rises = rw c.as_slice-rest.ensures (rising_rises c.args.others.now);
  answers = λ k low high. rw c.as_slice-rest.ensures (contains-rising c.args.others.now _);
}

pub returns-then-not-is_there : goal.returns-then-not-is_there
returns-then-not-is_there c =
    let s = c.args.self.now in
    let others = c.args.others.now in
    let t = c.variant-item.result in
    let place = c.loop-variant.variant-index in
    let within : place < length (rising s) = rw (← c.as_slice-variant-items.ensures) c.loop-variant-test.true in
    let is : t ≡ get_or (rising s) place t = c.variant-item.is ∙ ap (λ ts. get_or ts place t) c.as_slice-variant-items.ensures in
    let there : contains s t ≡ true = contains-rising s t ∙ is_among-Contains t (rising s) (place, within, sym is) in
    let off : contains others t ≡ false = answers-here others (rising s) (rising_rises s) place t c.loop-variant.rest.now within is
    c.loop-variant.invariant.answers ∙ sym c.past-is_there.ensures.there ∙ c.if-not-is_there.true in
    sym (false_from_ne_true (is_subset s others) (λ all. false≢true (sym off ∙ is_subset-at s others t all there)))

pub loop-variant-preserved : goal.loop-variant-preserved
loop-variant-preserved c =
    let s = c.args.self.now in
    let others = c.args.others.now in
    let t = c.variant-item.result in
    let place = c.loop-variant.variant-index in
    let within : place < length (rising s) = rw (← c.as_slice-variant-items.ensures) c.loop-variant-test.true in
    let is : t ≡ get_or (rising s) place t = c.variant-item.is ∙ ap (λ ts. get_or ts place t) c.as_slice-variant-items.ensures in
    let found : contains others t ≡ true = answers-here others (rising s) (rising_rises s) place t c.loop-variant.rest.now within is
    c.loop-variant.invariant.answers ∙ sym c.past-is_there.ensures.there ∙ c.if-not-is_there.false in
    record {
      inside = list_all_more (contains others) (rising s) place t within ∙ and_from _ _ c.loop-variant.invariant.inside (ap (contains others) (sym is) ∙ found);
      rises = c.past-is_there.ensures.rises;
      answers = answers-next others (rising s) (rising_rises s) place t c.loop-variant.rest.now within is c.past-is_there.result.0.now
          c.loop-variant.invariant.answers c.past-is_there.ensures.later;
    }
