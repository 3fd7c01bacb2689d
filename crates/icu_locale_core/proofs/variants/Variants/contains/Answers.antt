use Rattle.std.proofs.Common.{◌∙◌, sym, subst}
use Rattle.std.specs.List.Sorted.{IsStrictlySortedBy}
use Rattle.icu_locale_core.specs.TextSet.{text_cmp}
use Rattle.icu_locale_core.specs.laws.TextSets.{contains-rising, text_total}
use Rattle.icu_locale_core.proofs.TextSets.{rising_rises}
use Rattle.icu_locale_core.proofs.VariantLists.{is_ok-search}
use Rattle.icu_locale_core.proofs.variants.Variants.contains.Goals as goal

pub returns : goal.returns
returns c =
    let rise = subst (IsStrictlySortedBy text_cmp) (sym c.as_slice.ensures) (rising_rises c.args.self.now) in
    let found = is_ok-search text_total c.as_slice.result.now c.args.variant.now c.binary_search.result rise c.binary_search.ensures.bound
    c.binary_search.ensures.ok c.binary_search.ensures.position in
    c.is_ok.ensures.value ∙ found ∙ rw c.as_slice.ensures (sym (contains-rising c.args.self.now c.args.variant.now))
