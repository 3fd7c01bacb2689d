use Rattle.std.proofs.Common.{◌∙◌, sym, ap, subst, nat_eq}
use Rattle.std.specs.List.{All}
use Rattle.std.specs.Cmp.Lexicographic.{pointwise}
use Rattle.std.proofs.lemmas.List.Filters.{dedup_is}
use Rattle.icu_locale_core.specs.Subtag.{IsVariant}
use Rattle.icu_locale_core.specs.TextSet.{from_list}
use Rattle.icu_locale_core.specs.inner.Variants.{IsVariantList}
use Rattle.icu_locale_core.proofs.VariantLists.{IsVariantList-dedup}
use Rattle.icu_locale_core.specs.laws.RisingLists.{from_list-dedup}
use Rattle.icu_locale_core.proofs.variants.Variants.try_from_list.Goals as goal

pub invariant_of-result : goal.invariant_of-result
invariant_of-result c =
    let left = dedup_is (pointwise nat_eq) c.sort_unstable.new.self.items c.dedup.new.self.items c.dedup.ensures.filtered in
    subst IsVariantList (sym left) (IsVariantList-dedup c.args.list.items c.sort_unstable.new.self.items c.sort_unstable.ensures.permutation
    c.sort_unstable.ensures.sorted (subst (All IsVariant) c.deref.ensures.value c.know_each.ensures))

pub returns-clause-members : goal.returns-clause-members
returns-clause-members c =
    let left = dedup_is (pointwise nat_eq) c.sort_unstable.new.self.items c.dedup.new.self.items c.dedup.ensures.filtered in
    ap from_list left ∙ from_list-dedup c.args.list.items c.sort_unstable.new.self.items c.sort_unstable.ensures.permutation
