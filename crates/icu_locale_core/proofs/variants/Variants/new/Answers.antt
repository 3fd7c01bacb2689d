use Rattle.std.proofs.Common.{subst, sym}
use Rattle.icu_locale_core.specs.inner.Variants.{IsVariantList}
use Rattle.icu_locale_core.proofs.VariantLists.{IsVariantList-nil}
use Rattle.icu_locale_core.proofs.variants.Variants.new.Goals as goal

pub invariant_of-result : goal.invariant_of-result
invariant_of-result c = subst IsVariantList (sym c.new.ensures.items) IsVariantList-nil
