use Rattle.icu_locale_core.proofs.Written.{without_variants}
use Rattle.icu_locale_core.proofs.laws.spelled_without_variants.Goals as goal

pub returns : goal.returns
returns c = without_variants
