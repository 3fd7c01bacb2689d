use Rattle.std.proofs.Common.{refl}
use Rattle.icu_locale.specs.declared.expander.Favor.TheVariants.{RegionFirst}
use Rattle.icu_locale.specs.LikelySubtags.{subtags_of}
use Rattle.icu_locale.specs.Index.{without_variants}
use Rattle.icu_locale.proofs.Least.{IsMinimalForm-trials}
use Rattle.icu_locale.proofs.negotiator.plain_form.Goals as goal

-- the first trial over the maximal form of an identifier without variants
pub returns-clause-form : goal.returns-clause-form
returns-clause-form c = IsMinimalForm-trials RegionFirst _ (without_variants (subtags_of c.args.id.now))
    (without_variants c.minimal_locale.result) c.locale_of.result c.minimal_locale.result c.locale_of.ensures c.minimal_locale.ensures refl
