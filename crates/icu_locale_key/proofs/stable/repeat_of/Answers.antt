use Rattle.std.proofs.Common.{inr, refl, subst}
use Rattle.icu_locale_core.specs.declared.langid.LanguageIdentifier.{LanguageIdentifier}
use Rattle.icu_locale.specs.LikelyTable.{likely}
use Rattle.icu_locale.specs.RuleSet.{lent}
use Rattle.icu_locale.specs.declared.expander.Favor.TheVariants.{RegionFirst}
use Rattle.icu_locale_key.specs.Keys.{IsKey}
use Rattle.icu_locale_key.proofs.stable.repeat_of.Goals as goal

pub returns-in-Ok-bring_to_key-clause-told : goal.returns-in-Ok-bring_to_key-clause-told
returns-in-Ok-bring_to_key-clause-told c =
    let rules = lent c.args.canonicalizer.now.rules in
    let table = likely c.args.canonicalizer.now.expander in
    let P : LanguageIdentifier → Type 0 = λ x. IsKey RegionFirst table rules x c.bring_to_key.new.id in
    inr (refl, (c.bring_to_key.new.id, subst P c.in-Ok.ensures.same c.in-Ok-bring_to_key.ensures.key))
