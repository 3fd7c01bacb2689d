use Rattle.std.proofs.Common.{sym, ◌∙◌, subst}
use Rattle.icu_locale_core.specs.declared.langid.LanguageIdentifier.{LanguageIdentifier}
use Rattle.icu_locale_core.specs.laws.Identifiers.{identifiers_decide}
use Rattle.icu_locale.specs.LikelyTable.{likely}
use Rattle.icu_locale.specs.RuleSet.{lent}
use Rattle.icu_locale.specs.declared.expander.Favor.TheVariants.{RegionFirst}
use Rattle.icu_locale_key.specs.Keys.{IsKey}
use Rattle.icu_locale_key.proofs.keys.is_own_key.Goals as goal

-- an identifier has one key, and identifiers that compare equal are equal
pub returns-in-Ok-bring_to_key-clause-told : goal.returns-in-Ok-bring_to_key-clause-told
returns-in-Ok-bring_to_key-clause-told c =
    let rules = lent c.args.canonicalizer.now.rules in
    let table = likely c.args.canonicalizer.now.expander in
    let id = c.args.id.now in
    let key = c.bring_to_key.new.id in
    let P : LanguageIdentifier → Type 0 = λ x. IsKey RegionFirst table rules x key in
    let Q : LanguageIdentifier → Type 0 = λ x. IsKey RegionFirst table rules id x in
    let is_key : IsKey RegionFirst table rules id key = subst P c.in-Ok.ensures.same c.in-Ok-bring_to_key.ensures.key in
    let equal = identifiers_decide key id in (
      λ told. subst Q (equal.0 (sym c.eq.ensures ∙ told)) is_key,
      λ own. c.eq.ensures ∙ equal.1 (c.key_is_one.ensures.one RegionFirst table rules id key id is_key own),
    )
