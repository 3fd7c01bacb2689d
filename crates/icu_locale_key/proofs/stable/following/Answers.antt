use Rattle.std.proofs.Common.{Some, ap, sym, ◌∙◌, subst}
use Rattle.icu_locale_core.specs.declared.langid.LanguageIdentifier.{LanguageIdentifier}
use Rattle.icu_locale_runs.specs.Run.{IsRepeat}
use Rattle.icu_locale.specs.Kinds.{next}
use Rattle.icu_locale.specs.LikelyTable.{likely}
use Rattle.icu_locale.specs.RuleSet.{lent}
use Rattle.icu_locale.specs.declared.expander.Favor.TheVariants.{RegionFirst}
use Rattle.icu_locale_key.specs.Keys.{IsKey, IsKeyRefusal}
use Rattle.icu_locale_key.proofs.KeyRuns.{step_key, step_stuck}
use Rattle.icu_locale_key.proofs.stable.following.Goals as goal

pub returns-in-Ok-bring_to_key-clause-found : goal.returns-in-Ok-bring_to_key-clause-found
returns-in-Ok-bring_to_key-clause-found c =
    let rules = lent c.args.canonicalizer.now.rules in
    let table = likely c.args.canonicalizer.now.expander in
    let key = c.bring_to_key.new.id in
    let P : LanguageIdentifier → Type 0 = λ x. IsKey RegionFirst table rules x key in
    let is_key : P c.args.id.now = subst P c.in-Ok.ensures.same c.in-Ok-bring_to_key.ensures.key in
    c.other_than.ensures ∙ sym (step_key table rules c.args.id.now key is_key)

-- an identifier that has no key follows itself
pub returns-in-Err-NoFixedPoint-clause-found : goal.returns-in-Err-NoFixedPoint-clause-found
returns-in-Err-NoFixedPoint-clause-found c =
    let rules = lent c.args.canonicalizer.now.rules in
    let table = likely c.args.canonicalizer.now.expander in
    let first = c.in-Err-NoFixedPoint.field-0-0 in
    let P : LanguageIdentifier → Type 0 = λ x. IsRepeat (next table rules) x first in
    let repeats : P c.args.id.now =
    subst P c.in-Ok.ensures.same (subst (IsKeyRefusal table rules c.in-Ok.key) c.in-Err-NoFixedPoint.field-0-is c.in-Err-NoFixedPoint.ensures.refused) in
    ap Some (c.in-Err-NoFixedPoint.ensures.unchanged ∙ c.in-Ok.ensures.same) ∙ sym (step_stuck table rules c.args.id.now first repeats)
