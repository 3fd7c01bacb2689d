use Rattle.std.proofs.Common.{inr}
use Rattle.icu_locale.specs.LikelyTable.{likely}
use Rattle.icu_locale.specs.RuleSet.{lent}
use Rattle.icu_locale.specs.declared.expander.Favor.TheVariants.{RegionFirst}
use Rattle.icu_locale_key.proofs.AtOnce.{stable_at_once, refused_first, only_memory}
use Rattle.icu_locale_key.proofs.Unsettled.{refused_by}
use Rattle.icu_locale_key.proofs.stable.bring_to_stable_key.Goals as goal

-- the rules come to no end
pub returns-in-Err-clause-refused : goal.returns-in-Err-clause-refused
returns-in-Err-clause-refused c =
    refused_first (likely c.args.canonicalizer.now.expander) (lent c.args.canonicalizer.now.rules) c.args.id.now c.in-Err.refusal c.in-Err.ensures.refused

pub returns-in-Err-clause-ends : goal.returns-in-Err-clause-ends
returns-in-Err-clause-ends c y stable =
    let rules = lent c.args.canonicalizer.now.rules in
    let table = likely c.args.canonicalizer.now.expander in
    inr (only_memory table rules c.args.id.now (λ z why. c.stable_key_is_one.ensures.not_both table rules c.args.id.now y z stable why)
    c.in-Err.refusal (refused_first table rules c.args.id.now c.in-Err.refusal c.in-Err.ensures.refused))

pub returns-in-Err-clause-names : goal.returns-in-Err-clause-names
returns-in-Err-clause-names c z why =
    let rules = lent c.args.canonicalizer.now.rules in
    let table = likely c.args.canonicalizer.now.expander in
    refused_by table rules (c.minimal_form_is_one.ensures.exists RegionFirst table) c.args.id.now c.in-Err.refusal z
    (refused_first table rules c.args.id.now c.in-Err.refusal c.in-Err.ensures.refused) why

-- the key stays at once
pub returns-in-Some-clause-key : goal.returns-in-Some-clause-key
returns-in-Some-clause-key c =
    let told = c.in-Some.ensures in
    stable_at_once (likely c.args.canonicalizer.now.expander) (lent c.args.canonicalizer.now.rules) c.args.id.now c.in-Ok.key c.minimize_at_once.new.id
    c.in-Ok.ensures.end told.minimal told.class told.part

pub returns-in-Some-clause-names : goal.returns-in-Some-clause-names
returns-in-Some-clause-names c z why =
    let rules = lent c.args.canonicalizer.now.rules in
    let table = likely c.args.canonicalizer.now.expander in
    let told = c.in-Some.ensures in
    let stable = stable_at_once table rules c.args.id.now c.in-Ok.key c.minimize_at_once.new.id c.in-Ok.ensures.end told.minimal told.class told.part in
    absurd (c.stable_key_is_one.ensures.not_both table rules c.args.id.now c.minimize_at_once.new.id z stable why)
