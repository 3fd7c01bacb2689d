use Rattle.std.proofs.Common.{subst, arith}
use Rattle.icu_locale_runs.specs.Run.{IsOutcome}
use Rattle.icu_locale_runs.specs.laws.LaterEnds.{alone}
use Rattle.icu_locale_runs.specs.laws.Runs.{ends_with_no_repeat}
use Rattle.icu_locale.specs.LikelyTable.{likely}
use Rattle.icu_locale.specs.RuleSet.{lent}
use Rattle.icu_locale.specs.declared.expander.Favor.TheVariants.{RegionFirst}
use Rattle.icu_locale_key.specs.inner.KeyRun.{key_step}
use Rattle.icu_locale_key.proofs.KeyRuns.{keys_counted, keys_stay_among, ends_stable, stable_ends, refusal_of}
use Rattle.icu_locale_key.proofs.Unsettled.{no_reason, refused_by}
use Rattle.icu_locale_key.proofs.stable.bring_to_stable_key_counted.Goals as goal

pub end_of_run-requires : goal.end_of_run-requires
end_of_run-requires c =
    let e = c.args.canonicalizer.now.expander in
    keys_stay_among e (lent c.args.canonicalizer.now.rules) (c.the_likely_table_is_one_map.ensures.finite e) c.args.id.now

-- where nothing follows the identifier, it is its own key
pub returns-in-Ok-Same-clause-key : goal.returns-in-Ok-Same-clause-key
returns-in-Ok-Same-clause-key c =
    let rules = lent c.args.canonicalizer.now.rules in
    let table = likely c.args.canonicalizer.now.expander in
    stable_ends table rules (c.minimal_form_is_one.ensures.exists RegionFirst table) c.args.id.now c.args.id.now
    (alone (key_step table rules) c.args.id.now
    (subst (IsOutcome (key_step table rules) c.args.id.now) c.in-Ok-Same.field-0-is c.in-Ok-Same.ensures.outcome))

pub returns-in-Ok-Ends-clause-key : goal.returns-in-Ok-Ends-clause-key
returns-in-Ok-Ends-clause-key c =
    let rules = lent c.args.canonicalizer.now.rules in
    let table = likely c.args.canonicalizer.now.expander in
    let later = subst (IsOutcome (key_step table rules) c.args.id.now) c.in-Ok-Ends.field-0-is c.in-Ok-Ends.ensures.outcome in
    stable_ends table rules (c.minimal_form_is_one.ensures.exists RegionFirst table) c.args.id.now c.in-Ok-Ends.key later.1

pub returns-in-Ok-Repeats-clause-refused : goal.returns-in-Ok-Repeats-clause-refused
returns-in-Ok-Repeats-clause-refused c =
    let rules = lent c.args.canonicalizer.now.rules in
    let table = likely c.args.canonicalizer.now.expander in
    let repeats = subst (IsOutcome (key_step table rules) c.args.id.now) c.in-Ok-Repeats.field-0-is c.in-Ok-Repeats.ensures.outcome in
    refusal_of table rules (c.minimal_form_is_one.ensures.exists RegionFirst table) c.args.id.now c.in-Ok-Repeats.key c.repeat_of.result
    repeats c.repeat_of.ensures.told

-- what has a key that stays has no repeat
pub returns-in-Ok-Repeats-clause-ends : goal.returns-in-Ok-Repeats-clause-ends
returns-in-Ok-Repeats-clause-ends c y stable =
    let rules = lent c.args.canonicalizer.now.rules in
    let table = likely c.args.canonicalizer.now.expander in
    let repeats = subst (IsOutcome (key_step table rules) c.args.id.now) c.in-Ok-Repeats.field-0-is c.in-Ok-Repeats.ensures.outcome in
    let ends = ends_stable table rules (c.minimal_form_is_one.ensures.exists RegionFirst table) c.args.id.now y stable in
    absurd (ends_with_no_repeat (key_step table rules) c.args.id.now y c.in-Ok-Repeats.key ends repeats.again)

pub returns-in-Ok-Same-clause-names : goal.returns-in-Ok-Same-clause-names
returns-in-Ok-Same-clause-names c z why =
    let rules = lent c.args.canonicalizer.now.rules in
    let table = likely c.args.canonicalizer.now.expander in
    let none = subst (IsOutcome (key_step table rules) c.args.id.now) c.in-Ok-Same.field-0-is c.in-Ok-Same.ensures.outcome in
    let ends = alone (key_step table rules) c.args.id.now none in
    absurd (no_reason table rules (c.minimal_form_is_one.ensures.exists RegionFirst table) c.args.id.now c.args.id.now z ends why)

pub returns-in-Ok-Ends-clause-names : goal.returns-in-Ok-Ends-clause-names
returns-in-Ok-Ends-clause-names c z why =
    let rules = lent c.args.canonicalizer.now.rules in
    let table = likely c.args.canonicalizer.now.expander in
    let later = subst (IsOutcome (key_step table rules) c.args.id.now) c.in-Ok-Ends.field-0-is c.in-Ok-Ends.ensures.outcome in
    absurd (no_reason table rules (c.minimal_form_is_one.ensures.exists RegionFirst table) c.args.id.now c.in-Ok-Ends.key z later.1 why)

pub returns-in-Ok-Repeats-clause-names : goal.returns-in-Ok-Repeats-clause-names
returns-in-Ok-Repeats-clause-names c z why =
    let rules = lent c.args.canonicalizer.now.rules in
    let table = likely c.args.canonicalizer.now.expander in
    let form = c.minimal_form_is_one.ensures.exists RegionFirst table in
    let repeats = subst (IsOutcome (key_step table rules) c.args.id.now) c.in-Ok-Repeats.field-0-is c.in-Ok-Repeats.ensures.outcome in
    let refused = refusal_of table rules form c.args.id.now c.in-Ok-Repeats.key c.repeat_of.result repeats c.repeat_of.ensures.told in
    refused_by table rules form c.args.id.now c.repeat_of.result z refused why

pub returns-in-Ok-Same-clause-count : goal.returns-in-Ok-Same-clause-count
returns-in-Ok-Same-clause-count c =
    let rules = lent c.args.canonicalizer.now.rules in
    let table = likely c.args.canonicalizer.now.expander in
    let counted = c.end_of_run.ensures.count in
    keys_counted table rules (c.minimal_form_is_one.ensures.exists RegionFirst table) c.args.id.now c.args.turns.now c.end_of_run.new.turns counted.0 counted.1
    (omega (arith, c.end_of_run.ensures.forward)) (omega (arith, counted.2))

pub returns-in-Ok-Ends-clause-count : goal.returns-in-Ok-Ends-clause-count
returns-in-Ok-Ends-clause-count c =
    let rules = lent c.args.canonicalizer.now.rules in
    let table = likely c.args.canonicalizer.now.expander in
    let counted = c.end_of_run.ensures.count in
    keys_counted table rules (c.minimal_form_is_one.ensures.exists RegionFirst table) c.args.id.now c.args.turns.now c.end_of_run.new.turns counted.0 counted.1
    (omega (arith, c.end_of_run.ensures.forward)) (omega (arith, counted.2))

pub returns-in-Ok-Repeats-clause-count : goal.returns-in-Ok-Repeats-clause-count
returns-in-Ok-Repeats-clause-count c =
    let rules = lent c.args.canonicalizer.now.rules in
    let table = likely c.args.canonicalizer.now.expander in
    let counted = c.end_of_run.ensures.count in
    keys_counted table rules (c.minimal_form_is_one.ensures.exists RegionFirst table) c.args.id.now c.args.turns.now c.repeat_of.new.turns counted.0 counted.1
    (omega (arith, c.end_of_run.ensures.forward, c.repeat_of.ensures.counted)) (omega (arith, counted.2, c.repeat_of.ensures.counted))

pub returns-clause-count : goal.returns-clause-count
returns-clause-count c =
    let rules = lent c.args.canonicalizer.now.rules in
    let table = likely c.args.canonicalizer.now.expander in
    let counted = c.end_of_run.ensures.count in
    keys_counted table rules (c.minimal_form_is_one.ensures.exists RegionFirst table) c.args.id.now c.args.turns.now c.end_of_run.new.turns counted.0 counted.1
    (omega (arith, c.end_of_run.ensures.forward)) (omega (arith, counted.2))
