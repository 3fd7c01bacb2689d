use Rattle.icu_locale.specs.Kinds.{next}
use Rattle.icu_locale.specs.LikelyTable.{likely}
use Rattle.icu_locale.specs.RuleSet.{lent}
use Rattle.icu_locale_runs.specs.laws.LaterEnds.{alone}
use Rattle.icu_locale_key.proofs.AtOnce.{stable_at_once}
use Rattle.icu_locale_key.proofs.at_once.bring_canonical_to_stable_key.Goals as goal

pub returns-in-Some-clause-key : goal.returns-in-Some-clause-key
returns-in-Some-clause-key c =
    let rules = lent c.args.canonicalizer.now.rules in
    let table = likely c.args.canonicalizer.now.expander in
    let told = c.in-Some.ensures in
    stable_at_once table rules c.args.id.now c.args.id.now c.minimize_at_once.new.id
    (alone (next table rules) c.args.id.now c.requires) told.minimal told.class told.part
