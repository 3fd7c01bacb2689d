use Rattle.icu_locale.specs.Kinds.{next}
use Rattle.icu_locale.specs.LikelyTable.{likely}
use Rattle.icu_locale.specs.RuleSet.{lent}
use Rattle.icu_locale_runs.specs.laws.LaterEnds.{alone}
use Rattle.icu_locale_key.proofs.AtOnce.{if_stable_at_once}
use Rattle.icu_locale_key.proofs.at_once.bring_at_once.Goals as goal

pub returns-then-is_canonical-clause-key : goal.returns-then-is_canonical-clause-key
returns-then-is_canonical-clause-key c =
    let rules = lent c.args.canonicalizer.now.rules in
    let table = likely c.args.canonicalizer.now.expander in
    let told = c.minimize_at_once.ensures in
    if_stable_at_once table rules c.args.id.now c.minimize_at_once.new.id
    (alone (next table rules) c.args.id.now (c.is_canonical.ensures.0 c.if-is_canonical.true)) c.minimize_at_once.result told.minimal told.class told.part
