use Rattle.icu_locale.specs.LikelyTable.{likely}
use Rattle.icu_locale_key.proofs.AtOnce.{class_of_open}
use Rattle.icu_locale_key.proofs.Lone.{lone_has_class, lone_is_minimal}
use Rattle.icu_locale_key.proofs.at_once.minimize_at_once.Goals as goal

-- a language alone
pub returns-then-is_lone-clause-minimal : goal.returns-then-is_lone-clause-minimal
returns-then-is_lone-clause-minimal c = lone_is_minimal (likely c.args.expander.now) c.args.id.now (c.is_lone.ensures c.if-is_lone.true)

pub returns-then-is_lone-clause-class : goal.returns-then-is_lone-clause-class
returns-then-is_lone-clause-class c = lone_has_class (likely c.args.expander.now) c.args.id.now (c.is_lone.ensures c.if-is_lone.true)

-- it has no script or no region, or all three are known
pub returns-then-is_open_or_known-clause-class : goal.returns-then-is_open_or_known-clause-class
returns-then-is_open_or_known-clause-class c =
    class_of_open (likely c.args.expander.now) c.args.id.now c.minimize-told.new.id c.minimize-told.ensures.minimal
    (c.is_open_or_known.ensures c.if-is_open_or_known.true)
