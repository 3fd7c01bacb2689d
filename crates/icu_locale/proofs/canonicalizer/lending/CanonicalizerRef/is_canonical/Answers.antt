use Rattle.icu_locale.specs.RuleSet.{lent}
use Rattle.icu_locale.specs.inner.CanonicalParts.{rewritten}
use Rattle.icu_locale.proofs.Alone.{is_last}
use Rattle.icu_locale.proofs.canonicalizer.lending.CanonicalizerRef.is_canonical.Goals as goal

pub returns : goal.returns
returns c =
    is_last (rewritten (lent c.args.self.now.rules) c.args.id.now) c.matching.result _ c.is_none.result c.is_none.ensures
    c.matching.ensures.found
