use Rattle.std.proofs.Common.{None}
use Rattle.icu_locale.specs.LikelyTable.{likely}
use Rattle.icu_locale.specs.RuleSet.{lent}
use Rattle.icu_locale.specs.inner.CanonicalParts.{rewritten}
use Rattle.icu_locale.specs.declared.expander.TransformResult.TheVariants.{Unmodified}
use Rattle.icu_locale.proofs.Canonicals.{counted_run, counted_one}
use Rattle.icu_locale.proofs.Alone.{nothing_next, canonicalized, same_answer}
use Rattle.icu_locale.proofs.canonicalizer.lending.CanonicalizerRef.canonicalize_identifier_counted.Goals as goal

-- no rule matches
pub returns-then-is_none-clause-outcome : goal.returns-then-is_none-clause-outcome
returns-then-is_none-clause-outcome c =
    let none = nothing_next (rewritten (lent c.args.self.now.rules) c.args.id.now) c.matching.result _ c.if-is_none.ensures c.matching.ensures.found in
    canonicalized (likely c.args.self.now.expander) (lent c.args.self.now.rules) c.args.id.now None Unmodified none
    (same_answer _ (lent c.args.self.now.rules) c.args.id.now none)

-- the search that tells is counted, and then those of the run
pub returns-then-is_none-clause-count : goal.returns-then-is_none-clause-count
returns-then-is_none-clause-count c = counted_one (likely c.args.self.now.expander) (lent c.args.self.now.rules) c.args.id.now _ _ c.matching.ensures.counted

pub returns-clause-count : goal.returns-clause-count
returns-clause-count c = counted_run (likely c.args.self.now.expander) (lent c.args.self.now.rules) c.args.id.now _ _ _
    _ c.matching.ensures.counted c.rewrite_identifier.ensures.count
