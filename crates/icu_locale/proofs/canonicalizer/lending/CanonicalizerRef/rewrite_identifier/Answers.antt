use Rattle.std.proofs.Common.{None, Some, subst}
use Rattle.std.proofs.lemmas.Result.{err_from_is_err_and}
use Rattle.icu_locale.specs.LikelyTable.{likely}
use Rattle.icu_locale.specs.RuleSet.{lent}
use Rattle.icu_locale.specs.Kinds.{next}
use Rattle.icu_locale_runs.specs.Run.{IsLaterEnd}
use Rattle.icu_locale.specs.declared.expander.TransformResult.TheVariants.{Modified, Unmodified}
use Rattle.icu_locale.proofs.Alone.{canonicalized, refused, same_answer, changed_answer}
use Rattle.icu_locale.proofs.canonicalizer.lending.CanonicalizerRef.rewrite_identifier.Goals as goal

-- the run has no end, or memory was refused
pub returns-in_err-last-clause-outcome : goal.returns-in_err-last-clause-outcome
returns-in_err-last-clause-outcome c =
    let p = err_from_is_err_and c.from_residual.result c.from_residual.ensures.1 in
    rw (p.1, p.2) (refused (likely c.args.self.now.expander) (lent c.args.self.now.rules) c.args.id.now c.in_err-last.field-0.0
    c.in_err-last.ensures.refused c.in_err-last.ensures.free)

-- the run has an end
pub returns-in-Some-clause-outcome : goal.returns-in-Some-clause-outcome
returns-in-Some-clause-outcome c =
    let ends = subst (IsLaterEnd (next (likely c.args.self.now.expander) (lent c.args.self.now.rules)) c.args.id.now) c.in-Some.is c.in_ok-last.ensures.end in
    canonicalized (likely c.args.self.now.expander) (lent c.args.self.now.rules) c.args.id.now (Some c.in-Some.last) Modified ends
    (changed_answer _ (lent c.args.self.now.rules) c.args.id.now ends.0)

-- or none, where nothing follows the identifier
pub returns-in-None-clause-outcome : goal.returns-in-None-clause-outcome
returns-in-None-clause-outcome c =
    let none = subst (IsLaterEnd (next (likely c.args.self.now.expander) (lent c.args.self.now.rules)) c.args.id.now) c.in-None.is c.in_ok-last.ensures.end in
    canonicalized (likely c.args.self.now.expander) (lent c.args.self.now.rules) c.args.id.now None Unmodified none
    (same_answer _ (lent c.args.self.now.rules) c.args.id.now none)
