use Rattle.std.proofs.Common.{Ok, Err}
use Rattle.std.proofs.lemmas.Result.{err_from_is_err_and}
use Rattle.icu_locale.specs.LikelyTable.{likely}
use Rattle.icu_locale.specs.RuleSet.{lent}
use Rattle.icu_locale.proofs.Canonicals.{refused_id, refused_transform, counted_refusal, counted_both}
use Rattle.icu_locale.proofs.canonicalizer.lending.CanonicalizerRef.find_ends.Goals as goal

pub returns-in_err-id-clause-refusal : goal.returns-in_err-id-clause-refusal
returns-in_err-id-clause-refusal c =
    let p = err_from_is_err_and c.from_residual.result c.from_residual.ensures.1 in
    rw (p.1, p.2) (refused_id (likely c.args.self.now.expander) (lent c.args.self.now.rules) c.args.locale.now c.in_err-id.field-0.0
    c.in_err-id.ensures.refused)

pub returns-in_err-id-clause-free : goal.returns-in_err-id-clause-free
returns-in_err-id-clause-free c =
    let p = err_from_is_err_and c.from_residual.result c.from_residual.ensures.1 in
    rw (p.1, p.2) (λ needs. c.in_err-id.ensures.free needs.id)

pub returns-in_err-id-clause-count : goal.returns-in_err-id-clause-count
returns-in_err-id-clause-count c =
    let p = err_from_is_err_and c.from_residual.result c.from_residual.ensures.1 in
    rw (p.1, p.2) (counted_refusal (likely c.args.self.now.expander) (lent c.args.self.now.rules) c.args.locale.now c.in_err-id.field-0.0
    c.args.turns.now c.later_end.new.turns c.in_err-id.ensures.refused c.in_err-id.ensures.count)

pub returns-in_err-transform-clause-refusal : goal.returns-in_err-transform-clause-refusal
returns-in_err-transform-clause-refusal c =
    let p = err_from_is_err_and c.from_residual-in_err-transform.result c.from_residual-in_err-transform.ensures.1 in
    rw (p.1, p.2) (refused_transform (likely c.args.self.now.expander) (lent c.args.self.now.rules) c.args.locale.now
    c.in_err-transform.field-0.0 c.in_ok-id.id c.in_ok-id.ensures.end c.in_err-transform.ensures.refused)

pub returns-in_err-transform-clause-free : goal.returns-in_err-transform-clause-free
returns-in_err-transform-clause-free c =
    let p = err_from_is_err_and c.from_residual-in_err-transform.result c.from_residual-in_err-transform.ensures.1 in
    rw (p.1, p.2) (λ needs. c.in_err-transform.ensures.free needs.transform)

pub returns-in_err-transform-clause-count : goal.returns-in_err-transform-clause-count
returns-in_err-transform-clause-count c =
    let p = err_from_is_err_and c.from_residual-in_err-transform.result c.from_residual-in_err-transform.ensures.1 in
    rw (p.1, p.2) (counted_both (likely c.args.self.now.expander) (lent c.args.self.now.rules) c.args.locale.now (Ok c.in_ok-id.id)
    (Err c.in_err-transform.field-0.0) (Err c.in_err-transform.field-0.0) c.in_ok-id.id c.args.turns.now c.later_end.new.turns
    c.transform_end.new.turns (λ out. out) (λ out. out) c.in_ok-id.ensures.end c.in_ok-id.ensures.count c.in_err-transform.ensures.count)

pub returns-clause-count : goal.returns-clause-count
returns-clause-count c =
    counted_both (likely c.args.self.now.expander) (lent c.args.self.now.rules) c.args.locale.now (Ok c.in_ok-id.id)
    (Ok c.in_ok-transform.transform) (Ok _) c.in_ok-id.id c.args.turns.now c.later_end.new.turns c.transform_end.new.turns (λ out. out)
    (λ out. out) c.in_ok-id.ensures.end c.in_ok-id.ensures.count c.in_ok-transform.ensures.count
