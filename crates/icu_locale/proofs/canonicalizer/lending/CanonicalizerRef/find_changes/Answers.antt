use Rattle.std.proofs.Common.{Ok}
use Rattle.std.proofs.lemmas.Result.{err_from_is_err_and}
use Rattle.icu_locale.specs.LikelyTable.{likely}
use Rattle.icu_locale.specs.RuleSet.{lent}
use Rattle.icu_locale.proofs.Canonicals.{refused_identifiers, refused_values, counts_whole}
use Rattle.icu_locale.proofs.canonicalizer.lending.CanonicalizerRef.find_changes.Goals as goal

-- a refusal of the runs of identifiers
pub returns-in_err-id-clause-refusal : goal.returns-in_err-id-clause-refusal
returns-in_err-id-clause-refusal c =
    let p = err_from_is_err_and c.from_residual.result c.from_residual.ensures.1 in
    rw (p.1, p.2) (refused_identifiers (likely c.args.self.now.expander) (lent c.args.self.now.rules) c.args.locale.now
    c.in_err-id.field-0.0 c.in_err-id.ensures.refusal)

-- a refusal of the runs of values
pub returns-in_err-region_override-clause-refusal : goal.returns-in_err-region_override-clause-refusal
returns-in_err-region_override-clause-refusal c =
    let p = err_from_is_err_and c.from_residual-in_err-region_override.result c.from_residual-in_err-region_override.ensures.1 in
    rw (p.1, p.2) (refused_values (likely c.args.self.now.expander) (lent c.args.self.now.rules) c.args.locale.now _ c.in_ok-id.ensures.ends
    c.in_err-region_override.field-0.0 c.in_err-region_override.ensures.refused)

pub returns-in_err-region_override-clause-free : goal.returns-in_err-region_override-clause-free
returns-in_err-region_override-clause-free c =
    let p = err_from_is_err_and c.from_residual-in_err-region_override.result c.from_residual-in_err-region_override.ensures.1 in
    rw (p.1, p.2) (λ needs. c.in_err-region_override.ensures.free needs.region_override needs.subdivision)

pub returns-in_err-region_override-clause-count : goal.returns-in_err-region_override-clause-count
returns-in_err-region_override-clause-count c =
    let counted = c.in_ok-id.ensures.count in
    (counted.0, counted.1, counts_whole _ c.from_residual-in_err-region_override.result c.args.turns.now c.find_ends.new.turns counted.0 counted.2)

pub returns-clause-count : goal.returns-clause-count
returns-clause-count c =
    let counted = c.in_ok-id.ensures.count in
    (counted.0, counted.1, counts_whole _ (Ok _) c.args.turns.now c.find_ends.new.turns counted.0 counted.2)
