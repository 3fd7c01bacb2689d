use Rattle.std.proofs.Common.{◌≡◌, None, IfOk, option_copied, arith, sym, subst}
use Rattle.icu_locale_core.specs.Maps.{value_at}
use Rattle.icu_locale_runs.specs.Run.{IsOutcome}
use Rattle.icu_locale_runs.specs.laws.Counts.{decided}
use Rattle.icu_locale_values.specs.Aliases.{preferred}
use Rattle.icu_locale_values.specs.inner.Counted.{CountsRun}
use Rattle.icu_locale_values.proofs.Counting.{run_has}
use Rattle.icu_locale_values.proofs.Universes.{IsUniverse-rows, alone_stands, same_alone}
use Rattle.icu_locale_values.proofs.walk.run_of.Goals as goal

pub end_of_run-requires : goal.end_of_run-requires
end_of_run-requires g c = IsUniverse-rows g.V.Ord.cmp c.in-Some.rows.now c.args.value.now

-- without rows nothing is searched
pub returns-in_default-clause-count : goal.returns-in_default-clause-count
returns-in_default-clause-count g c =
    let has = run_has (decided _ g.met.V.Eq.laws g.met.V.AliasValue.value_exact) g.V.Ord.cmp (option_copied c.args.rows) c.args.value.now in
    (has.0, has.1, record { forward = omega arith; most = omega arith })

pub returns-clause-outcome : goal.returns-clause-outcome
returns-clause-outcome g c =
    subst (λ o. IfOk c.end_of_run.result (IsOutcome (preferred g.V.Ord.cmp (option_copied o)) c.args.value.now)) (sym c.in-Some.is) c.end_of_run.ensures.outcome

-- where nothing follows the start, no memory is taken
pub returns-clause-same : goal.returns-clause-same
returns-clause-same g c = λ none.
    let next = value_at g.V.Ord.cmp c.in-Some.rows.now in
    let nothing : next c.args.value.now ≡ None = subst (λ o. preferred g.V.Ord.cmp (option_copied o) c.args.value.now ≡ None) c.in-Some.is none in
    let fine = c.end_of_run.ensures.free (λ y stands. alone_stands next c.args.value.now nothing y stands) in
    same_alone next c.args.value.now nothing c.end_of_run.result c.end_of_run.ensures.outcome fine

pub returns-clause-count : goal.returns-clause-count
returns-clause-count g c =
    let counted = c.end_of_run.ensures.count in
    subst (λ o. CountsRun (preferred g.V.Ord.cmp (option_copied o)) c.args.value.now c.args.turns.now c.end_of_run.new.turns) (sym c.in-Some.is)
    (counted.0, counted.1, record { forward = c.end_of_run.ensures.forward; most = counted.2 })
