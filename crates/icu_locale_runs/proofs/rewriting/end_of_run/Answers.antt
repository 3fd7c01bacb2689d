use Rattle.std.proofs.Common.{◌+◌, ◌≤◌, arith}
use Rattle.std.proofs.lemmas.Result.{IfOk-from_err}
use Rattle.icu_locale_runs.specs.laws.Counts.{count_of_run, HasDistinct-from_count}
use Rattle.icu_locale_runs.proofs.rewriting.end_of_run.Goals as goal

pub returns-in_err-meet-clause-count : goal.returns-in_err-meet-clause-count
returns-in_err-meet-clause-count g c =
    let (n, within, is) = count_of_run _ _ _ g.met.R.State.Eq.laws g.met.R.Rewriting.exact _ c.requires in (
      n,
      HasDistinct-from_count _ _ n is,
      omega (arith, c.meet.ensures.most n is),
      IfOk-from_err _
          (λ _. c.args.turns.now + n ≤ c.meet.new.turns) c.from_residual.ensures.0,
    )

pub returns-in_err-first-in-Meets-clause-count : goal.returns-in_err-first-in-Meets-clause-count
returns-in_err-first-in-Meets-clause-count g c =
    let (n, within, is) = count_of_run _ _ _ g.met.R.State.Eq.laws g.met.R.Rewriting.exact _ c.requires in (
      n,
      HasDistinct-from_count _ _ n is,
      omega (arith, c.meet.ensures.most n is, c.first_repeat.ensures.most n is),
      IfOk-from_err _
          (λ _. c.args.turns.now + n ≤ c.first_repeat.new.turns) c.from_residual-in_err-first-in-Meets.ensures.0,
    )

pub returns-in-Alone-clause-count : goal.returns-in-Alone-clause-count
returns-in-Alone-clause-count g c =
    let (n, within, is) = count_of_run _ _ _ g.met.R.State.Eq.laws g.met.R.Rewriting.exact _ c.requires in
    (n, HasDistinct-from_count _ _ n is, omega (arith, c.meet.ensures.most n is), c.in_ok-meet.ensures.least n is)

pub returns-in-Stops-clause-count : goal.returns-in-Stops-clause-count
returns-in-Stops-clause-count g c =
    let (n, within, is) = count_of_run _ _ _ g.met.R.State.Eq.laws g.met.R.Rewriting.exact _ c.requires in
    (n, HasDistinct-from_count _ _ n is, omega (arith, c.meet.ensures.most n is), c.in_ok-meet.ensures.least n is)

pub returns-in_ok-first-in-Meets-clause-count : goal.returns-in_ok-first-in-Meets-clause-count
returns-in_ok-first-in-Meets-clause-count g c =
    let (n, within, is) = count_of_run _ _ _ g.met.R.State.Eq.laws g.met.R.Rewriting.exact _ c.requires in (
      n,
      HasDistinct-from_count _ _ n is,
      omega (arith, c.meet.ensures.most n is, c.first_repeat.ensures.most n is),
      omega
          (arith, c.in_ok-meet.ensures.least n is, c.first_repeat.ensures.forward),
    )

pub returns-in_err-meet-clause-forward : goal.returns-in_err-meet-clause-forward
returns-in_err-meet-clause-forward g c = c.meet.ensures.forward

pub returns-in_err-first-in-Meets-clause-forward : goal.returns-in_err-first-in-Meets-clause-forward
returns-in_err-first-in-Meets-clause-forward g c = omega (arith, c.meet.ensures.forward, c.first_repeat.ensures.forward)

pub returns-in-Alone-clause-forward : goal.returns-in-Alone-clause-forward
returns-in-Alone-clause-forward g c = c.meet.ensures.forward

pub returns-in-Stops-clause-forward : goal.returns-in-Stops-clause-forward
returns-in-Stops-clause-forward g c = c.meet.ensures.forward

pub returns-in_ok-first-in-Meets-clause-forward : goal.returns-in_ok-first-in-Meets-clause-forward
returns-in_ok-first-in-Meets-clause-forward g c = omega (arith, c.meet.ensures.forward, c.first_repeat.ensures.forward)
