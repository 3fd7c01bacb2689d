use Rattle.std.proofs.Common.{sym, ◌∙◌, arith}
use Rattle.icu_locale_runs.specs.laws.Counts.{count_of_run}
use Rattle.icu_locale_runs.proofs.Walks.{differ_from_eq, differ_from_test, same_from_test, HasFollowed-start, followed_most, near_goes, far_goes}
use Rattle.icu_locale_runs.proofs.Walks.{followed_on, IsRepeat-from_walk, IsRepeat-at_start}
use Rattle.icu_locale_runs.proofs.rewriting.first_repeat.Goals as goal

pub returns-then-eq-clause-first : goal.returns-then-eq-clause-first
returns-then-eq-clause-first g c =
    IsRepeat-at_start _ _ _ c.requires.meets (g.met.R.Rewriting.exact _ _ (sym c.eq.ensures ∙ c.if-eq.true))

pub go_on-requires : goal.go_on-requires
go_on-requires g c = near_goes _ _ _ _ _ _ _ (HasFollowed-start _ _ _ c.args.turns.now c.requires.meets)

pub go_on-requires-2 : goal.go_on-requires-2
go_on-requires-2 g c = far_goes _ _ _ _ _ _ _ (HasFollowed-start _ _ _ c.args.turns.now c.requires.meets)

pub walkers-init : goal.walkers-init
walkers-init g c =
    let differ = differ_from_eq _ g.met.R.State.Eq.laws _ _ _ c.eq.ensures c.if-eq.false in
    followed_on _ _ _ _ _ _ _ (HasFollowed-start _ _ _ c.args.turns.now c.requires.meets) differ _ _ _ c.in_ok-near.ensures.found c.in_ok-far.ensures.found
    (omega (arith, c.go_on.ensures.counted, c.go_on-2.ensures.counted))

pub go_on-requires-in-walkers : goal.go_on-requires-in-walkers
go_on-requires-in-walkers g c = near_goes _ _ _ _ _ _ _ c.walkers.invariant

pub returns-in_err-near-2-clause-most : goal.returns-in_err-near-2-clause-most
returns-in_err-near-2-clause-most g c =
    λ n is. omega (arith, c.go_on-in-walkers.ensures.counted, followed_most _ _ _ _ _ _ _ c.walkers.invariant n is)

pub go_on-requires-in-walkers-2 : goal.go_on-requires-in-walkers-2
go_on-requires-in-walkers-2 g c = far_goes _ _ _ _ _ _ _ c.walkers.invariant

pub returns-in_err-far-2-clause-most : goal.returns-in_err-far-2-clause-most
returns-in_err-far-2-clause-most g c =
    λ n is. omega (arith, c.go_on-in-walkers.ensures.counted, c.go_on-in-walkers-2.ensures.counted, followed_most _ _ _ _ _ _ _ c.walkers.invariant n is)

pub walkers-smaller : goal.walkers-smaller
walkers-smaller g c =
    let counted = count_of_run _ _ _ g.met.R.State.Eq.laws g.met.R.Rewriting.exact _ c.requires.universe in
    omega (
      arith,
      c.go_on-in-walkers.ensures.counted,
      c.go_on-in-walkers-2.ensures.counted,
      counted.1,
      followed_most _ _ _ _ _ _ _
          c.walkers.invariant counted.0 counted.2,
    )

pub walkers-preserved : goal.walkers-preserved
walkers-preserved g c =
    let differ = differ_from_test _ g.met.R.State.Eq.laws _ _ _ c.ne.ensures c.walkers-test.true in
    followed_on _ _ _ _ _ _ _ c.walkers.invariant differ _ _ _ c.in_ok-near-2.ensures.found c.in_ok-far-2.ensures.found
    (omega (arith, c.go_on-in-walkers.ensures.counted, c.go_on-in-walkers-2.ensures.counted))

pub returns-clause-first : goal.returns-clause-first
returns-clause-first g c =
    IsRepeat-from_walk _ _ _ _ _ _ _ c.walkers.invariant (same_from_test _ g.met.R.Rewriting.exact _ _ _ c.ne.ensures c.walkers-test.false)

pub returns-clause-most : goal.returns-clause-most
returns-clause-most g c = λ n is. omega (arith, followed_most _ _ _ _ _ _ _ c.walkers.invariant n is)
