use Rattle.std.proofs.Common.{None, sym, ◌∙◌, arith}
use Rattle.std.proofs.lemmas.Bool.{false≢true}
use Rattle.icu_locale_runs.specs.laws.Counts.{count_of_run}
use Rattle.icu_locale_runs.proofs.Walks.{IsSome-from_some, differ_from_test, same_from_test, met_least, IsMeeting-from_walk, follows_at, count_by_end}
use Rattle.icu_locale_runs.proofs.Walks.{walked_most, walked_more, slow_goes, walked_on, stops_least, middle_stands, middle_least}
use Rattle.icu_locale_runs.proofs.rewriting.meet.Goals as goal

pub returns-in_default-clause-least : goal.returns-in_default-clause-least
returns-in_default-clause-least g c =
    λ n is. omega (arith, c.search.ensures.counted, count_by_end _ _ n 1 is (sym c.in_ok-slow.ensures.found ∙ c.in_default.is))

pub returns-in_default-2-clause-least : goal.returns-in_default-2-clause-least
returns-in_default-2-clause-least g c =
    let next = g.R.Rewriting.next c.args.rewriting.now in
    let start = c.args.start.now in
    λ n is. omega (
      arith,
      c.search.ensures.counted,
      c.search-2.ensures.counted,
      count_by_end next start n 2 is
          (follows_at next start 1 c.in-Some.slow None (sym c.in_ok-slow.ensures.found ∙ c.in-Some.is) (sym c.in_ok-fast.ensures.found ∙ c.in_default-2.is)),
    )

pub go_on-requires : goal.go_on-requires
go_on-requires g c = slow_goes _ _ _ _ _ _ c.walkers.invariant

pub returns-in_err-slow-2-clause-most : goal.returns-in_err-slow-2-clause-most
returns-in_err-slow-2-clause-most g c =
    let differ = differ_from_test _ g.met.R.State.Eq.laws _ _ _ c.ne.ensures c.walkers-test.true in
    λ n is. omega (arith, c.go_on.ensures.counted, walked_more _ _ _ _ _ _ c.walkers.invariant differ n is)

pub returns-in_err-middle-clause-most : goal.returns-in_err-middle-clause-most
returns-in_err-middle-clause-most g c =
    let differ = differ_from_test _ g.met.R.State.Eq.laws _ _ _ c.ne.ensures c.walkers-test.true in
    λ n is. omega (arith, c.go_on.ensures.counted, c.search-in-walkers.ensures.counted, walked_more _ _ _ _ _ _ c.walkers.invariant differ n is)

pub returns-in_default-3-clause-most : goal.returns-in_default-3-clause-most
returns-in_default-3-clause-most g c =
    let differ = differ_from_test _ g.met.R.State.Eq.laws _ _ _ c.ne.ensures c.walkers-test.true in
    λ n is. omega (arith, c.go_on.ensures.counted, c.search-in-walkers.ensures.counted, walked_more _ _ _ _ _ _ c.walkers.invariant differ n is)

pub returns-in_default-3-clause-least : goal.returns-in_default-3-clause-least
returns-in_default-3-clause-least g c =
    λ n is. omega (
      arith,
      c.go_on.ensures.counted,
      c.search-in-walkers.ensures.counted,
      stops_least _ _ _ _ _ _ c.walkers.invariant
          (sym c.in_ok-middle.ensures.found ∙ c.in_default-3.is) n is,
    )

pub returns-in_err-far-clause-free : goal.returns-in_err-far-clause-free
returns-in_err-far-clause-free g c =
    λ all. absurd (false≢true (c.in_err-far.ensures.free (all _ (middle_stands _ _ _ _ _ _ c.walkers.invariant c.in-Some-3.middle
    (sym c.in_ok-middle.ensures.found ∙ c.in-Some-3.is)))))

pub returns-in_err-far-clause-most : goal.returns-in_err-far-clause-most
returns-in_err-far-clause-most g c =
    let differ = differ_from_test _ g.met.R.State.Eq.laws _ _ _ c.ne.ensures c.walkers-test.true in
    λ n is. omega (
      arith,
      c.go_on.ensures.counted,
      c.search-in-walkers.ensures.counted,
      c.search-in-walkers-2.ensures.counted,
      walked_more _
          _ _ _ _ _ c.walkers.invariant differ n is,
    )

pub returns-in_default-4-clause-walk : goal.returns-in_default-4-clause-walk
returns-in_default-4-clause-walk g c = (
  IsSome-from_some _ c.in-Some.slow (sym c.in_ok-slow.ensures.found ∙ c.in-Some.is),
  record {
    stands = middle_stands _ _ _ _ _ _ c.walkers.invariant _ (sym c.in_ok-middle.ensures.found ∙ c.in-Some-3.is);
    last = sym c.in_ok-far.ensures.found ∙ c.in_default-4.is;
  },
)

pub returns-in_default-4-clause-most : goal.returns-in_default-4-clause-most
returns-in_default-4-clause-most g c =
    let differ = differ_from_test _ g.met.R.State.Eq.laws _ _ _ c.ne.ensures c.walkers-test.true in
    λ n is. omega (
      arith,
      c.go_on.ensures.counted,
      c.search-in-walkers.ensures.counted,
      c.search-in-walkers-2.ensures.counted,
      walked_more _
          _ _ _ _ _ c.walkers.invariant differ n is,
    )

pub returns-in_default-4-clause-least : goal.returns-in_default-4-clause-least
returns-in_default-4-clause-least g c =
    λ n is. omega (
      arith,
      c.go_on.ensures.counted,
      c.search-in-walkers.ensures.counted,
      c.search-in-walkers-2.ensures.counted,
      middle_least
          _ _ _ _ _ _ c.walkers.invariant _ (sym c.in_ok-middle.ensures.found ∙ c.in-Some-3.is) (sym c.in_ok-far.ensures.found ∙ c.in_default-4.is) n is,
    )

pub walkers-smaller : goal.walkers-smaller
walkers-smaller g c =
    let differ = differ_from_test _ g.met.R.State.Eq.laws _ _ _ c.ne.ensures c.walkers-test.true in
    let counted = count_of_run _ _ _ g.met.R.State.Eq.laws g.met.R.Rewriting.exact _ c.requires in
    omega (
      arith,
      c.go_on.ensures.counted,
      c.search-in-walkers.ensures.counted,
      c.search-in-walkers-2.ensures.counted,
      counted.1,
      walked_more _ _ _ _ _ _ c.walkers.invariant differ counted.0 counted.2,
    )

pub walkers-preserved : goal.walkers-preserved
walkers-preserved g c =
    let differ = differ_from_test _ g.met.R.State.Eq.laws _ _ _ c.ne.ensures c.walkers-test.true in
    walked_on _ _ _ _ _ _ c.walkers.invariant differ _ c.in-Some-3.middle _ _ c.in_ok-slow-2.ensures.found
    (sym c.in_ok-middle.ensures.found ∙ c.in-Some-3.is) (sym c.in_ok-far.ensures.found ∙ c.in-Some-4.is)
    (omega (arith, c.go_on.ensures.counted, c.search-in-walkers.ensures.counted, c.search-in-walkers-2.ensures.counted))

pub returns-clause-most : goal.returns-clause-most
returns-clause-most g c = λ n is. omega (arith, walked_most _ _ _ _ _ _ c.walkers.invariant n is)

pub returns-clause-least : goal.returns-clause-least
returns-clause-least g c =
    met_least _ _ _ _ _ _ c.walkers.invariant (same_from_test _ g.met.R.Rewriting.exact _ _ _ c.ne.ensures c.walkers-test.false)

pub returns-clause-walk : goal.returns-clause-walk
returns-clause-walk g c =
    IsMeeting-from_walk _ _ _ _ _ _ c.walkers.invariant (same_from_test _ g.met.R.Rewriting.exact _ _ _ c.ne.ensures c.walkers-test.false)
