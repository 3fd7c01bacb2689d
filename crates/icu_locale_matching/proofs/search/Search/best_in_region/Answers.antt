use Rattle.std.proofs.Common.{refl, sym, subst, length, arith}
use Rattle.std.proofs.lemmas.Option.{slice_get_read}
use Rattle.icu_locale.specs.LikelyTable.{likely}
use Rattle.icu_locale_matching.specs.inner.Asked.{asked_of, IsRowOf}
use Rattle.icu_locale_matching.proofs.Ranks.{improves_through, within_improved, there_more}
use Rattle.icu_locale_matching.proofs.search.Search.best_in_region.Goals as goal

pub better_in_region-best-requires-clause-row : goal.better_in_region-best-requires-clause-row
better_in_region-best-requires-clause-row c =
    let m = c.args.self.now in
    subst (IsRowOf (likely m.expander) m.matching.now m.candidates.now.identifiers.items) (sym c.candidate-item.is)
    (c.requires.part c.loop-candidate.candidate-index c.candidate-item.result c.loop-candidate-test.true)

pub better_in_region-best-requires-clause-best : goal.better_in_region-best-requires-clause-best
better_in_region-best-requires-clause-best c = within_improved (asked_of c.args.self.now c.args.asked.now.requests.now) c.args.asked.now.place c.args.best
    c.loop-candidate.best c.requires.best c.loop-candidate.invariant.improves

-- one more candidate
pub loop-candidate-preserved : goal.loop-candidate-preserved
loop-candidate-preserved c =
    let q = asked_of c.args.self.now c.args.asked.now.requests.now in
    let i = c.args.asked.now.place in
    let part = c.args.part.now in
    let n = c.loop-candidate.candidate-index in
    let stands = slice_get_read part (length part) n c.candidate-item.result refl c.loop-candidate-test.true c.candidate-item.is in
    record {
      improves = improves_through q i c.args.best c.loop-candidate.best c.better_in_region-best.result c.loop-candidate.invariant.improves c.better_in_region-best.ensures.improves;
      beats = there_more q i c.args.asked.now.form.region part n c.candidate-item.result c.loop-candidate.best c.better_in_region-best.result stands c.better_in_region-best.ensures.improves
          c.loop-candidate.invariant.beats c.better_in_region-best.ensures.beats;
    }

pub returns-clause-within : goal.returns-clause-within
returns-clause-within c = within_improved (asked_of c.args.self.now c.args.asked.now.requests.now) c.args.asked.now.place c.args.best
    c.loop-candidate.best c.requires.best c.loop-candidate.invariant.improves

pub returns-clause-beats : goal.returns-clause-beats
returns-clause-beats c = λ k e s within is. c.loop-candidate.invariant.beats k e s (omega (arith, within)) is
