use Rattle.std.proofs.Common.{◌≤◌, ap, subst, List, refl, arith}
use Rattle.icu_locale.specs.LikelyTable.{likely}
use Rattle.icu_locale_matching.specs.Distance.{share}
use Rattle.icu_locale_matching.specs.inner.Made.{candidate_of}
use Rattle.icu_locale_matching.specs.inner.Asked.{asked_of, BeatsEach, limit}
use Rattle.icu_locale_matching.specs.declared.candidates.Candidate.{Candidate}
use Rattle.icu_locale_matching.proofs.Groups.{rows_known}
use Rattle.icu_locale_matching.proofs.Near.{each_beats, offer_row, near_beats}
use Rattle.icu_locale_matching.proofs.search.Search.best_for.Goals as goal

pub best_among-requires-clause-part : goal.best_among-requires-clause-part
best_among-requires-clause-part c =
    let m = c.args.self.now in
    rw c.deref.ensures.value
    (rows_known (likely m.expander) m.matching.now m.candidates.now.identifiers.items m.candidates.now.forms.items c.requires.made.forms)

-- all are looked at
pub returns-then-others-limit-clause-beats : goal.returns-then-others-limit-clause-beats
returns-then-others-limit-clause-beats c = λ s o.
    let m = c.args.self.now in
    let a = c.args.asked.now in
    let q = asked_of m a.requests.now in
    let all = subst (λ (part : List Candidate). BeatsEach q a.place part c.best_among.result) c.deref.ensures.value c.best_among.ensures.beats in
    each_beats q a.place m.candidates.now.forms.items c.best_among.result all s.available
    (candidate_of (likely m.expander) m.matching.now s.available o.offer.identifier) (offer_row m a c.requires.asked c.requires.made.forms s o) s o refl

-- the others cost too much
pub returns-else-others-limit : goal.returns-else-others-limit
returns-else-others-limit c =
    let m = c.args.self.now in
    let far : limit m.limits.threshold c.args.asked.now.demoted c.best_near-near.result ≤ share m.limits.favor m.matching.now.other_language = omega
    (arith, c.limit.ensures.value, c.share-others.ensures.value, ap (share m.limits.favor) c.from.ensures, c.if-others-limit.false) in
    record {
      improves = c.best_near-near.ensures.improves;
      beats = near_beats m c.args.asked.now c.requires.asked c.requires.made.forms c.best_near-near.result far c.best_near-near.ensures.own
          c.best_near-near.ensures.named;
    }
