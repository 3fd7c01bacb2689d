use Rattle.icu_locale_matching.specs.inner.Asked.{asked_of, Improves, BeatsThere}
use Rattle.icu_locale_matching.proofs.search.Search.best_in_region.Given as goal

abbrev pub invariant-loop-candidate : goal.invariant-loop-candidate
invariant-loop-candidate l = record {
  improves : Improves (asked_of l.self l.asked.requests.now) l.asked.place l.initial.best l.best;
  beats : BeatsThere (asked_of l.self l.asked.requests.now) l.asked.place l.asked.form.region l.part l.candidate-index l.best;
}
