use Rattle.std.proofs.Common.{◌≡◌, ℕ, ◌<◌, Some}
use Rattle.std.specs.List.{filter, slice_get}
use Rattle.icu_locale_matching.specs.inner.Made.{has_language}
use Rattle.icu_locale_matching.specs.inner.Asked.{asked_of, Improves, BeatsEach}
use Rattle.icu_provider.specs.declared.matching.MatchRule.{MatchRule}
use Rattle.icu_locale_matching.proofs.search.Search.best_near.Given as goal

abbrev pub invariant-loop-rule : goal.invariant-loop-rule
invariant-loop-rule l = record {
  improves : Improves (asked_of l.self l.asked.requests.now) l.asked.place l.fn.best l.near;
  own : BeatsEach (asked_of l.self l.asked.requests.now) l.asked.place
      (filter (has_language l.asked.form.language) l.self.candidates.now.forms.items) l.near;
  named : (k : ℕ) (r : MatchRule) → k < l.rule-index → slice_get l.asked.levels.language.rules.now k ≡ Some r
      → BeatsEach (asked_of l.self l.asked.requests.now) l.asked.place
      (filter (has_language r.language) l.self.candidates.now.forms.items) l.near;
}
