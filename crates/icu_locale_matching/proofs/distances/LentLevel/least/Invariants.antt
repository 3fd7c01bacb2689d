use Rattle.std.proofs.Common.{◌≡◌, ◌≤◌, ◌<◌, ℕ, Some}
use Rattle.std.specs.List.{slice_get}
use Rattle.icu_provider.specs.declared.matching.MatchRule.{MatchRule}
use Rattle.icu_locale_matching.proofs.distances.LentLevel.least.Given as goal

abbrev pub invariant-loop-rule : goal.invariant-loop-rule
invariant-loop-rule l = (l.least ≤ l.self.other)
    × ((k : ℕ) (r : MatchRule) → k < l.rule-index → slice_get l.self.rules.now k ≡ Some r → l.least ≤ r.distance)
