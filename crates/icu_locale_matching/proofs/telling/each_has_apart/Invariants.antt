use Rattle.std.proofs.Common.{◌≡◌, ◌<◌, ℕ, List, Some}
use Rattle.std.specs.List.{slice_get}
use Rattle.icu_provider.specs.declared.matching.MatchRules.{MatchRules}
use Rattle.icu_locale_matching.specs.Distance.{HasApart}
use Rattle.icu_locale_matching.proofs.telling.each_has_apart.Given as goal

abbrev pub invariant-loop-row : goal.invariant-loop-row
invariant-loop-row l = (k : ℕ) (r : List ℕ × MatchRules) → k < l.row-index → slice_get l.rows k ≡ Some r → HasApart r.1
