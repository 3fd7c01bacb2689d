use Rattle.std.proofs.Common.{◌≡◌, ◌<◌, ℕ, Some}
use Rattle.std.specs.List.{slice_get}
use Rattle.icu_provider.specs.declared.matching.MatchRule.{MatchRule}
use Rattle.icu_locale_matching.specs.Distance.{fits_pattern}
use Rattle.icu_locale_matching.proofs.leading.are_alike.Given as goal

abbrev pub invariant-loop-rule : goal.invariant-loop-rule
invariant-loop-rule l = (k : ℕ) (r : MatchRule) → k < l.rule-index → slice_get l.rules k ≡ Some r
    → fits_pattern r.supported l.one ≡ fits_pattern r.supported l.other
