use Rattle.std.proofs.Common.{ℕ, ◌<◌}
use Rattle.icu_locale.specs.LikelyTable.{likely}
use Rattle.icu_locale.specs.Negotiation.{IsMatch}
use Rattle.icu_locale.proofs.negotiator.lending.NegotiatorRef.negotiate.Given as goal

abbrev pub invariant-loop-asked : goal.invariant-loop-asked
invariant-loop-asked l = (i j : ℕ) → i < l.asked → IsMatch (likely l.self.expander) l.requests l.self.available i j → ⊥
