use Rattle.icu_locale_matching.specs.inner.Leaders.{AreLeading}
use Rattle.icu_locale_matching.proofs.leading.leading_of.Given as goal

abbrev pub invariant-loop-candidate : goal.invariant-loop-candidate
invariant-loop-candidate l = AreLeading l.matching l.identifiers l.forms l.candidate-index l.leading.items
