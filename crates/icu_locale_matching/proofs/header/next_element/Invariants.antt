use Rattle.std.proofs.Common.{◌≡◌}
use Rattle.icu_locale_matching.specs.inner.Parts.{elements_if_any, left_of}
use Rattle.icu_locale_matching.proofs.header.next_element.Given as goal

abbrev pub invariant-loop-rest : goal.invariant-loop-rest
invariant-loop-rest l = elements_if_any l.rest ≡ elements_if_any l.text

abbrev pub decreases-loop-rest : goal.decreases-loop-rest
decreases-loop-rest l = left_of l.rest
