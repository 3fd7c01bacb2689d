use Rattle.std.proofs.Common.{◌≡◌}
use Rattle.icu_locale_matching.specs.Header.{weight}
use Rattle.icu_locale_matching.specs.inner.Parts.{parts_if_any, left_of}
use Rattle.icu_locale_matching.proofs.header.searched_weight.Given as goal

abbrev pub invariant-loop-rest : goal.invariant-loop-rest
invariant-loop-rest l = weight (parts_if_any 59 l.rest) ≡ weight (parts_if_any 59 l.parameters)

abbrev pub decreases-loop-rest : goal.decreases-loop-rest
decreases-loop-rest l = left_of l.rest
