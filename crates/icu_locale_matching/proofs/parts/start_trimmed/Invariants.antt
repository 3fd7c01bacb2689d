use Rattle.std.proofs.Common.{◌≡◌, length}
use Rattle.icu_locale_matching.specs.Header.{trim_start}
use Rattle.icu_locale_matching.proofs.parts.start_trimmed.Given as goal

abbrev pub invariant-loop-left : goal.invariant-loop-left
invariant-loop-left l = trim_start l.left ≡ trim_start l.text

abbrev pub decreases-loop-left : goal.decreases-loop-left
decreases-loop-left l = length l.left
