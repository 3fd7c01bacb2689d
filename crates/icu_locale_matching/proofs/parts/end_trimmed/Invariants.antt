use Rattle.std.proofs.Common.{◌≡◌, length}
use Rattle.icu_locale_matching.specs.Header.{trim_end}
use Rattle.icu_locale_matching.proofs.parts.end_trimmed.Given as goal

abbrev pub invariant-loop-left : goal.invariant-loop-left
invariant-loop-left l = trim_end l.left ≡ trim_end l.text

abbrev pub decreases-loop-left : goal.decreases-loop-left
decreases-loop-left l = length l.left
