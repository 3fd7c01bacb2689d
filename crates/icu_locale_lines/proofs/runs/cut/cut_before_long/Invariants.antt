use Rattle.std.proofs.Common.{length}
use Rattle.icu_locale_lines.proofs.Bounds.{WithinBefore}
use Rattle.icu_locale_lines.proofs.runs.cut.cut_before_long.Given as goal

-- the lines before what is left are within the bound
abbrev pub invariant-loop-longest : goal.invariant-loop-longest
invariant-loop-longest l = WithinBefore l.longest l.text l.rest

abbrev pub decreases-loop-longest : goal.decreases-loop-longest
decreases-loop-longest l = length l.rest
