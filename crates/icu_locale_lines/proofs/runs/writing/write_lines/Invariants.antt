use Rattle.std.proofs.Common.{length}
use Rattle.icu_locale_lines.specs.Runs.{AnswersFirst}
use Rattle.icu_locale_lines.proofs.runs.writing.write_lines.Given as goal

abbrev pub invariant-loop-line : goal.invariant-loop-line
invariant-loop-line g l = AnswersFirst l.work l.initial.left l.text.items (g.W.Write.contents l.initial.writer) (g.W.Write.contents l.writer) l.status l.left

-- each line is taken once
abbrev pub decreases-loop-line : goal.decreases-loop-line
decreases-loop-line g l = length l.left
