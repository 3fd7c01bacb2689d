use Rattle.std.specs.Io.KnownBytes.{prepend_known}
use Rattle.icu_locale_lines.proofs.Ended.{Comes}
use Rattle.icu_locale_lines.proofs.runs.stream.stream_lines.Given as goal

-- what was read is answered but for what is carried
abbrev pub invariant-loop : goal.invariant-loop
invariant-loop g l = Comes l.longest l.work (prepend_known l.first (g.R.Read.remaining l.initial.reader)) (g.R.Read.remaining l.reader)
    (g.W.Write.contents l.fn.writer) (g.W.Write.contents l.writer) l.status l.carry.items
