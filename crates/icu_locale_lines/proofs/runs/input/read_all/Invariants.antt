use Rattle.std.specs.Io.KnownBytes.{Consumes}
use Rattle.icu_locale_lines.proofs.runs.input.read_all.Given as goal

-- the text so far is what was read
abbrev pub invariant-loop : goal.invariant-loop
invariant-loop g l = Consumes (g.R.Read.remaining l.initial.reader) (g.R.Read.remaining l.reader) l.text.items
