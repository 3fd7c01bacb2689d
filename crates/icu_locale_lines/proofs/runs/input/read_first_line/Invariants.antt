use Rattle.std.proofs.Common.{◌≡◌, false}
use Rattle.std.specs.List.{list_any}
use Rattle.std.specs.Io.KnownBytes.{Consumes, prepend_known}
use Rattle.icu_locale_lines.specs.Lines.{is_line_feed, exceeds}
use Rattle.icu_locale_lines.proofs.runs.input.read_first_line.Given as goal

-- what was read is the beginning of the line, within the bound
abbrev pub invariant-loop : goal.invariant-loop
invariant-loop g l = record {
  consumed : Consumes (prepend_known l.before (g.R.Read.remaining l.initial.reader)) (g.R.Read.remaining l.reader) l.line.items;
  alone : list_any is_line_feed l.line.items ≡ false;
  within : exceeds l.longest l.line.items ≡ false;
}
