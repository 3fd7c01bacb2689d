use Rattle.std.proofs.Common.{◌≡◌, ◌≤◌, false, length, drop}
use Rattle.std.specs.List.{list_any}
use Rattle.icu_locale_lines.specs.Lines.{is_line_feed}
use Rattle.icu_locale_lines.proofs.runs.cut.cut_behind_lines.Given as goal

-- there is no line feed from the place on
abbrev pub invariant-loop-count : goal.invariant-loop-count
invariant-loop-count l = record { within : l.count ≤ length l.text; none : list_any is_line_feed (drop l.count l.text) ≡ false }

abbrev pub decreases-loop-count : goal.decreases-loop-count
decreases-loop-count l = l.count
