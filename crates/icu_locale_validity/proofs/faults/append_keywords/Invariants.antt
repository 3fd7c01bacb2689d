use Rattle.std.proofs.Common.{◌≡◌, ◌++◌, map, take}
use Rattle.icu_locale_validity.specs.Parts.{keyword_part}
use Rattle.icu_locale_validity.specs.inner.Lines.{lines}
use Rattle.icu_locale_validity.proofs.faults.append_keywords.Given as goal

abbrev pub invariant-loop-row : goal.invariant-loop-row
invariant-loop-row l = l.report.items ≡ l.initial.report.items
    ++ lines l.table l.text (map (keyword_part l.region) (take l.row-index l.rows))
