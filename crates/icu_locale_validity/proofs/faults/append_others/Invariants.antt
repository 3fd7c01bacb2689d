use Rattle.std.proofs.Common.{◌≡◌, ◌++◌, [], map, take}
use Rattle.icu_locale_validity.specs.Parts.{row_part}
use Rattle.icu_locale_validity.specs.declared.part.PartKind.TheVariants.{Extension}
use Rattle.icu_locale_validity.specs.inner.Lines.{unlisted}
use Rattle.icu_locale_validity.proofs.faults.append_others.Given as goal

abbrev pub invariant-loop-row : goal.invariant-loop-row
invariant-loop-row l = l.report.items ≡ l.initial.report.items
    ++ unlisted l.text (map (row_part Extension []) (take l.row-index l.rows))
