use Rattle.std.proofs.Common.{◌≡◌, true}
use Rattle.std.specs.List.{AllWithin}
use Rattle.icu_locale.specs.LikelyTable.{likely}
use Rattle.icu_locale.specs.inner.SettledRows.{settles}
use Rattle.icu_locale.proofs.expander.LocaleExpander.all_settle.Given as goal

-- each row so far settles
abbrev pub invariant-loop-row : goal.invariant-loop-row
invariant-loop-row g l = AllWithin (λ row. settles (likely l.self) (g.K.RowKey.key row.0) ≡ true) l.row-items 0 l.row-index
