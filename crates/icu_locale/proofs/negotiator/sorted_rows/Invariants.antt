use Rattle.icu_locale.specs.LikelyTable.{likely}
use Rattle.icu_locale.specs.inner.Index.{AreListed}
use Rattle.icu_locale.proofs.negotiator.sorted_rows.Given as goal

abbrev pub invariant-loop-place : goal.invariant-loop-place
invariant-loop-place l = AreListed (likely l.expander) l.available l.place l.rows.items
