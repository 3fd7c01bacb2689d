use Rattle.std.specs.List.{AllWithin}
use Rattle.icu_locale.specs.inner.Index.{HasVariants}
use Rattle.icu_locale.proofs.negotiator.first_row.Given as goal

abbrev pub invariant-loop-row : goal.invariant-loop-row
invariant-loop-row l = AllWithin (λ r. HasVariants l.available l.variants r → ⊥) l.rows 0 l.row-index
