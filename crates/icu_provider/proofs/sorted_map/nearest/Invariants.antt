use Rattle.icu_provider.specs.inner.Places.{IsSpan}
use Rattle.icu_provider.proofs.sorted_map.nearest.Given as goal

abbrev pub invariant-loop-size : goal.invariant-loop-size
invariant-loop-size g l = IsSpan g.K.Ord.cmp l.fn.rows l.fn.key l.place l.size

abbrev pub decreases-loop-size : goal.decreases-loop-size
decreases-loop-size g l = l.size
