use Rattle.icu_locale_values.specs.inner.Counted.{IsCountedWalk}
use Rattle.icu_locale_values.specs.inner.Walked.{next_at}
use Rattle.icu_locale_values.proofs.walk.later_ends.Given as goal

abbrev pub invariant-loop-key : goal.invariant-loop-key
invariant-loop-key g l =
    IsCountedWalk g.K.Ord.cmp (next_at g.K.AliasKey.ruled g.K.Ord.cmp g.V.Ord.cmp l.table)
    l.fn.rows l.key-iterator l.ends.items l.fn.turns l.turns
