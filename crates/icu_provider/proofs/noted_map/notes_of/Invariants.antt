use Rattle.icu_provider.specs.inner.Notes.{AreNoted}
use Rattle.icu_provider.proofs.noted_map.notes_of.Given as goal

-- the rows that were passed are noted
abbrev pub invariant-loop-place : goal.invariant-loop-place
invariant-loop-place g l = AreNoted g.K.Ord.cmp g.K.Marked.IsMark l.fn.rows l.notes.items l.place
