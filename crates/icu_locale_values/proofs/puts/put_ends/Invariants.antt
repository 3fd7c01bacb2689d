use Rattle.std.proofs.Common.{length}
use Rattle.icu_locale_values.specs.inner.Walked.{IsPutting}
use Rattle.icu_locale_values.proofs.puts.put_ends.Given as goal

abbrev pub invariant-rows : goal.invariant-rows
invariant-rows g l =
    IsPutting g.K.Ord.cmp l.fn.ends.items (g.M.PutsValues.rows l.fn.map) l.left.items (g.M.PutsValues.rows l.map) l.fn.answer l.told

abbrev pub decreases-rows : goal.decreases-rows
decreases-rows g l = length l.left.items
