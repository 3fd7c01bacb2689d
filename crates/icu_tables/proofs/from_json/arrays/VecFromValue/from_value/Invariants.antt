use Rattle.icu_tables.proofs.Items.{IsReadUpTo}
use Rattle.icu_tables.proofs.from_json.arrays.VecFromValue.from_value.Given as goal

-- what was read and what is left is the whole
abbrev pub invariant-loop-item : goal.invariant-loop-item
invariant-loop-item g l = IsReadUpTo g.T.FromValue.seen g.T.FromValue.shape l.item-items l.item-index l.list.items
