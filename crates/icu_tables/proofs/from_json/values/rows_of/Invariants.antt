use Rattle.icu_tables.proofs.Members.{IsReadBefore}
use Rattle.icu_tables.proofs.from_json.values.rows_of.Given as goal

-- what was read and what is left is the whole
abbrev pub invariant-loop-name : goal.invariant-loop-name
invariant-loop-name g l = IsReadBefore g.K.RowKey.key g.V.FromValue.seen g.V.FromValue.shape l.initial.name-iterator l.name-iterator l.rows.items
