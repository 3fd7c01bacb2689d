use Rattle.icu_tables.proofs.NameGroups.{rise_where_none}
use Rattle.icu_tables.proofs.name_rows.NameRows.new.Goals as goal

-- no group is there yet
pub invariant_of-result : goal.invariant_of-result
invariant_of-result c = rise_where_none _ c.new.ensures
