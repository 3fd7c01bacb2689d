use Rattle.std.proofs.Common.{◌∙◌}
use Rattle.icu_tables.proofs.NameGroups.{none_without_groups}
use Rattle.icu_tables.proofs.name_rows.NameRows.is_empty.Goals as goal

-- no group is empty
pub returns : goal.returns
returns c = rw (← c.self.view_is) (c.is_empty.ensures ∙ none_without_groups _ c.self.invariant)
