use Rattle.icu_tables.proofs.NameGroups.{names_rise}
use Rattle.icu_tables.proofs.name_rows.NameRows.known.Goals as goal

-- groups that rise, whose keys rise, are a list that rises
pub returns : goal.returns
returns c = rw (← c.self.view_is) (names_rise _ c.self.invariant)
