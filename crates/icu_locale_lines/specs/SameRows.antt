-- Tables that say the same to each command.
use Rattle.std.specs.Prelude.{◌≡◌}
use Rattle.icu_tables.specs.Rows.{rows_of}
use Rattle.icu_tables.specs.Supplement as further
use Rattle.icu_tables.specs.declared.tables.Tables.{Tables}

-- two tables have the same rows, those of their supplements too, and are lent the same names
pub record HaveSameRows (t u : Tables) : Type 0 where
  pub rows : rows_of t ≡ rows_of u
  pub supplement : further.rows_of t.supplement ≡ further.rows_of u.supplement
  pub lent : t.lent_names ≡ u.lent_names
