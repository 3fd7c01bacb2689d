-- The parts that a value borrows.
use Rattle.icu_tables_flat.specs.Form.{FlatParts}
use Rattle.icu_tables_flat.specs.declared.texts.FlatTexts.TheInside.{Inside}

-- the lists of entries and the texts, as the form has them
abbrev pub parts_of : Inside → FlatParts
parts_of f = record {
  groups = f.groups.now;
  runs = f.runs.now;
  rows = f.rows.now;
  texts = f.texts.now;
}
