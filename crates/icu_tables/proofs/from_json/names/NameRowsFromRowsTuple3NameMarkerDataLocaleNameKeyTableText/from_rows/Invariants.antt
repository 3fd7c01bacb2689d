use Rattle.std.proofs.Common.{◌≡◌, ◌++◌, length}
use Rattle.std.specs.Vec.Iter.{into_iter_items, into_iter_len}
use Rattle.icu_tables.proofs.from_json.names.NameRowsFromRowsTuple3NameMarkerDataLocaleNameKeyTableText.from_rows.Given as goal

-- the names that were put in, before those that are left, are the rows
abbrev pub invariant-loop-marker : goal.invariant-loop-marker
invariant-loop-marker l =
    (l.fn.rows.items ≡ l.names ++ into_iter_items l.marker-iterator)
    × (into_iter_len l.marker-iterator ≡ length (into_iter_items l.marker-iterator))
