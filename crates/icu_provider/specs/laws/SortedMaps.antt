-- What look-ups find in rows whose keys rise, what a search finds, and what an edit at that place does.
pub use Rattle.icu_locale_core.specs.laws.SortedMaps.{by_answer, not_tied, searched, keys_rise, lookup_at, lookup_in_gap, lookup_nearest, lookup_apart}
pub use Rattle.icu_locale_core.specs.laws.SortedMaps.{lookup_own_key, All-lookup_own_key, IsSortedMap-from_empty, IsSortedMap-insert_entry}
pub use Rattle.icu_locale_core.specs.laws.SortedMaps.{insert_entry-step, insert_entry-at, insert_entry-in_gap, insert_entry-same}
pub use Rattle.icu_locale_core.specs.laws.SortedMaps.{inserts_from_rows, inserts_at, inserts_in_gap, found_inserted, others_inserted, below_before, above_behind, at_row}
