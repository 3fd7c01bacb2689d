use Rattle.std.proofs.Common.{◌≡◌, length}
use Rattle.std.specs.Vec.Iter.{into_iter_items, into_iter_len}
use Rattle.icu_tables.specs.Puts.{put_all}
use Rattle.icu_tables.proofs.from_json.rows.tree_of.Given as goal

-- the rows that are left decide what the map becomes
abbrev pub invariant-loop-key : goal.invariant-loop-key
invariant-loop-key g l =
    (put_all g.K.Ord.cmp l.initial.map.entries l.fn.rows.items ≡ put_all g.K.Ord.cmp l.map.entries (into_iter_items l.key-iterator))
    × (into_iter_len l.key-iterator ≡ length (into_iter_items l.key-iterator))
