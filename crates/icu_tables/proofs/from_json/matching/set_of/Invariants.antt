use Rattle.std.proofs.Common.{◌≡◌, []}
use Rattle.std.specs.Vec.Iter.{into_iter_items}
use Rattle.icu_tables.specs.Puts.{put_all}
use Rattle.icu_tables.specs.Supplement.{members_of}
use Rattle.icu_tables.proofs.from_json.matching.set_of.Given as goal

-- what is left of the keys decides
abbrev pub invariant-loop-key : goal.invariant-loop-key
invariant-loop-key g l = put_all g.K.Ord.cmp [] (members_of l.fn.keys.items)
    ≡ put_all g.K.Ord.cmp l.rows.entries (members_of (into_iter_items l.key-iterator))
