use Rattle.std.proofs.Common.{◌≡◌, ◌∷◌, sym, ap, ◌∙◌}
use Rattle.std.specs.Vec.Iter.{into_iter_items}
use Rattle.icu_tables.specs.Puts.{put_all}
use Rattle.icu_tables.specs.Supplement.{members_of}
use Rattle.icu_tables.proofs.from_json.matching.set_of.Goals as goal

-- a key more is put
pub loop-key-preserved : goal.loop-key-preserved
loop-key-preserved g c =
    let steps : into_iter_items c.loop-key.key-iterator ≡ c.in-Some.key ∷ into_iter_items c.next.new.self = c.in-Some.ensures.steps.0 in
    c.loop-key.invariant
    ∙ ap (λ left. put_all g.K.Ord.cmp c.loop-key.rows.entries (members_of left)) {x = into_iter_items c.loop-key.key-iterator}
    {y = c.in-Some.key ∷ into_iter_items c.next.new.self} steps
    ∙ ap (λ rows. put_all g.K.Ord.cmp rows (members_of (into_iter_items c.next.new.self))) (sym c.in_ok-insert.ensures.entries)
