use Rattle.std.proofs.Common.{◌≡◌, [], ◌∷◌, length, sym, ap, ◌∙◌, arith}
use Rattle.std.proofs.lemmas.List.{nil_from_length}
use Rattle.std.specs.BTreeMap.{insert_entry}
use Rattle.std.specs.Vec.Iter.{into_iter_items}
use Rattle.icu_tables.specs.Puts.{put_all}
use Rattle.icu_tables.proofs.from_json.rows.tree_of.Goals as goal

-- a row more is put
pub loop-key-preserved : goal.loop-key-preserved
loop-key-preserved g c =
    let so_far = c.loop-key.invariant in
    let steps = c.in-Some.ensures.steps in
    let more = into_iter_items c.next.new.self in
    let entries : c.insert.new.self.entries ≡ insert_entry g.K.Ord.cmp c.loop-key.map.entries c.in-Some.key c.in-Some.value = grind arith in
    let shorter : length (into_iter_items c.loop-key.key-iterator) ≡ length ((c.in-Some.key, c.in-Some.value) ∷ more) = ap length steps.0 in (
      so_far.0 ∙ ap (put_all g.K.Ord.cmp c.loop-key.map.entries) steps.0 ∙ ap (λ now. put_all g.K.Ord.cmp now more) (sym entries),
      omega (arith, so_far.1, steps.1, shorter),
    )

-- no row is left
pub returns : goal.returns
returns g c =
    let none : into_iter_items c.loop-key.key-iterator ≡ [] = nil_from_length (into_iter_items c.loop-key.key-iterator)
    (omega (arith, c.loop-key.invariant.1, c.in-None.ensures.steps.0)) in
    sym (ap (λ start. put_all g.K.Ord.cmp start c.args.rows.items) (sym c.new-map.ensures.empty)
    ∙ c.loop-key.invariant.0 ∙ ap (put_all g.K.Ord.cmp c.loop-key.map.entries) none)
