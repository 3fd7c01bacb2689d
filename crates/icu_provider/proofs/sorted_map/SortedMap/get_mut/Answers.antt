use Rattle.std.proofs.Common.{◌≡◌, ◌⊎◌, Some, inl, refl, sym, ap, ◌∙◌}
use Rattle.icu_provider.specs.laws.SortedMaps.{inserts_at, insert_entry-at, lookup_at, lookup_in_gap}
use Rattle.icu_provider.proofs.sorted_map.SortedMap.get_mut.Goals as goal

-- whatever is left in the row, its key stays
pub invariant_of-self-lent : goal.invariant_of-self-lent
invariant_of-self-lent g c = λ w.
    (inserts_at g.met.K.Ord.total _ c.args.key.now w _ _ c.self.invariant c.in-Ok.ensures c.index_mut.ensures.value).sorted

-- a loan is what is written back at each value
alike : {N A B C : Type 0} (name : N) {f g : A → B} → ((value : A) → f value ≡ g value)
    → ◌≡◌ {A = (N × (A → B)) ⊎ C} (inl (name, f)) (inl (name, g))
alike name same i = inl (name, λ value. same value i)

-- the row that is lent is the one that the look-up finds
pub returns-in-Ok : goal.returns-in-Ok
returns-in-Ok g c =
    let row = c.index_mut.result.now in
    let found = lookup_at g.met.K.Ord.total _ c.args.key.now c.in-Ok.at row c.self.invariant c.in-Ok.ensures in
    rw (← c.self.view_is) (
      alike _ (λ w. insert_entry-at g.met.K.Ord.total _ c.args.key.now w c.in-Ok.at row c.self.invariant c.in-Ok.ensures c.index_mut.ensures.value),
      record { writes_back = tt; value = ap (λ row. Some row.1) c.index_mut.ensures.value ∙ sym found },
    )

-- no row has the key, and nothing is lent
pub returns-in-Err : goal.returns-in-Err
returns-in-Err g c =
    let none = sym (lookup_in_gap g.met.K.Ord.total _ _ _ c.in-Err.ensures) in
    rw (← c.self.view_is) (refl, record { writes_back = tt; value = none })
