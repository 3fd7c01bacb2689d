use Rattle.std.proofs.Common.{arith, rules, refl}
use Rattle.icu_provider.specs.laws.SortedMaps.{lookup_in_gap, inserts_at, inserts_in_gap}
use Rattle.icu_provider.proofs.sorted_map.SortedMap.insert.Goals as goal

-- the key is there, and its row takes the value
pub invariant_of-self : goal.invariant_of-self
invariant_of-self g c = (inserts_at g.met.K.Ord.total _ c.args.key _ _ _ c.self.invariant (rw c.self.view_is c.in-Ok.ensures) c.index_mut.ensures.value).sorted

pub returns-in-Ok : goal.returns-in-Ok
returns-in-Ok g c =
    let inserted = inserts_at g.met.K.Ord.total _ c.args.key _ _ _ c.self.invariant (rw c.self.view_is c.in-Ok.ensures) c.index_mut.ensures.value in
    record {
      rows = rw (← c.self.view_is) inserted.rows;
      refuses = record { memory = tt; unchanged = tt };
      present = λ found. refl;
    }

-- the row is new
pub invariant_of-self-in-Err : goal.invariant_of-self-in-Err
invariant_of-self-in-Err g c = rw c.in_ok-insert-in-Err.ensures.items (inserts_in_gap g.met.K.Ord.total _ c.args.key c.args.value
    c.in-Err.at c.self.invariant (rw c.self.view_is c.in-Err.ensures)).sorted

pub returns-in_ok-insert-in-Err : goal.returns-in_ok-insert-in-Err
returns-in_ok-insert-in-Err g c =
    let inserted = inserts_in_gap g.met.K.Ord.total _ c.args.key c.args.value c.in-Err.at c.self.invariant (rw c.self.view_is c.in-Err.ensures) in
    record {
      rows = rw (c.in_ok-insert-in-Err.ensures.items, ← c.self.view_is) inserted.rows;
      refuses = record { memory = tt; unchanged = tt };
      present = λ found. refl;
    }

-- memory is refused only to a new row
pub returns-in_err-insert-in-Err : goal.returns-in_err-insert-in-Err
returns-in_err-insert-in-Err g c = record {
  rows = search rules;
  refuses = search rules;
  present = λ found. grind (arith, lookup_in_gap g.met.K.Ord.total _ _ _ c.in-Err.ensures);
}
