use Rattle.std.proofs.lemmas.Bool.{false≢true}
use Rattle.icu_locale_core.specs.laws.SortedMaps.{All-insert_entry}
use Rattle.icu_locale_core.proofs.row_map.RowMap.set.Goals as goal

-- each row is still one of its kind
pub invariant_of-self-2 : goal.invariant_of-self-2
invariant_of-self-2 g c = rw c.in_ok-insert.ensures.rows (All-insert_entry g.K.Ord.cmp g.K.RowKey.IsRow c.args.key c.args.value c.known_with.ensures
    (λ k v is. g.met.K.RowKey.replaced k c.args.key v c.args.value is c.known_with.ensures) _ c.self.invariant)

pub returns-clause-sets : goal.returns-clause-sets
returns-clause-sets g c other = rw (← c.self.view_is) (c.in_ok-insert.ensures.sets other)

pub returns-in_err-insert-clause-present : goal.returns-in_err-insert-clause-present
returns-in_err-insert-clause-present g c there = absurd (false≢true (c.in_err-insert.ensures.present (rw c.self.view_is there)))
