use Rattle.std.proofs.Common.{sym, subst}
use Rattle.std.specs.List.{All}
use Rattle.std.proofs.lemmas.Bool.{false≢true}
use Rattle.icu_locale_core.specs.laws.SortedMaps.{All-added}
use Rattle.icu_locale_core.proofs.row_map.RowMap.add.Goals as goal

-- each row is still one of its kind
pub invariant_of-self-2 : goal.invariant_of-self-2
invariant_of-self-2 g c = subst (All g.K.RowKey.IsRow) (sym c.in_ok-add.ensures.rows) (All-added g.K.Ord.cmp g.K.RowKey.IsRow c.args.key c.args.value
    c.known_with.ensures (λ k v is. g.met.K.RowKey.replaced k c.args.key v c.args.value is c.known_with.ensures) _ c.self.invariant)

pub returns-clause-added : goal.returns-clause-added
returns-clause-added g c key = rw (← c.self.view_is) (c.in_ok-add.ensures.added key)

pub returns-in_err-add-clause-present : goal.returns-in_err-add-clause-present
returns-in_err-add-clause-present g c there = absurd (false≢true (c.in_err-add.ensures.present (rw c.self.view_is there)))
