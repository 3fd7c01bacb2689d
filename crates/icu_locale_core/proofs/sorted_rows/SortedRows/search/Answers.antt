use Rattle.std.proofs.Common.{rules}
use Rattle.std.proofs.lemmas.Fn.{always_returns_same}
use Rattle.icu_locale_core.specs.laws.SortedMaps.{searched}
use Rattle.icu_locale_core.proofs.sorted_rows.SortedRows.search.Goals as goal

-- the closure compares a row's key with the one that is sought
pub returns : goal.returns
returns g c =
    let facts = c.binary_search_by.ensures in
    let by_key = facts.position (λ row. g.K.Ord.cmp row.0 c.args.key.now) (always_returns_same _ _ _ (λ a r f called. search rules)) in
    rw (← c.self.view_is, ← c.deref.ensures.value) (searched g.met.K.Ord.total c.deref.result.now c.args.key.now c.binary_search_by.result
    (rw c.deref.ensures.value c.self.invariant) facts.bound by_key)
