use Rattle.std.proofs.Common.{sym}
use Rattle.icu_provider.specs.laws.SortedMaps.{lookup_nearest, lookup_apart}
use Rattle.icu_provider.proofs.Spans.{lookup_past, tied_from_number, apart_from_number}
use Rattle.icu_provider.proofs.sorted_map.SortedMap.get_numbered.Goals as goal

pub returns-in_err-row : goal.returns-in_err-row
returns-in_err-row g c =
    let none = lookup_past g.met.K.Ord.total c.self.inside.entries.items c.args.key.now c.nearest.result
    (rw (← c.deref-2.ensures.value) c.nearest.ensures) (rw (← c.deref.ensures.value) c.in_err-row.ensures.lookup.3) in
    rw (c.from_residual.ensures, ← c.self.view_is) (sym none)

pub returns-then-number : goal.returns-then-number
returns-then-number g c =
    let read = c.in_ok-row.ensures.lookup in
    let tied = tied_from_number _ _ _ (g.met.K.Numbered.ordered _ _ _ _ c.number-2.ensures c.number.ensures) c.if-number.true in
    let found = lookup_nearest g.met.K.Ord.total c.self.inside.entries.items c.args.key.now c.nearest.result c.in_ok-row.row.now
    c.self.invariant (rw (← c.deref.ensures.value) read.3.0) (rw (← c.deref.ensures.value) read.1) tied in
    rw (← c.self.view_is) (sym found)

pub returns-else-number : goal.returns-else-number
returns-else-number g c =
    let read = c.in_ok-row.ensures.lookup in
    let apart = apart_from_number _ _ _ (g.met.K.Numbered.ordered _ _ _ _ c.number-2.ensures c.number.ensures) c.if-number.false in
    let none = lookup_apart g.met.K.Ord.total c.self.inside.entries.items c.args.key.now c.nearest.result c.in_ok-row.row.now
    (rw (← c.deref-2.ensures.value) c.nearest.ensures) (rw (← c.deref.ensures.value) read.3.0) (rw (← c.deref.ensures.value) read.1) apart in
    rw (← c.self.view_is) (sym none)
