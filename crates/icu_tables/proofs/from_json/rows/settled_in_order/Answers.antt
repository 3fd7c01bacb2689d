use Rattle.std.proofs.Common.{◌≡◌, sym, ap, ◌∙◌, subst, arith}
use Rattle.std.proofs.lemmas.List.Sorted.{ranks_by, answers_always}
use Rattle.std.specs.Ordering.{is_lt}
use Rattle.icu_locale_core.specs.Maps.{IsSortedMap}
use Rattle.icu_tables.proofs.Rising.{put_rising, kept_as}
use Rattle.icu_tables.proofs.StableRows.{put_all-stable}
use Rattle.icu_tables.proofs.from_json.rows.settled_in_order.Goals as goal

-- the keys rise, so the rows are the map
pub returns-then-keys_rise : goal.returns-then-keys_rise
returns-then-keys_rise g c =
    let compare = g.K.Ord.cmp in
    let total = g.met.K.Ord.total in
    let rows = c.args.rows.items in
    let ordered = c.sort_by.new.self.items in
    let less = λ (a b : g.row.K.Denot × g.row.V.Denot). is_lt (compare a.0 b.0) in
    let stable = c.sort_by.ensures.stable less (ranks_by total (λ row. row.0)) (answers_always _ _ _ (λ f a r f' k. ap is_lt k.met)) in
    let same : c.deref.result.now ≡ ordered = grind arith in
    let sorted = subst (IsSortedMap compare) same c.if-keys_rise.ensures in
    kept_as c.from_rows.result g.M.FromRows.kept ordered _
    (sym (put_rising compare total ordered sorted) ∙ put_all-stable total rows ordered stable) c.from_rows.ensures

-- the rows are put, one after another
pub returns : goal.returns
returns g c =
    let compare = g.K.Ord.cmp in
    let total = g.met.K.Ord.total in
    let rows = c.args.rows.items in
    let ordered = c.sort_by.new.self.items in
    let less = λ (a b : g.row.K.Denot × g.row.V.Denot). is_lt (compare a.0 b.0) in
    let stable = c.sort_by.ensures.stable less (ranks_by total (λ row. row.0)) (answers_always _ _ _ (λ f a r f' k. ap is_lt k.met)) in
    kept_as c.in_one_list.result g.M.FromRows.kept _ _ (c.in_ok-tree_of.ensures ∙ put_all-stable total rows ordered stable) c.in_one_list.ensures
