use Rattle.std.proofs.Common.{◌≡◌, sym, subst, arith}
use Rattle.icu_locale_core.specs.Maps.{IsSortedMap}
use Rattle.icu_tables.proofs.Rising.{put_rising, kept_as}
use Rattle.icu_tables.proofs.from_json.rows.settled.Goals as goal

-- the keys rise, so the rows are the map
pub returns-then-keys_rise : goal.returns-then-keys_rise
returns-then-keys_rise g c =
    let rows = c.args.rows.items in
    let same : c.deref.result.now ≡ rows = grind arith in
    let sorted = subst (IsSortedMap g.K.Ord.cmp) same c.if-keys_rise.ensures in
    kept_as c.from_rows.result g.M.FromRows.kept rows _ (sym (put_rising g.K.Ord.cmp g.met.K.Ord.total rows sorted)) c.from_rows.ensures
