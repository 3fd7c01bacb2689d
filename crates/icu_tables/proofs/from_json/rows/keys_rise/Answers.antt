use Rattle.std.proofs.Common.{◌∷◌, ◌+◌, ◌≡◌, ◌∙◌, drop, sym, ap, subst}
use Rattle.std.proofs.lemmas.List.{drop_more, drop_all}
use Rattle.icu_tables.proofs.Rising.{RiseAfter, rise_before, rise_none}
use Rattle.icu_tables.proofs.from_json.rows.keys_rise.Goals as goal

-- all are left
pub loop-key-init : goal.loop-key-init
loop-key-init g c = λ rise. rise

-- a key is above the one before it
pub loop-key-preserved : goal.loop-key-preserved
loop-key-preserved g c =
    let l = c.loop-key in
    let row = c.loop-key-item.result in
    let rows = c.args.rows.now in
    let more = drop (l.key-index + 1) rows in
    let left : drop l.key-index rows ≡ row ∷ more =
    drop_more rows l.key-index row c.loop-key-test.true ∙ ap (λ first. first ∷ more) (sym c.loop-key-item.is) in
    λ rise. l.invariant (subst (RiseAfter g.K.Ord.cmp l.before) (sym left)
    (rise_before g.K.Ord.cmp g.met.K.Ord.total l.before row more c.if-not-is_key_above.ensures rise))

-- none is left
pub returns : goal.returns
returns g c =
    let l = c.loop-key in
    l.invariant (rise_none g.K.Ord.cmp l.before _ (drop_all l.key-index c.args.rows.now c.loop-key-test.false))
