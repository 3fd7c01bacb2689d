use Rattle.std.proofs.Common.{◌++◌, append_assoc, sym, ap, ◌∙◌}
use Rattle.icu_tables_flat.specs.Flat.{run_at}
use Rattle.icu_tables.specs.inner.Lent.{items_there}
use Rattle.icu_tables.proofs.LentNames.{keyed_more}
use Rattle.icu_tables.proofs.lent_names.add_run_keys.Goals as goal

-- the keys of one row more
pub loop-at-preserved : goal.loop-at-preserved
loop-at-preserved c =
    let rows = run_at c.args.lent.now c.args.run in
    c.in_ok-add_item.ensures
    ∙ (λ i. c.loop-at.invariant i ++ items_there (c.key_at.ensures i))
    ∙ append_assoc c.args.keys.now.items _ _
    ∙ ap (λ more. c.args.keys.now.items ++ more) (sym (keyed_more c.args.marker rows c.loop-at.at))
