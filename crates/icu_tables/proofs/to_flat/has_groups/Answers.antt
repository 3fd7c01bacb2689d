use Rattle.std.proofs.Common.{◌∷◌, ◌+◌, ◌≡◌, ◌∙◌, drop, sym, ap, subst, filter_map}
use Rattle.std.proofs.lemmas.List.{drop_more, drop_all}
use Rattle.icu_tables.specs.Groups.{flat_names}
use Rattle.icu_tables.specs.LentNames.{keyed_group}
use Rattle.icu_tables.specs.inner.Told.{AreToldBy}
use Rattle.icu_tables.proofs.ToFlat.{told_texts}
use Rattle.icu_tables.proofs.to_flat.has_groups.Goals as goal

-- the names of one group more are there
pub loop-group-preserved : goal.loop-group-preserved
loop-group-preserved c =
    let l = c.loop-group in
    let group = c.group-item.result in
    let groups = c.args.groups.now in
    let more = drop (l.group-index + 1) groups in
    let left : drop l.group-index groups ≡ group ∷ more =
    drop_more groups l.group-index group c.loop-group-test.true ∙ ap (λ first. first ∷ more) (sym c.group-item.is) in
    λ told. l.invariant (subst (λ list. AreToldBy c.args.names.now (flat_names (filter_map keyed_group list))) (sym left)
    (told_texts c.args.names.now group more (c.has_group.ensures c.if-not-has_group.false) told))

-- none is left
pub returns : goal.returns
returns c =
    let l = c.loop-group in
    λ _. l.invariant (subst (λ list. AreToldBy c.args.names.now (flat_names (filter_map keyed_group list)))
    (sym (drop_all l.group-index c.args.groups.now c.loop-group-test.false)) tt)
