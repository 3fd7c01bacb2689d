use Rattle.std.proofs.Common.{◌∙◌, Some, sym, ap, slice_get, [], arith}
use Rattle.std.proofs.lemmas.List.Sums.{AllPass-from_list_all}
use Rattle.icu_tables_flat.specs.Flat.{FlatRows}
use Rattle.icu_tables_flat.specs.Form.{is_group, group_of}
use Rattle.icu_tables_flat.specs.inner.Views.{parts_of}
use Rattle.icu_tables_flat.proofs.Forms.{formed, slice_get_there, slice_get_beyond}
use Rattle.icu_tables_flat.proofs.texts.FlatTexts.name.Goals as goal

pub name_of-requires : goal.name_of-requires
name_of-requires c =
    AllPass-from_list_all (is_group c.self.inside.texts.now) c.self.inside.groups.now
    (formed (parts_of c.self.inside) c.self.invariant).groups c.args.at [] (omega arith)

pub returns-then-at-self : goal.returns-then-at-self
returns-then-at-self c =
    sym (slice_get_beyond (group_of c.self.inside.texts.now) c.self.inside.groups.now c.args.at (omega arith))
    ∙ ap (λ (f : FlatRows). slice_get f.groups c.args.at) c.self.view_is

pub returns : goal.returns
returns c =
    (λ i. Some (c.name_of.ensures i, c.number32.ensures i))
    ∙ sym (slice_get_there (group_of c.self.inside.texts.now) c.self.inside.groups.now c.args.at (omega arith))
    ∙ ap (λ (f : FlatRows). slice_get f.groups c.args.at) c.self.view_is
