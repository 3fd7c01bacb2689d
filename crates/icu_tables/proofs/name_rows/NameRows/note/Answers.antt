use Rattle.std.proofs.Common.{sym, ap, ◌∙◌, subst}
use Rattle.icu_tables.specs.Groups.{NameGroup, RiseInGroups, flat_names, group_cmp, key_cmp}
use Rattle.icu_tables.proofs.NameGroups.{same_groups}
use Rattle.icu_tables.proofs.name_rows.NameRows.note.Goals as goal

-- the names of the group are as they were, and so are all
pub invariant_of-self-2 : goal.invariant_of-self-2
invariant_of-self-2 c =
    let group : NameGroup = (c.args.marker, c.args.locale) in
    let same = same_groups c.self.inside.groups group _ c.note.new.self c.self.invariant (sym c.in-Some.ensures.value) c.note.ensures.rows in
    subst (RiseInGroups group_cmp key_cmp) (sym same) c.self.invariant

pub returns-clause-names : goal.returns-clause-names
returns-clause-names c =
    let group : NameGroup = (c.args.marker, c.args.locale) in
    let same = same_groups c.self.inside.groups group _ c.note.new.self c.self.invariant (sym c.in-Some.ensures.value) c.note.ensures.rows in
    ap flat_names same ∙ c.self.view_is
