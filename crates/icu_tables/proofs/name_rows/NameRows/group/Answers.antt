use Rattle.std.proofs.Common.{option_and_then, sym, ap, ◌∙◌}
use Rattle.icu_locale_core.specs.Maps.{value_at}
use Rattle.icu_tables.specs.Groups.{key_cmp}
use Rattle.icu_tables.proofs.NameGroups.{name_in_groups}
use Rattle.icu_tables.proofs.name_rows.NameRows.group.Goals as goal

-- the names are sought among the groups, and then the key among the names
pub returns : goal.returns
returns c = λ key.
    let whole = sym (name_in_groups _ (c.args.marker, c.args.locale.now) key c.self.invariant) in
    ap (option_and_then (λ names. value_at key_cmp names key)) c.get.ensures ∙ rw (← c.self.view_is) whole
