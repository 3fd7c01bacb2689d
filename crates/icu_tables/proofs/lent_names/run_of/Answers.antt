use Rattle.std.proofs.Common.{ap, ◌∙◌}
use Rattle.icu_locale_core.specs.Maps.{value_at}
use Rattle.icu_locale_core.specs.TextSet.{text_cmp}
use Rattle.icu_tables.proofs.LentNames.{group_reads, run_is}
use Rattle.icu_tables.proofs.lent_names.run_of.Goals as goal

-- the run is sought by what the group is called
pub returns : goal.returns
returns c =
    let name = c.as_str.ensures.value ∙ c.group_text-name.ensures.text in
    let read = group_reads c.args.marker c.args.locale.now c.group_text-name.ensures.known in
    run_is c.keys_are_told_apart.ensures.names c.args.lent.now (c.args.marker, c.args.locale.now) read c.known.ensures.names
    c.run_of.result (c.run_of.ensures ∙ ap (value_at text_cmp c.args.lent.now.groups) name)
