use Rattle.std.proofs.Common.{sym, ◌∙◌}
use Rattle.std.specs.Option.{option_or}
use Rattle.icu_locale_core.specs.Maps.{value_at}
use Rattle.icu_provider.specs.Requests.{name_cmp}
use Rattle.icu_provider.specs.declared.data_locale.DataLocale.{DataLocale}
use Rattle.icu_provider.specs.declared.names.NameKey.{NameKey}
use Rattle.icu_provider.specs.declared.names.NameMarker.{NameMarker}
use Rattle.icu_tables.specs.LentNames.{lent_rows}
use Rattle.icu_tables.proofs.AllNames.{found_in_both}
use Rattle.icu_tables.proofs.tables.Tables.name_at.Goals as goal

-- own names are asked first, and then those that are lent
pub returns : goal.returns
returns c =
    let t = c.args.self.now in
    let request : NameMarker × DataLocale × NameKey = (c.args.marker, c.args.locale, c.args.key) in
    c.own_or_lent.ensures
    ∙ (λ i. option_or (c.get-own.ensures i) (value_at name_cmp (lent_rows (c.as_ref.ensures.value i)) request))
    ∙ sym (found_in_both name_cmp t.names (lent_rows t.lent_names) request)
