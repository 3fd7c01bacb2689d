use Rattle.std.proofs.Common.{◌≡◌, Option, Some, None, option_copied, get_or, refl, sym, ◌∙◌}
use Rattle.std.specs.Option.{option_or}
use Rattle.icu_locale_core.specs.Maps.{value_at}
use Rattle.icu_provider.specs.Requests.{name_cmp, name_place}
use Rattle.icu_provider.specs.declared.data_locale.DataLocale.{DataLocale}
use Rattle.icu_provider.specs.declared.names.NameKey.{NameKey}
use Rattle.icu_provider.specs.declared.names.NameMarker.{NameMarker}
use Rattle.icu_tables_flat.specs.Flat.{FlatRows}
use Rattle.icu_tables.specs.LentNames.{lent_rows}
use Rattle.icu_tables.specs.inner.Lent.{AreRunsIn, name_in_lent}
use Rattle.icu_tables.proofs.AllNames.{found_in_both}
use Rattle.icu_tables.proofs.locale_names.LocaleNames.get.Goals as goal

abbrev Request : Type 0
Request = NameMarker × DataLocale × NameKey

-- the locale is the one whose names were found
pub returns-then-eq : goal.returns-then-eq
returns-then-eq c =
    let here : c.args.locale ≡ c.self.inside.locale = (c.equality_is_told.ensures.locales c.args.locale c.self.inside.locale).0
    (sym c.eq.ensures ∙ c.if-eq.true) in
    let own = c.self.inside.names.now in
    let lent = option_copied c.self.inside.lent in
    let request : Request = (c.args.marker, c.self.inside.locale, c.args.key.now) in
    c.name_here.ensures
    ∙ (λ i. option_or (c.self.invariant.0 c.args.marker c.args.key.now i) (by lent c.self.invariant.1 i))
    ∙ sym (found_in_both name_cmp own (lent_rows lent) request)
    ∙ (λ i. value_at name_cmp (c.self.view_is i) (c.args.marker, sym here i, c.args.key.now))
  where
    by : (lent : Option FlatRows) → AreRunsIn lent c.self.inside.locale c.self.inside.runs
        → name_in_lent lent c.args.marker (get_or c.self.inside.runs (name_place c.args.marker) None) c.args.key.now
        ≡ value_at name_cmp (lent_rows lent) (c.args.marker, c.self.inside.locale, c.args.key.now)
    by None runs = refl
    by (Some flat) runs = runs flat refl c.args.marker c.args.key.now

-- another locale is asked from the beginning
pub returns-else-eq : goal.returns-else-eq
returns-else-eq c =
    let own = c.self.inside.names.now in
    let lent = option_copied c.self.inside.lent in
    let request : Request = (c.args.marker, c.args.locale, c.args.key.now) in
    c.own_or_lent.ensures
    ∙ (λ i. option_or (c.get-own.ensures i) (value_at name_cmp (lent_rows lent) request))
    ∙ sym (found_in_both name_cmp own (lent_rows lent) request)
    ∙ (λ i. value_at name_cmp (c.self.view_is i) request)
