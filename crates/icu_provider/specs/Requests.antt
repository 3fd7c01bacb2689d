-- Requests for exemplar sets, names and patterns: their order in tables.
use Rattle.std.specs.Prelude.{ℕ, List}
use Rattle.std.specs.Option.{option_cmp}
use Rattle.std.specs.Ordering.{nat_cmp, ordering_then}
use Rattle.std.specs.declared.cmp.Ordering.{Ordering}
use Rattle.icu_locale_core.specs.TextSet.{text_cmp}
use Rattle.icu_provider.specs.declared.data_locale.DataLocale.{DataLocale}
use Rattle.icu_provider.specs.declared.exemplars.ExemplarMarker.{ExemplarMarker}
use Rattle.icu_provider.specs.declared.names.MenuMarker.{MenuMarker}
use Rattle.icu_provider.specs.declared.names.NameKey.{NameKey}
use Rattle.icu_provider.specs.declared.names.NameKey.TheVariants.{Language, Script, Region, Variant}
use Rattle.icu_provider.specs.declared.names.NameMarker.{NameMarker}
use Rattle.icu_provider.specs.declared.exemplars.ExemplarMarker.TheVariants as exemplars
use Rattle.icu_provider.specs.declared.names.MenuMarker.TheVariants as menus
use Rattle.icu_provider.specs.declared.names.NameMarker.TheVariants as names
use Rattle.icu_provider.specs.contracts.data_locale.DataLocaleOrd.TheImpl as data_locale
use Rattle.icu_provider.specs.contracts.exemplars.ExemplarMarkerOrd.TheImpl as exemplar_marker
use Rattle.icu_provider.specs.contracts.names.MenuMarkerOrd.TheImpl as menu_marker
use Rattle.icu_provider.specs.contracts.names.NameKeyOrd.TheImpl as name_key
use Rattle.icu_provider.specs.contracts.names.NameMarkerOrd.TheImpl as name_marker

-- locales by language, then script and then region, an absent part first
abbrev pub locale_order : DataLocale → DataLocale → Ordering
locale_order a b =
    ordering_then (text_cmp a.language b.language)
    (ordering_then (option_cmp text_cmp a.script b.script)
    (option_cmp text_cmp a.region b.region))

-- kinds of exemplar sets in the order of these numbers
abbrev pub exemplar_place : ExemplarMarker → ℕ
exemplar_place exemplars.Main = 0
exemplar_place exemplars.Auxiliary = 1
exemplar_place exemplars.Punctuation = 2
exemplar_place exemplars.Numbers = 3
exemplar_place exemplars.Index = 4

-- kinds of names in menus in the order of these numbers
abbrev pub menu_place : MenuMarker → ℕ
menu_place menus.MediumLight = 0
menu_place menus.MediumHeavy = 1

-- kinds of names in the order of these numbers, which is that of their words
abbrev pub name_place : NameMarker → ℕ
name_place names.LanguageLongHeavy = 0
name_place names.LanguageLongLight = 1
name_place names.LanguageMediumHeavy = 2
name_place names.LanguageMediumLight = 3
name_place names.LanguageMediumTiny = 4
name_place names.LanguageShortHeavy = 5
name_place names.LanguageShortLight = 6
name_place names.RegionMediumLight = 7
name_place names.RegionMediumTiny = 8
name_place names.RegionShortLight = 9
name_place names.RegionShortTiny = 10
name_place names.ScriptMediumHeavy = 11
name_place names.ScriptMediumLight = 12
name_place names.ScriptMediumTiny = 13
name_place names.ScriptShortHeavy = 14
name_place names.VariantMediumHeavy = 15

-- whose name a key asks for: languages first, then scripts, regions and variants
abbrev pub key_place : NameKey → ℕ
key_place (Language language script region) = 0
key_place (Script script) = 1
key_place (Region region) = 2
key_place (Variant variant) = 3

-- keys of one kind by their texts: a language with its script and its region as a locale, an absent part first
abbrev pub key_order : NameKey → NameKey → Ordering
key_order (Language language script region) (Language other other_script other_region) =
    ordering_then (text_cmp language other)
    (ordering_then (option_cmp text_cmp script other_script)
    (option_cmp text_cmp region other_region))
key_order (Script script) (Script other) = text_cmp script other
key_order (Region region) (Region other) = text_cmp region other
key_order (Variant variant) (Variant other) = text_cmp variant other
key_order a b = nat_cmp (key_place a) (key_place b)

-- by marker, and then by locale
abbrev pub exemplar_order : (ExemplarMarker × DataLocale) → (ExemplarMarker × DataLocale) → Ordering
exemplar_order a b =
    ordering_then (nat_cmp (exemplar_place a.0) (exemplar_place b.0)) (locale_order a.1 b.1)

-- by marker, then by locale, and then by key
abbrev pub name_order : (NameMarker × DataLocale × NameKey)
    → (NameMarker × DataLocale × NameKey) → Ordering
name_order a b =
    ordering_then
    (ordering_then (nat_cmp (name_place a.0) (name_place b.0)) (locale_order a.1 b.1))
    (key_order a.2 b.2)

-- by marker, then by locale, and then by the language's text
abbrev pub menu_order : (MenuMarker × DataLocale × List ℕ)
    → (MenuMarker × DataLocale × List ℕ) → Ordering
menu_order a b =
    ordering_then
    (ordering_then (nat_cmp (menu_place a.0) (menu_place b.0)) (locale_order a.1 b.1))
    (text_cmp a.2 b.2)

-- by marker, and then by locale
abbrev pub exemplar_cmp : (ExemplarMarker × DataLocale) → (ExemplarMarker × DataLocale) → Ordering
exemplar_cmp a b =
    ordering_then (exemplar_marker.ghosts.cmp a.0 b.0) (data_locale.ghosts.cmp a.1 b.1)

-- by marker, then by locale, and then by key
abbrev pub name_cmp : (NameMarker × DataLocale × NameKey)
    → (NameMarker × DataLocale × NameKey) → Ordering
name_cmp a b =
    ordering_then
    (ordering_then (name_marker.ghosts.cmp a.0 b.0) (data_locale.ghosts.cmp a.1 b.1))
    (name_key.ghosts.cmp a.2 b.2)

-- by marker, then by locale, and then by the language's text
abbrev pub menu_cmp : (MenuMarker × DataLocale × List ℕ)
    → (MenuMarker × DataLocale × List ℕ) → Ordering
menu_cmp a b =
    ordering_then
    (ordering_then (menu_marker.ghosts.cmp a.0 b.0) (data_locale.ghosts.cmp a.1 b.1))
    (text_cmp a.2 b.2)

-- by locale: its language, then its script, and then its region
abbrev pub locale_cmp : DataLocale → DataLocale → Ordering
locale_cmp a b = data_locale.ghosts.cmp a b
