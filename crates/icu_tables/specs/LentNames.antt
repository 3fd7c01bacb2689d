-- Names that are lent in the flat form: what their groups and keys are called, and the rows that they are.
use Rattle.std.specs.Prelude.{◌==◌, ℕ, Bool, List, [], ◌∷◌, ◌++◌, codes, filter_map, if◌then◌else◌, length, nat_lt, Option, Some, None, option_map}
use Rattle.std.specs.List.{position_or_len, before_first, after_first}
use Rattle.icu_provider.specs.declared.data_locale.DataLocale.{DataLocale}
use Rattle.icu_provider.specs.declared.names.NameKey.{NameKey}
use Rattle.icu_provider.specs.declared.names.NameKey.TheVariants.{Language, Script, Region, Variant}
use Rattle.icu_provider.specs.declared.names.NameMarker.{NameMarker}
use Rattle.icu_provider.specs.declared.names.NameMarker.TheVariants as names
use Rattle.icu_tables_flat.specs.Flat.{FlatRows, listed}
use Rattle.icu_tables.specs.Groups.{NameGroup, Names, flat_names}
use Rattle.icu_tables.specs.Names.{locale_key, name_key, name_markers, named_in}
use Rattle.icu_tables.specs.Shape.{both}
use Rattle.icu_tables.specs.declared.tables.Tables.{Tables}

-- ---- what groups and keys are called

-- a subtag behind a dash, if there is one
abbrev pub behind_dash : Option (List ℕ) → List ℕ
behind_dash None = []
behind_dash (Some t) = 45 ∷ t

-- a locale in written form
abbrev pub locale_text : DataLocale → List ℕ
locale_text l = l.language ++ (behind_dash l.script ++ behind_dash l.region)

-- a key in written form
abbrev pub key_text : NameKey → List ℕ
key_text (Language language script region) =
    locale_text (record { language = language; script = script; region = region })
key_text (Script script) = script
key_text (Region region) = region
key_text (Variant variant) = variant

-- the name of a marker, as a file of tables has it
abbrev pub marker_text : NameMarker → List ℕ
marker_text names.RegionMediumTiny = codes "region/medium/tiny"
marker_text names.RegionMediumLight = codes "region/medium/light"
marker_text names.RegionShortTiny = codes "region/short/tiny"
marker_text names.RegionShortLight = codes "region/short/light"
marker_text names.LanguageMediumTiny = codes "language/medium/tiny"
marker_text names.LanguageMediumLight = codes "language/medium/light"
marker_text names.LanguageMediumHeavy = codes "language/medium/heavy"
marker_text names.LanguageShortLight = codes "language/short/light"
marker_text names.LanguageShortHeavy = codes "language/short/heavy"
marker_text names.LanguageLongLight = codes "language/long/light"
marker_text names.LanguageLongHeavy = codes "language/long/heavy"
marker_text names.ScriptMediumTiny = codes "script/medium/tiny"
marker_text names.ScriptMediumLight = codes "script/medium/light"
marker_text names.ScriptMediumHeavy = codes "script/medium/heavy"
marker_text names.ScriptShortHeavy = codes "script/short/heavy"
marker_text names.VariantMediumHeavy = codes "variant/medium/heavy"

-- what the group of a marker and a locale is called: `zh-Hant/language/medium/light`
abbrev pub group_text : NameGroup → List ℕ
group_text group = locale_text group.1 ++ 47 ∷ marker_text group.0

-- ---- the rows

-- `/`, which is 47
abbrev pub is_slash : ℕ → Bool
is_slash c = c == 47

-- the marker and the locale of a group: what is behind the first `/` of its name, and what is before
abbrev pub group_key : List ℕ → Option NameGroup
group_key t =
    if nat_lt (position_or_len is_slash t) (length t)
    then both (named_in name_markers (after_first is_slash t)) (locale_key (before_first is_slash t))
    else None

-- a row of a marker at its key, if that is one
abbrev pub keyed_row : NameMarker → List ℕ × List ℕ → Option (NameKey × List ℕ)
keyed_row marker row = option_map (λ key. (key, row.1)) (name_key marker row.0)

-- the rows of a marker, each at its key; one whose key is in no written form is left out
abbrev pub keyed : NameMarker → List (List ℕ × List ℕ) → Names
keyed marker rows = filter_map (keyed_row marker) rows

-- a group of names, if what it is called is in written form
abbrev pub keyed_group : List ℕ × List (List ℕ × List ℕ) → Option (NameGroup × Names)
keyed_group named = option_map (λ group. (group, keyed group.0 named.1)) (group_key named.0)

-- the rows of names in the flat form
abbrev pub rows_in_flat : FlatRows → List ((NameMarker × DataLocale × NameKey) × List ℕ)
rows_in_flat flat = flat_names (filter_map keyed_group (listed flat))

-- the rows that are lent, if any are
abbrev pub lent_rows : Option FlatRows → List ((NameMarker × DataLocale × NameKey) × List ℕ)
lent_rows None = []
lent_rows (Some flat) = rows_in_flat flat

-- all names of tables: their own ones, and then those that are lent; the first at a request counts
abbrev pub all_names : Tables → List ((NameMarker × DataLocale × NameKey) × List ℕ)
all_names t = t.names ++ lent_rows t.lent_names
