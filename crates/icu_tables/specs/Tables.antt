-- What tables in memory answer.
use Rattle.std.specs.Prelude.{ℕ, Bool, true, false, List, if◌then◌else◌, Option, Some, None, Result, Ok, Err}
use Rattle.icu_locale_core.specs.Maps.{value_at}
use Rattle.icu_provider.specs.Requests.{name_cmp}
use Rattle.icu_provider.specs.declared.data_locale.DataLocale.{DataLocale}
use Rattle.icu_provider.specs.declared.error.DataError.{DataError}
use Rattle.icu_provider.specs.declared.error.DataErrorKind.TheVariants.{IdentifierNotFound}
use Rattle.icu_provider.specs.declared.names.NameKey.{NameKey}
use Rattle.icu_provider.specs.declared.names.NameKey.TheVariants.{Language, Script, Region, Variant}
use Rattle.icu_provider.specs.declared.names.NameMarker.{NameMarker}
use Rattle.icu_provider.specs.declared.names.NameMarker.TheVariants.{
  RegionMediumTiny,
  RegionMediumLight,
  RegionShortTiny,
  RegionShortLight,
  LanguageMediumTiny,
  LanguageMediumLight,
  LanguageMediumHeavy,
  LanguageShortLight,
  LanguageShortHeavy,
  LanguageLongLight,
  LanguageLongHeavy,
  ScriptMediumTiny,
  ScriptMediumLight,
  ScriptMediumHeavy,
  ScriptShortHeavy,
  VariantMediumHeavy,
}

-- what is held, and IdentifierNotFound for what is not
abbrev pub held : {T : Type 0} → Option T → Result T DataError
held (Some x) = Ok x
held None = Err (record { kind = IdentifierNotFound })

-- markers of names of regions
abbrev pub names_regions : NameMarker → Bool
names_regions RegionMediumTiny = true
names_regions RegionMediumLight = true
names_regions RegionShortTiny = true
names_regions RegionShortLight = true
names_regions _ = false

-- markers of names of languages
abbrev pub names_languages : NameMarker → Bool
names_languages LanguageMediumTiny = true
names_languages LanguageMediumLight = true
names_languages LanguageMediumHeavy = true
names_languages LanguageShortLight = true
names_languages LanguageShortHeavy = true
names_languages LanguageLongLight = true
names_languages LanguageLongHeavy = true
names_languages _ = false

-- markers of names of scripts
abbrev pub names_scripts : NameMarker → Bool
names_scripts ScriptMediumTiny = true
names_scripts ScriptMediumLight = true
names_scripts ScriptMediumHeavy = true
names_scripts ScriptShortHeavy = true
names_scripts _ = false

-- markers of names of variants
abbrev pub names_variants : NameMarker → Bool
names_variants VariantMediumHeavy = true
names_variants _ = false

-- a key belongs to a marker of its kind
abbrev pub is_of_kind : NameMarker → NameKey → Bool
is_of_kind marker (Language language script region) = names_languages marker
is_of_kind marker (Script script) = names_scripts marker
is_of_kind marker (Region region) = names_regions marker
is_of_kind marker (Variant variant) = names_variants marker

-- the name at a request, where the key belongs to the marker
abbrev pub name_in : List ((NameMarker × DataLocale × NameKey) × List ℕ)
    → NameMarker → DataLocale → NameKey → Option (List ℕ)
name_in rows marker locale key =
    if is_of_kind marker key
    then value_at name_cmp rows (marker, locale, key)
    else None
