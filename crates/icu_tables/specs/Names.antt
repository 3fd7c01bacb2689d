-- Markers, locales and keys of names, as members of a JSON object name them.
use Rattle.std.specs.Prelude.{ℕ, List, [], ◌∷◌, codes, nat_eq, if◌then◌else◌, Option, Some, None, option_map}
use Rattle.std.specs.Cmp.Lexicographic.{pointwise}
use Rattle.std.specs.Map.{lookup}
use Rattle.std.specs.Option.{option_or}
use Rattle.icu_provider.specs.declared.data_locale.DataLocale.{DataLocale}
use Rattle.icu_provider.specs.declared.exemplars.ExemplarMarker.{ExemplarMarker}
use Rattle.icu_provider.specs.declared.exemplars.ExemplarMarker.TheVariants.{Main, Auxiliary, Punctuation, Numbers, Index}
use Rattle.icu_provider.specs.declared.names.MenuMarker.{MenuMarker}
use Rattle.icu_provider.specs.declared.names.MenuMarker.TheVariants.{MediumLight, MediumHeavy}
use Rattle.icu_provider.specs.declared.names.NameKey.{NameKey}
use Rattle.icu_provider.specs.declared.names.NameKey.TheVariants.{Language, Script, Region, Variant}
use Rattle.icu_provider.specs.declared.names.NameMarker.{NameMarker}
use Rattle.icu_provider.specs.declared.names.NameMarker.TheVariants.{
  RegionMediumTiny,
  RegionMediumLight,
  RegionShortTiny,
  RegionShortLight,
  LanguageMediumTiny,
  LanguageMediumLight,
  LanguageMediumHeavy,
  LanguageShortLight,
  LanguageShortHeavy,
  LanguageLongLight,
  LanguageLongHeavy,
  ScriptMediumTiny,
  ScriptMediumLight,
  ScriptMediumHeavy,
  ScriptShortHeavy,
  VariantMediumHeavy,
}
use Rattle.icu_tables.specs.Shape.{both}
use Rattle.icu_tables.specs.Subtags.{language_key, script_key, region_key, variant_key, key_pair, cut_at_dash}
use Rattle.icu_tables.specs.Tables.{names_languages, names_scripts, names_regions}

-- what a name stands for in a table of names
abbrev pub named_in : {A : Type 0} → List (List ℕ × A) → List ℕ → Option A
named_in table name = lookup (λ known. pointwise nat_eq known name) table

-- the names of markers of exemplar sets
abbrev pub exemplar_markers : List (List ℕ × ExemplarMarker)
exemplar_markers =
    (codes "main", Main)
    ∷ (codes "auxiliary", Auxiliary)
    ∷ (codes "punctuation", Punctuation)
    ∷ (codes "numbers", Numbers)
    ∷ (codes "index", Index)
    ∷ []

-- the names of markers of names
abbrev pub name_markers : List (List ℕ × NameMarker)
name_markers =
    (codes "region/medium/tiny", RegionMediumTiny)
    ∷ (codes "region/medium/light", RegionMediumLight)
    ∷ (codes "region/short/tiny", RegionShortTiny)
    ∷ (codes "region/short/light", RegionShortLight)
    ∷ (codes "language/medium/tiny", LanguageMediumTiny)
    ∷ (codes "language/medium/light", LanguageMediumLight)
    ∷ (codes "language/medium/heavy", LanguageMediumHeavy)
    ∷ (codes "language/short/light", LanguageShortLight)
    ∷ (codes "language/short/heavy", LanguageShortHeavy)
    ∷ (codes "language/long/light", LanguageLongLight)
    ∷ (codes "language/long/heavy", LanguageLongHeavy)
    ∷ (codes "script/medium/tiny", ScriptMediumTiny)
    ∷ (codes "script/medium/light", ScriptMediumLight)
    ∷ (codes "script/medium/heavy", ScriptMediumHeavy)
    ∷ (codes "script/short/heavy", ScriptShortHeavy)
    ∷ (codes "variant/medium/heavy", VariantMediumHeavy)
    ∷ []

-- the names of markers of names in menus
abbrev pub menu_markers : List (List ℕ × MenuMarker)
menu_markers =
    (codes "language/menu/medium/light", MediumLight)
    ∷ (codes "language/menu/medium/heavy", MediumHeavy)
    ∷ []

-- what may follow the language of a locale: a script, a region, or both
abbrev pub script_and_region : List ℕ → Option (Option (List ℕ) × Option (List ℕ))
script_and_region t =
    option_or (option_map (λ script. (Some script, None)) (script_key t))
    (option_or (option_map (λ region. (None, Some region)) (region_key t))
    (option_map (λ pair. (Some pair.0, Some pair.1)) (key_pair script_key region_key t)))

-- a language, and what follows it
abbrev pub locale_of : (List ℕ) × (Option (List ℕ) × Option (List ℕ)) → DataLocale
locale_of parts = record { language = parts.0; script = parts.1.0; region = parts.1.1 }

-- a locale of a text that is cut at its first dash, or has none
abbrev pub cut_locale : List ℕ → Option (List ℕ × List ℕ) → Option DataLocale
cut_locale t None = option_map (λ language. locale_of (language, (None, None))) (language_key t)
cut_locale t (Some cut) = option_map locale_of (both (language_key cut.0) (script_and_region cut.1))

-- a locale in written form: a language, with a script if any and a region if any
abbrev pub locale_key : List ℕ → Option DataLocale
locale_key t = cut_locale t (cut_at_dash t)

-- a key of the marker's kind: a locale for names of languages, and one subtag for other names
abbrev pub name_key : NameMarker → List ℕ → Option NameKey
name_key marker t =
    if names_languages marker
    then option_map (λ locale. Language locale.language locale.script locale.region) (locale_key t)
    else if names_scripts marker then option_map (λ script. Script script) (script_key t)
    else if names_regions marker then option_map (λ region. Region region) (region_key t)
    else option_map (λ variant. Variant variant) (variant_key t)
