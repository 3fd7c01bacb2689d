-- Runs of names in the flat form, and the keys in them.
use Rattle.std.specs.Prelude.{◌≡◌, ◌++◌, ◌↔◌, ◌∷◌, [], List, Option, Some, None, get_or, is_some, IfSome, IsTrue, ℕ, option_and_then}
use Rattle.std.specs.List.{Contains}
use Rattle.icu_locale_core.specs.Maps.{value_at}
use Rattle.icu_locale_core.specs.Subtag.{IsLanguage, IsRegion, IsScript, IsVariant}
use Rattle.icu_provider.specs.Requests.{name_cmp, name_place}
use Rattle.icu_provider.specs.declared.data_locale.DataLocale.{DataLocale}
use Rattle.icu_provider.specs.declared.names.NameKey.{NameKey}
use Rattle.icu_provider.specs.declared.names.NameKey.TheVariants.{Language, Script, Region, Variant}
use Rattle.icu_provider.specs.declared.names.NameMarker.{NameMarker}
use Rattle.icu_tables_flat.specs.Flat.{FlatRows, run_at}
use Rattle.icu_tables.specs.Groups.{NameGroup, key_cmp, request_of}
use Rattle.icu_tables.specs.LentNames.{keyed, rows_in_flat}
use Rattle.icu_tables.specs.Names.{name_key}

-- each subtag of a locale is in written form
pub record IsLocale (l : DataLocale) : Type 0 where
  pub language : IsLanguage l.language
  pub script : IfSome l.script IsScript
  pub region : IfSome l.region IsRegion

-- each subtag of a key is in written form
abbrev pub IsKey : NameKey → Type 0
IsKey (Language language script region) =
    IsLocale (record { language = language; script = script; region = region })
IsKey (Script script) = IsScript script
IsKey (Region region) = IsRegion region
IsKey (Variant variant) = IsVariant variant

-- the name at a key of a marker in a run, if there is a run
abbrev pub name_in_run : FlatRows → NameMarker → Option ℕ → NameKey → Option (List ℕ)
name_in_run flat marker run key =
    option_and_then (λ r. value_at key_cmp (keyed marker (run_at flat r)) key) run

-- the same among the names that are lent, if any are
abbrev pub name_in_lent : Option FlatRows → NameMarker → Option ℕ → NameKey → Option (List ℕ)
name_in_lent lent marker run key =
    option_and_then (λ flat. name_in_run flat marker run key) lent

-- a run has the names of a group, which has none where there is no run
abbrev pub IsRunOf : FlatRows → NameGroup → Option ℕ → Type 0
IsRunOf flat group run = (key : NameKey)
    → name_in_run flat group.0 run key ≡ value_at name_cmp (rows_in_flat flat) (request_of group key)

-- the runs of a locale, each at the place of its marker
abbrev pub AreRunsIn : Option FlatRows → DataLocale → List (Option ℕ) → Type 0
AreRunsIn lent locale runs = (flat : FlatRows) → lent ≡ Some flat → (marker : NameMarker)
    → IsRunOf flat (marker, locale) (get_or runs (name_place marker) None)

-- a list of keys grew by those that have a name in a group
pub record AddsKeys (rows : List ((NameMarker × DataLocale × NameKey) × List ℕ)) (group : NameGroup)
    (old new : List NameKey) : Type 0 where
  pub added : List NameKey
  pub grown : new ≡ old ++ added
  pub each : (key : NameKey) → Contains added key
      ↔ IsTrue (is_some (value_at name_cmp rows (request_of group key)))

-- the item that is there, if there is one
abbrev pub items_there : {T : Type 0} → Option T → List T
items_there None = []
items_there (Some item) = item ∷ []

-- the key of a row of a marker, if there is a row and what it is called is one
abbrev pub key_in_row : NameMarker → Option (List ℕ × List ℕ) → Option NameKey
key_in_row marker row = option_and_then (λ row. name_key marker row.0) row
