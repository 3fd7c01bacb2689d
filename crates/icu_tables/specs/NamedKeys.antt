-- The keys that have a name in a locale.
use Rattle.std.specs.Prelude.{◌↔◌, Bool, IsTrue, List, ℕ, is_some}
use Rattle.std.specs.List.{Contains, list_any}
use Rattle.std.specs.List.Sorted.{IsStrictlySortedBy}
use Rattle.icu_locale_core.specs.Maps.{value_at}
use Rattle.icu_provider.specs.Requests.{name_cmp}
use Rattle.icu_provider.specs.declared.data_locale.DataLocale.{DataLocale}
use Rattle.icu_provider.specs.declared.names.NameKey.{NameKey}
use Rattle.icu_provider.specs.declared.names.NameMarker.{NameMarker}
use Rattle.icu_tables.specs.Groups.{key_cmp}

-- some of the markers names a key in a locale
abbrev pub is_named_by : List ((NameMarker × DataLocale × NameKey) × List ℕ)
    → List NameMarker → DataLocale → NameKey → Bool
is_named_by rows markers locale key =
    list_any (λ marker. is_some (value_at name_cmp rows (marker, locale, key))) markers

-- the keys that are named, each once, in rising order
pub record AreNamedKeys (rows : List ((NameMarker × DataLocale × NameKey) × List ℕ))
    (markers : List NameMarker) (locale : DataLocale) (keys : List NameKey) : Type 0 where
  pub rise : IsStrictlySortedBy key_cmp keys
  pub each : (key : NameKey) → Contains keys key ↔ IsTrue (is_named_by rows markers locale key)
