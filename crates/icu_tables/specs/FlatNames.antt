-- Names that are written in the flat form.
use Rattle.std.specs.Prelude.{◌≡◌, ℕ, List}
use Rattle.icu_provider.specs.declared.data_locale.DataLocale.{DataLocale}
use Rattle.icu_provider.specs.declared.names.NameKey.{NameKey}
use Rattle.icu_provider.specs.declared.names.NameMarker.{NameMarker}
use Rattle.icu_tables_flat.specs.Flat.{FlatRows}
use Rattle.icu_tables.specs.LentNames.{rows_in_flat}
use Rattle.icu_tables.specs.Tables.{name_in}

-- names in the flat form say what other names do: at each request the same, if its key is of the
-- marker's kind
abbrev pub SayNames : FlatRows → List ((NameMarker × DataLocale × NameKey) × List ℕ) → Type 0
SayNames flat rows = (marker : NameMarker) (locale : DataLocale) (key : NameKey)
    → name_in (rows_in_flat flat) marker locale key ≡ name_in rows marker locale key
