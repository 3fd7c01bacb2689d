-- Rows of names that other rows have too.
use Rattle.std.specs.Prelude.{◌≡◌, ℕ, true, List, Some}
use Rattle.std.specs.List.{AllByRecursion}
use Rattle.icu_locale_core.specs.Maps.{value_at}
use Rattle.icu_provider.specs.Requests.{name_cmp}
use Rattle.icu_provider.specs.declared.data_locale.DataLocale.{DataLocale}
use Rattle.icu_provider.specs.declared.names.NameKey.{NameKey}
use Rattle.icu_provider.specs.declared.names.NameMarker.{NameMarker}
use Rattle.icu_tables.specs.Tables.{is_of_kind}

-- rows have the name of a row, if its key is of its marker's kind
abbrev pub IsToldBy : List ((NameMarker × DataLocale × NameKey) × List ℕ)
    → (NameMarker × DataLocale × NameKey) × List ℕ → Type 0
IsToldBy rows row = is_of_kind row.0.0 row.0.2 ≡ true → value_at name_cmp rows row.0 ≡ Some row.1

-- rows have the names of each of others
abbrev pub AreToldBy : (rows others : List ((NameMarker × DataLocale × NameKey) × List ℕ)) → Type 0
AreToldBy rows others = AllByRecursion (IsToldBy rows) others
