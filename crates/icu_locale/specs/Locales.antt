-- A language, a script and a region as one locale: how it is made, and when two are the same.
use Rattle.std.specs.Prelude.{ℕ, Bool, ◌&&◌, List, Option}
use Rattle.std.specs.Option.{option_eq}
use Rattle.std.specs.Str.{bytes_eq}
use Rattle.icu_provider.specs.declared.data_locale.DataLocale.{DataLocale}

-- the locale of a language, a script and a region
abbrev pub locale_with : List ℕ → Option (List ℕ) → Option (List ℕ) → DataLocale
locale_with language script region =
    record { language = language; script = script; region = region }

-- whether two locales have the same subtags
abbrev pub same_locale : DataLocale → DataLocale → Bool
same_locale x y = bytes_eq x.language y.language
    && (option_eq bytes_eq x.script y.script && option_eq bytes_eq x.region y.region)
