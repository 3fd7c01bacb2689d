-- The names that the program writes.
use Rattle.std.specs.Prelude.{◌≡◌, ℕ, Bool, true, false, List, Option, Some, None, Result, Ok, Err}
use Rattle.std.specs.Borrow.{Bor}
use Rattle.icu_locale_core.specs.Maps.{value_at}
use Rattle.icu_locale_core.specs.declared.langid.LanguageIdentifier.{LanguageIdentifier}
use Rattle.icu_locale_extensions.specs.declared.identifier.LocaleIdentifier.{LocaleIdentifier}
use Rattle.icu_locale_full_names.specs.FullNames.{full_name_of}
use Rattle.icu_locale_names.specs.LanguageChains.{chain_of}
use Rattle.icu_locale_names.specs.LanguageNames.{LocaleAnswers, in_locale, name_of}
use Rattle.icu_locale_names.specs.Pieces.{Piece}
use Rattle.icu_locale_names.specs.declared.options.LanguageDisplay.TheVariants.{Dialect}
use Rattle.icu_provider.specs.Provider.{kind_name}
use Rattle.icu_provider.specs.Requests.{menu_cmp, locale_cmp}
use Rattle.icu_provider.specs.declared.data_locale.DataLocale.{DataLocale}
use Rattle.icu_provider.specs.declared.error.DataError.{DataError}
use Rattle.icu_provider.specs.declared.extension_names.ExtensionNames.{ExtensionNames}
use Rattle.icu_tables.specs.Tables.{held, name_in}
use Rattle.icu_tables.specs.declared.locale_tables.LocaleTables.{LocaleTables}
use Rattle.icu_locale_lines.specs.declared.work.name.Naming.{Naming}
use Rattle.icu_locale_lines.specs.Texts.{named_line, refused_line}

-- what tables answer in the language of a locale
abbrev pub answers_in : LocaleTables → DataLocale → LocaleAnswers
answers_in t locale = in_locale (λ marker at key. held (name_in t.names marker at key))
    (λ marker at language. held (value_at menu_cmp t.tables.now.menus (marker, at, language)))
    (λ at. held (value_at locale_cmp t.tables.now.essentials at)) locale

-- the name of an identifier, where names of dialects are asked for
abbrev pub name_asked : Naming → LanguageIdentifier → Result (List Piece) DataError
name_asked n x =
    name_of (answers_in n.tables n.preferences.locale) (chain_of n.chain) Dialect x

-- the name of a locale identifier, where it is known what parts of extensions are called
abbrev pub full_name_asked : Naming → ExtensionNames → LocaleIdentifier
    → Result (List Piece) DataError
full_name_asked n names x =
    full_name_of (answers_in n.tables n.preferences.locale) (chain_of n.chain) Dialect names x

-- the same where that may not be known: then its identifier alone is named
abbrev pub name_asked_with : Naming → Option (Bor ExtensionNames) → LocaleIdentifier
    → Result (List Piece) DataError
name_asked_with n None x = name_asked n x.locale.id
name_asked_with n (Some names) x = full_name_asked n names.now x

abbrev pub whole_name_asked : Naming → LocaleIdentifier → Result (List Piece) DataError
whole_name_asked n x = name_asked_with n n.extensions x

-- a name gives its line, and a refused one the kind of its refusal
abbrev pub IsNamedLine : Result (List Piece) DataError → List ℕ → Bool → Type 0
IsNamedLine (Ok pieces) text accepted = (text ≡ named_line pieces) × (accepted ≡ true)
IsNamedLine (Err e) text accepted = (text ≡ refused_line (kind_name e.kind)) × (accepted ≡ false)
