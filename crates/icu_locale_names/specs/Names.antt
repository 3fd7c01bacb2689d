-- Names of one subtag, and what stands for one that is not given.
use Rattle.std.specs.Prelude.{ℕ, List, Result, Ok, Err}
use Rattle.icu_provider.specs.declared.data_locale.DataLocale.{DataLocale}
use Rattle.icu_provider.specs.declared.error.DataError.{DataError}
use Rattle.icu_provider.specs.declared.names.MenuMarker.{MenuMarker}
use Rattle.icu_provider.specs.declared.names.MenuNameParts.{MenuNameParts}
use Rattle.icu_provider.specs.declared.names.NameKey.{NameKey}
use Rattle.icu_provider.specs.declared.names.NameMarker.{NameMarker}
use Rattle.icu_locale_names.specs.Chains.{first_hit}

-- what a provider answers to a marker, a locale and a key
abbrev pub Answers : Type 0
Answers = NameMarker → DataLocale → NameKey → Result (List ℕ) DataError

-- what a provider answers to a marker of menus, a locale and a language
abbrev pub MenuAnswers : Type 0
MenuAnswers = MenuMarker → DataLocale → List ℕ → Result MenuNameParts DataError

-- the name of a key in the language of a locale, by the first marker of a chain that has one
abbrev pub name_by : Answers → DataLocale → NameKey → List NameMarker
    → Result (List ℕ) DataError
name_by answers locale key chain = first_hit (λ marker. answers marker locale key) chain

-- the name of a language in menus, by the first marker of a chain that has one
abbrev pub menu_by : MenuAnswers → DataLocale → List ℕ → List MenuMarker
    → Result MenuNameParts DataError
menu_by answers locale language chain = first_hit (λ marker. answers marker locale language) chain

-- a name, and the raw subtag on any error
abbrev pub or_raw : Result (List ℕ) DataError → List ℕ → List ℕ
or_raw (Ok name) raw = name
or_raw (Err refusal) raw = raw
