-- What private functions give of names.
use Rattle.std.specs.Prelude.{◌≡◌, ◌⊎◌, Option, Result}
use Rattle.icu_locale_core.specs.declared.langid.LanguageIdentifier.{LanguageIdentifier}
use Rattle.icu_locale_names.specs.LanguageChains.{LanguageChain}
use Rattle.icu_locale_names.specs.LanguageNames.{LocaleAnswers, NameParts}
use Rattle.icu_locale_names.specs.declared.options.LanguageDisplay.{LanguageDisplay}
use Rattle.icu_provider.specs.declared.error.DataError.{DataError}
use Rattle.icu_locale_full_names.specs.FullNames.{language_parts_of, LacksLanguageMemory}

-- the parts of the name of the language of `t` are given, or refused as they must be; or memory was lacking
abbrev pub GivesLanguage : LocaleAnswers → LanguageChain → LanguageDisplay → Option LanguageIdentifier
    → Result (Option NameParts) DataError → Type 0
GivesLanguage answers chain display lang result =
    (result ≡ language_parts_of answers chain display lang)
    ⊎ LacksLanguageMemory answers chain display lang result
