-- Labels of a settings menu.
use Rattle.std.specs.Prelude.{◌≡◌, List, [], Result, Ok}
use Rattle.icu_locale_extensions.specs.declared.identifier.LocaleIdentifier.{LocaleIdentifier}
use Rattle.icu_locale_full_names.specs.FullNames.{NameText, full_name_of, written}
use Rattle.icu_locale_names.specs.LanguageChains.{LanguageChain}
use Rattle.icu_locale_names.specs.LanguageNames.{LocaleAnswers}
use Rattle.icu_locale_names.specs.Pieces.{Piece}
use Rattle.icu_locale_names.specs.declared.options.LanguageDisplay.TheVariants.{Dialect}
use Rattle.icu_provider.specs.declared.extension_names.ExtensionNames.{ExtensionNames}

-- the whole name of a locale, in which no part is raw
pub record IsLabel (answers : LocaleAnswers) (chain : LanguageChain) (names : ExtensionNames)
    (locale : LocaleIdentifier) (label : NameText) : Type 0 where
  pub pieces : List Piece
  pub is : full_name_of answers chain Dialect names locale ≡ Ok pieces
  pub text : label ≡ written pieces
  pub named : label.raw_spans ≡ []
