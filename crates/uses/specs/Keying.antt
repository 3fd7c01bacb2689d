-- Whole keys of a store.
use Rattle.std.specs.Prelude.{◌≡◌, ℕ, List}
use Rattle.icu_locale_extensions.specs.Locales.{IsLocaleIdentifier, written}
use Rattle.icu_locale_extensions.specs.declared.identifier.LocaleIdentifier.{LocaleIdentifier}
use Rattle.icu_locale_values.specs.Whole.{WholeRules, IsWhole}

-- the text of the whole canonical form
pub record IsWholeKey (by : WholeRules) (old : LocaleIdentifier) (key : List ℕ) : Type 0 where
  pub canonical : LocaleIdentifier
  pub is_whole : IsWhole by old canonical
  pub known : IsLocaleIdentifier canonical
  pub is : key ≡ written canonical
