-- What is added to a list of requests.
use Rattle.std.specs.Prelude.{◌≡◌, ℕ, Bool, true, List, [], ◌++◌, Option}
use Rattle.std.specs.List.{cons_option}
use Rattle.icu_locale_extensions.specs.Built.{bare}
use Rattle.icu_locale_extensions.specs.declared.identifier.LocaleIdentifier.{LocaleIdentifier}
use Rattle.icu_locale_core.specs.declared.langid.LanguageIdentifier.{LanguageIdentifier}
use Rattle.icu_locale_matching.specs.Requests.{IsOnly, IsTag}

-- what stands for a range by P, if anything, is appended to a list
pub record IsAdded (P : LanguageIdentifier → Type 0) (old new : List LanguageIdentifier)
    : Type 0 where
  pub asked : Option LanguageIdentifier
  pub only : IsOnly P asked
  pub is : new ≡ old ++ cons_option asked []

-- the identifier of a tag that the range spells, of a bare one if that is asked for
pub record IsIdentifierOf (bare_alone : Bool) (range : List ℕ) (y : LanguageIdentifier) : Type 0 where
  pub tag : LocaleIdentifier
  pub is : IsTag range tag
  pub plain : bare_alone ≡ true → tag ≡ bare tag.locale.id
  pub at : tag.locale.id ≡ y
