-- Keys of locale identifiers: the extensions of the whole canonical form, and the identifier's key that stays (UTS #35 Part 1,
-- section 4.3 and Annex C).
use Rattle.std.specs.Prelude.{◌≡◌, ◌⊎◌}
use Rattle.icu_locale_core.specs.declared.langid.LanguageIdentifier.{LanguageIdentifier}
use Rattle.icu_locale.specs.declared.expander.Favor.TheVariants.{RegionFirst}
use Rattle.icu_locale_extensions.specs.Built.{with_id}
use Rattle.icu_locale_extensions.specs.declared.identifier.LocaleIdentifier.{LocaleIdentifier}
use Rattle.icu_locale_values.specs.Refusals.{IsWholeRefusal}
use Rattle.icu_locale_values.specs.Whole.{WholeRules, IsWhole}
use Rattle.icu_locale_values.specs.declared.error.WholeError.{WholeError}
use Rattle.icu_locale_values.specs.declared.error.WholeError.TheVariants.{NoFixedPoint}
use Rattle.icu_locale_key.specs.Stable.{IsStableKey, IsStuck, ComesRound}

-- k is the key of x: the whole canonical form of x, with the key that stays in place of its identifier
pub record IsWholeKey (by : WholeRules) (x k : LocaleIdentifier) : Type 0 where
  pub canonical : LocaleIdentifier
  pub whole : IsWhole by x canonical
  pub key : LanguageIdentifier
  pub stays : IsStableKey RegionFirst by.likely by.rules canonical.locale.id key
  pub is : k ≡ with_id canonical key

-- x has a whole canonical form, and its identifier has no key that stays: z comes again first
pub record HasNoKey (by : WholeRules) (x : LocaleIdentifier) (z : LanguageIdentifier) : Type 0 where
  pub canonical : LocaleIdentifier
  pub whole : IsWhole by x canonical
  pub reason : IsStuck RegionFirst by.likely by.rules canonical.locale.id z
      ⊎ ComesRound RegionFirst by.likely by.rules canonical.locale.id z

-- why x has no key: it has no whole canonical form, or its identifier has no key that stays
abbrev pub IsWholeKeyRefusal : WholeRules → LocaleIdentifier → WholeError → Type 0
IsWholeKeyRefusal by x (NoFixedPoint z) = IsWholeRefusal by x (NoFixedPoint z) ⊎ HasNoKey by x z
IsWholeKeyRefusal by x e = IsWholeRefusal by x e
