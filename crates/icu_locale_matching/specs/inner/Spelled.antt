-- Where identifiers stand in their own spelling.
use Rattle.std.specs.Prelude.{◌≡◌, ℕ, ◌≤◌, List, Option, Some, IsSome}
use Rattle.std.specs.List.{slice_get}
use Rattle.icu_locale_core.specs.TextSet.{empty}
use Rattle.icu_locale_core.specs.Maps.{value_at}
use Rattle.icu_locale_core.specs.declared.langid.LanguageIdentifier.{LanguageIdentifier}
use Rattle.icu_provider.specs.contracts.names.NameKeyOrd.TheImpl as name_key
use Rattle.icu_provider.specs.declared.names.NameKey.{NameKey}
use Rattle.icu_provider.specs.declared.names.NameKey.TheVariants.{Language}

-- the key of an identifier: its subtags, variants aside
abbrev pub key_of : LanguageIdentifier → NameKey
key_of x = Language x.language x.script x.region

-- the place that is noted at the key of an identifier
abbrev pub place_at : List (NameKey × ℕ) → LanguageIdentifier → Option ℕ
place_at rows x = value_at name_key.ghosts.cmp rows (key_of x)

-- x is at j, and at no place before it from n on
pub record IsFirstFrom (xs : List LanguageIdentifier) (n : ℕ) (x : LanguageIdentifier) (j : ℕ)
    : Type 0 where
  pub from : n ≤ j
  pub at : slice_get xs j ≡ Some x
  pub first : (k : ℕ) → n ≤ k → slice_get xs k ≡ Some x → j ≤ k

-- what is noted at the key of an identifier without variants is the first place of that, from n on, and each is noted
pub record AreSpelled (xs : List LanguageIdentifier) (n : ℕ) (rows : List (NameKey × ℕ))
    : Type 0 where
  pub each : (x : LanguageIdentifier) (j : ℕ) → x.variants ≡ empty
      → place_at rows x ≡ Some j → IsFirstFrom xs n x j
  pub every : (x : LanguageIdentifier) (k : ℕ) → x.variants ≡ empty → n ≤ k
      → slice_get xs k ≡ Some x → IsSome (place_at rows x)
