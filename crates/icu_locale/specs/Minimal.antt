-- Minimal forms: the shortest of those with the same maximal form (UTS #35 Part 1, section 4.3, Remove Likely Subtags).
use Rattle.std.specs.Prelude.{◌≡◌, ℕ, List, ◌+◌, ◌<◌, Option, Some, None, IsSome, ◌⊎◌}
use Rattle.icu_locale_core.specs.TextSet.{len}
use Rattle.icu_locale_core.specs.declared.langid.LanguageIdentifier.{LanguageIdentifier}
use Rattle.icu_locale.specs.LikelySubtags.{LikelySubtags, maximal}
use Rattle.icu_locale.specs.declared.expander.Favor.{Favor}
use Rattle.icu_locale.specs.declared.expander.Favor.TheVariants.{RegionFirst, ScriptFirst}

-- 1 for a subtag that is there
abbrev pub count : Option (List ℕ) → ℕ
count None = 0
count (Some t) = 1

-- how many subtags an identifier has
abbrev pub subtag_count : LanguageIdentifier → ℕ
subtag_count x = 1 + count x.script + count x.region + len x.variants

-- the subtag that decides between two identifiers with equally many
abbrev pub favored : Favor → LanguageIdentifier → Option (List ℕ)
favored RegionFirst x = x.region
favored ScriptFirst x = x.script

-- y has fewer subtags than z, or as many and, unlike z, the favored one
abbrev pub Precedes : Favor → LanguageIdentifier → LanguageIdentifier → Type 0
Precedes favor y z = (subtag_count y < subtag_count z)
    ⊎ ((subtag_count y ≡ subtag_count z) × IsSome (favored favor y)
    × (IsSome (favored favor z) → ⊥))

-- y begins with the language of the maximal form of x, and has the same maximal form
pub record IsInClass (likely : LikelySubtags) (x y : LanguageIdentifier) : Type 0 where
  pub language : y.language ≡ (maximal likely x).language
  pub same : maximal likely y ≡ maximal likely x

-- y is the least of the class of x
abbrev pub IsLeast : Favor → LikelySubtags → LanguageIdentifier → LanguageIdentifier → Type 0
IsLeast favor likely x y = IsInClass likely x y
    × ((z : LanguageIdentifier) → IsInClass likely x z → (y ≡ z) ⊎ Precedes favor y z)

-- the minimal form of x is the least of its class, and the maximal form where the class is empty
abbrev pub IsMinimalForm : Favor → LikelySubtags → LanguageIdentifier → LanguageIdentifier → Type 0
IsMinimalForm favor likely x y = IsLeast favor likely x y
    ⊎ (((z : LanguageIdentifier) → IsInClass likely x z → ⊥) × (y ≡ maximal likely x))
