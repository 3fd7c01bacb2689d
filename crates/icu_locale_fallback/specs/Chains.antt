-- Chains of locales: what a fallbacker is, and what its calls answer.
use Rattle.std.specs.Prelude.{◌≡◌, ℕ, ◌+◌, ◌*◌, ◌<◌, ◌≤◌, List, codes, Option, Some, None}
use Rattle.std.specs.List.{slice_get}
use Rattle.icu_locale_fallback.specs.declared.errors.FallbackError.{FallbackError}
use Rattle.icu_locale_fallback.specs.declared.errors.FallbackError.TheVariants.{Memory, Circle}
use Rattle.icu_locale_core.specs.Maps.{value_at}
use Rattle.icu_provider.specs.Requests.{locale_cmp}
use Rattle.icu_provider.specs.declared.data_locale.DataLocale.{DataLocale}
use Rattle.icu_locale.specs.LikelyTable.{likely}
use Rattle.icu_locale_runs.specs.Run.{at, EndsAt, IsRepeat, HasDistinct}
use Rattle.icu_locale.specs.LikelySubtags.{LikelySubtags}
use Rattle.icu_locale_fallback.specs.Fallback.{Parents, Inheritance, root, next, explicit_parent}
use Rattle.icu_locale_fallback.specs.declared.fallbacker.LocaleFallbackPriority.{LocaleFallbackPriority}
use Rattle.icu_locale_fallback.specs.declared.fallbacker.LocaleFallbackPriority.TheVariants.{Language, Script, Region}
use Rattle.icu_locale_fallback.specs.declared.fallbacker.LocaleFallbacker.{LocaleFallbacker}
use Rattle.icu_locale_fallback.specs.declared.fallbacker.LocaleFallbackIterator.{LocaleFallbackIterator}

-- the parents of a table's rows (section 4.2, Parent Locales)
abbrev pub parents_of : List (DataLocale × DataLocale) → Parents
parents_of rows x = value_at locale_cmp rows x

-- what the chains of a fallbacker go by
abbrev pub inheritance : LocaleFallbacker → LocaleFallbackPriority → Inheritance
inheritance f priority = record {
  priority = priority;
  likely = likely f.expander;
  parents = parents_of f.parents.now;
}

-- what the chain of a place goes by
abbrev pub inheritance_of : LocaleFallbackIterator → Inheritance
inheritance_of place = inheritance place.fallbacker place.config.priority

-- the locale at a place
abbrev pub locale_of : LocaleFallbackIterator → DataLocale
locale_of place = place.current

-- the chain ends at the root, or it names the first locale that comes again
abbrev pub IsCircle : Inheritance → DataLocale → Option DataLocale → Type 0
IsCircle by x None = EndsAt (next by) x root
IsCircle by x (Some z) = IsRepeat (next by) x z

-- the steps from before to after are at most six for each different locale of the chain, and at least one
abbrev pub CountsSteps : Inheritance → DataLocale → (before after : ℕ) → Type 0
CountsSteps by x before after =
    (n : ℕ) × HasDistinct (next by) x n × (after ≤ before + 6 * n) × (before + n ≤ after)

-- so many truncations lead to the root at most
abbrev pub most_truncations : LocaleFallbackPriority → ℕ
most_truncations Language = 3
most_truncations Script = 4
most_truncations Region = 2

-- y is in the chain of x, and no locale before it has an explicit parent that counts
pub record IsTruncation (by : Inheritance) (x y : DataLocale) : Type 0 where
  pub place : ℕ
  pub here : at (next by) x place ≡ Some y
  pub none : (i : ℕ) (z : DataLocale) → i < place → at (next by) x i ≡ Some z
      → explicit_parent by z ≡ None

-- the chain comes to the root after n steps at most
abbrev pub EndsWithin : Inheritance → DataLocale → ℕ → Type 0
EndsWithin by x n = (place : ℕ) × (place ≤ n) × (at (next by) x place ≡ Some root)

-- over a table of parents
abbrev pub over : LocaleFallbackPriority → LikelySubtags → List (DataLocale × DataLocale) → Inheritance
over p likely rows = record { priority = p; likely = likely; parents = parents_of rows }

-- the chain has at most n different locales
abbrev pub HasAtMost : Inheritance → DataLocale → ℕ → Type 0
HasAtMost by x n = (m : ℕ) × HasDistinct (next by) x m × (m ≤ n)

-- no locale has an explicit parent
abbrev pub HasNoParents : Inheritance → Type 0
HasNoParents by = (x : DataLocale) → by.parents x ≡ None

-- the list has the locales of the chain, each at its place, and the chain ends where the list does
abbrev pub IsChain : Inheritance → DataLocale → List DataLocale → Type 0
IsChain by x locales = (i : ℕ) → slice_get locales i ≡ at (next by) x i

-- the name of a refusal, as Display writes it
abbrev pub fallback_error_name : FallbackError → List ℕ
fallback_error_name Memory = codes "Memory"
fallback_error_name (Circle z) = codes "Circle"

-- why a chain has no list: memory was refused, or it has a first locale that comes again
abbrev pub IsRefusal : Inheritance → DataLocale → FallbackError → Type 0
IsRefusal by x Memory = EndsAt (next by) x root
IsRefusal by x (Circle z) = IsRepeat (next by) x z
