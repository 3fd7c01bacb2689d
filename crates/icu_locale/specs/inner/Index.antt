-- How a negotiator finds an available identifier: what only its own functions cite.
use Rattle.std.specs.Prelude.{◌≡◌, ℕ, ◌<◌, ◌≤◌, List, length, slice_index_or, Option, Some, None}
use Rattle.std.specs.List.{All, AllWithin, Contains, slice_get}
use Rattle.icu_locale_core.specs.TextSet.{TextSet}
use Rattle.icu_locale_core.specs.declared.langid.LanguageIdentifier.{LanguageIdentifier}
use Rattle.icu_provider.specs.declared.data_locale.DataLocale.{DataLocale}
use Rattle.icu_locale.specs.LikelySubtags.{LikelySubtags, maximal}
use Rattle.icu_locale.specs.Index.{IsRowOf}
use Rattle.icu_locale.specs.declared.negotiator.available.Row.{Row}

-- the first n available identifiers have a row each, in their order
pub record AreListed (likely : LikelySubtags) (available : List LanguageIdentifier) (n : ℕ)
    (rows : List Row) : Type 0 where
  pub count : length rows ≡ n
  pub each_row : All (IsRowOf likely available) rows
  pub places : (k : ℕ) (d : Row) → k < length rows → (slice_index_or rows k d).place ≡ k

-- the part has the rows with the minimal form d, and no other, by rising places
pub record IsPartOf (rows : List Row) (d : DataLocale) (part : List Row) : Type 0 where
  pub among : (r : Row) → Contains part r → Contains rows r
  pub form : (r : Row) → Contains part r → r.minimal ≡ d
  pub each : (r : Row) → Contains rows r → r.minimal ≡ d → Contains part r
  pub rises : (i j : ℕ) (e : Row) → i ≤ j → j < length part
      → (slice_index_or part i e).place ≤ (slice_index_or part j e).place

-- the available identifier at the row's place has these variants
pub record HasVariants (available : List LanguageIdentifier) (variants : TextSet) (r : Row)
    : Type 0 where
  pub identifier : LanguageIdentifier
  pub stands : slice_get available r.place ≡ Some identifier
  pub same : identifier.variants ≡ variants

-- place is that of row k, whose identifier has the variants, and no earlier one's has
pub record IsFirstRowAt (available : List LanguageIdentifier) (variants : TextSet)
    (rows : List Row) (place k : ℕ) : Type 0 where
  pub row : Row
  pub in_range : k < length rows
  pub stands : slice_index_or rows k row ≡ row
  pub has : HasVariants available variants row
  pub is_place : row.place ≡ place
  pub before : AllWithin (λ s. HasVariants available variants s → ⊥) rows 0 k

-- the place of the first of these rows whose identifier has the variants, if there is one
abbrev pub IsFirstRow : List LanguageIdentifier → TextSet → List Row → Option ℕ → Type 0
IsFirstRow available variants rows None = All (λ r. HasVariants available variants r → ⊥) rows
IsFirstRow available variants rows (Some place) =
    (k : ℕ) × IsFirstRowAt available variants rows place k

-- the available identifier at a place has the maximal form of x
pub record MeansAt (likely : LikelySubtags) (available : List LanguageIdentifier)
    (x : LanguageIdentifier) (place : ℕ) : Type 0 where
  pub identifier : LanguageIdentifier
  pub stands : slice_get available place ≡ Some identifier
  pub same : maximal likely x ≡ maximal likely identifier

-- the first place at which an available identifier has the maximal form of x, if there is one
abbrev pub IsFirstPlace : LikelySubtags → List LanguageIdentifier → LanguageIdentifier
    → Option ℕ → Type 0
IsFirstPlace likely available x None = (k : ℕ) → MeansAt likely available x k → ⊥
IsFirstPlace likely available x (Some place) =
    MeansAt likely available x place
    × ((k : ℕ) → MeansAt likely available x k → place ≤ k)
