-- The rows by which a negotiator finds an available identifier: a minimal form and a place each.
use Rattle.std.specs.Prelude.{◌≡◌, ℕ, ◌<◌, List, length, Some}
use Rattle.std.specs.List.{All, Contains, slice_get}
use Rattle.std.specs.List.Sorted.{IsSorted}
use Rattle.std.specs.Option.{option_cmp}
use Rattle.std.specs.Ordering.{ordering_then, nat_cmp}
use Rattle.std.specs.declared.cmp.Ordering.{Ordering}
use Rattle.icu_locale_core.specs.Identifier.{IsIdentifier}
use Rattle.icu_locale_core.specs.TextSet.{text_cmp, empty}
use Rattle.icu_locale_core.specs.declared.langid.LanguageIdentifier.{LanguageIdentifier}
use Rattle.icu_provider.specs.declared.data_locale.DataLocale.{DataLocale}
use Rattle.icu_locale.specs.LikelySubtags.{LikelySubtags, subtags_of}
use Rattle.icu_locale.specs.Minimal.{IsMinimalForm}
use Rattle.icu_locale.specs.declared.expander.Favor.TheVariants.{RegionFirst}
use Rattle.icu_locale.specs.declared.negotiator.available.Row.{Row}

-- a language, a script and a region as an identifier without variants
abbrev pub without_variants : DataLocale → LanguageIdentifier
without_variants d = record { language = d.language; script = d.script; region = d.region; variants = empty }

-- d is the minimal form of x, variants aside
abbrev pub IsPlainForm : LikelySubtags → LanguageIdentifier → DataLocale → Type 0
IsPlainForm likely x d = IsMinimalForm RegionFirst likely (without_variants (subtags_of x)) (without_variants d)

-- by language, then script and region, an absent part first
abbrev pub subtags_cmp : DataLocale → DataLocale → Ordering
subtags_cmp x y =
    ordering_then (text_cmp x.language y.language)
    (ordering_then (option_cmp text_cmp x.script y.script)
    (option_cmp text_cmp x.region y.region))

-- by minimal form, then place
abbrev pub row_cmp : Row → Row → Ordering
row_cmp r s = ordering_then (subtags_cmp r.minimal s.minimal) (nat_cmp r.place s.place)

-- a row tells the place of an available identifier, and its minimal form, variants aside
pub record IsRowOf (likely : LikelySubtags) (available : List LanguageIdentifier) (r : Row)
    : Type 0 where
  pub identifier : LanguageIdentifier
  pub stands : slice_get available r.place ≡ Some identifier
  pub known : IsIdentifier identifier
  pub form : IsPlainForm likely identifier r.minimal

-- each available identifier has a row, and the rows are in order
pub record IsIndex (likely : LikelySubtags) (available : List LanguageIdentifier)
    (rows : List Row) : Type 0 where
  pub each_row : All (IsRowOf likely available) rows
  pub each_place : (k : ℕ) → k < length available
      → (r : Row) × Contains rows r × (r.place ≡ k)
  pub sorted : IsSorted row_cmp rows
