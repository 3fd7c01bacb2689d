-- What the loops over a chain know on the way: what only proofs cite.
use Rattle.std.specs.Prelude.{◌≡◌, ◌==◌, ◌++◌, ℕ, suc, ◌<◌, List, [], ◌∷◌, map, length, codes, Some, if◌then◌else◌}
use Rattle.std.specs.List.{slice_get, flat_map}
use Rattle.icu_locale_core.specs.Identifier.{written}
use Rattle.icu_locale_core.specs.TextSet.{len}
use Rattle.icu_locale_core.specs.declared.langid.LanguageIdentifier.{LanguageIdentifier}
use Rattle.icu_provider.specs.declared.data_locale.DataLocale.{DataLocale}
use Rattle.icu_locale_runs.specs.Run.{at}
use Rattle.icu_locale_fallback.specs.Fallback.{Inheritance, next}
use Rattle.icu_locale_fallback.specs.Chains.{IsChain}
use Rattle.icu_locale_fallback.specs.Identifiers.{plain}

-- the list has the first locales of the chain, and y is the last of it
pub record HasListed (by : Inheritance) (x : DataLocale) (list : List DataLocale) (y : DataLocale)
    : Type 0 where
  pub shown : (i : ℕ) → i < length list → slice_get list i ≡ at (next by) x i
  pub place : ℕ
  pub size : length list ≡ suc place
  pub here : at (next by) x place ≡ Some y

-- an identifier with variants, if it is one, and the locales as identifiers
abbrev pub listed : LanguageIdentifier → List DataLocale → List LanguageIdentifier
listed x locales = (if len x.variants == 0 then [] else x ∷ []) ++ map plain locales

-- a space, and the text of a locale
abbrev pub behind_space : DataLocale → List ℕ
behind_space y = codes " " ++ written (plain y)

-- the texts of the locales after the first were appended to another text, each with a space before it
abbrev pub IsRestWritten : Inheritance → DataLocale → List ℕ → List ℕ → Type 0
IsRestWritten by x old new = (rest : List DataLocale) × IsChain by x (x ∷ rest)
    × (new ≡ old ++ flat_map behind_space rest)

-- so far, up to y, which is so many steps from x
pub record HasRest (by : Inheritance) (x : DataLocale) (old new : List ℕ) (passed : ℕ)
    (y : DataLocale) : Type 0 where
  pub rest : List DataLocale
  pub listed : HasListed by x (x ∷ rest) y
  pub count : passed ≡ length rest
  pub written : new ≡ old ++ flat_map behind_space rest
