-- What identifiers mean over a likely table.
use Rattle.std.specs.Prelude.{◌≡◌, List}
use Rattle.std.specs.List.{All}
use Rattle.icu_locale_core.specs.declared.langid.LanguageIdentifier.{LanguageIdentifier}
use Rattle.icu_locale_core.specs.Identifier.{IsIdentifier}
use Rattle.icu_locale.specs.LikelySubtags.{LikelySubtags, maximal}
use Rattle.icu_locale.specs.Minimal.{IsMinimalForm}
use Rattle.icu_locale.specs.declared.expander.Favor.{Favor}
use Rattle.icu_locale.specs.declared.expander.Favor.TheVariants.{RegionFirst}

-- two identifiers mean the same: their maximal forms are equal
abbrev pub MeanTheSame : LikelySubtags → LanguageIdentifier → LanguageIdentifier → Type 0
MeanTheSame likely x y = maximal likely x ≡ maximal likely y

-- no identifier of a list means the same as x
abbrev pub NoneMeans : LikelySubtags → List LanguageIdentifier → LanguageIdentifier → Type 0
NoneMeans likely available x = All (λ y. ¬ (MeanTheSame likely x y)) available

-- two identifiers have one minimal form, whichever subtag is favored
abbrev pub HaveOneMinimalForm : LikelySubtags → LanguageIdentifier → LanguageIdentifier → Type 0
HaveOneMinimalForm likely x y = (favor : Favor) (u v : LanguageIdentifier)
    → IsMinimalForm favor likely x u → IsMinimalForm favor likely y v → u ≡ v

-- an identifier that is its own minimal form
pub record IsMinimal (likely : LikelySubtags) (x : LanguageIdentifier) : Type 0 where
  pub known : IsIdentifier x
  pub minimal : IsMinimalForm RegionFirst likely x x
