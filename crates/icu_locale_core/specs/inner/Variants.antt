-- The list behind a set of variants, and two rising lists walked side by side.
use Rattle.std.specs.Prelude.{ℕ, List, ◌≡◌, [], ◌∷◌, Option, Some, None, nat_eq, if◌then◌else◌}
use Rattle.std.specs.List.{All}
use Rattle.std.specs.List.Sorted.{IsStrictlySortedBy}
use Rattle.std.specs.Cmp.Lexicographic.{pointwise}
use Rattle.std.specs.Ordering.{is_lt}
use Rattle.std.specs.declared.cmp.Ordering.TheVariants.{Less}
use Rattle.icu_locale_core.specs.Subtag.{IsVariant}
use Rattle.icu_locale_core.specs.TextSet.{text_cmp}
use Rattle.icu_locale_core.specs.laws.TextSets.{is_among}

-- variants that rise, so that none is there twice
pub record IsVariantList (ts : List (List ℕ)) : Type 0 where
  pub rise : IsStrictlySortedBy text_cmp ts
  pub each : All IsVariant ts

-- of the texts above t, the later list has those that the list has
abbrev pub HasAllAbove : List ℕ → (list later : List (List ℕ)) → Type 0
HasAllAbove t list later = (q : List ℕ) → text_cmp t q ≡ Less → is_among q list ≡ is_among q later

-- the lesser of the first texts of two lists, if there is one
abbrev pub least : List (List ℕ) → List (List ℕ) → Option (List ℕ)
least [] [] = None
least (t ∷ ts) [] = Some t
least [] (u ∷ us) = Some u
least (t ∷ ts) (u ∷ us) = if is_lt (text_cmp u t) then Some u else Some t

-- a list without its first text, where that is t
abbrev pub behind : List ℕ → List (List ℕ) → List (List ℕ)
behind t [] = []
behind t (u ∷ us) = if pointwise nat_eq t u then us else u ∷ us
