-- What is known of the rules of a level, for a desired form.
use Rattle.std.specs.Prelude.{◌≡◌, ℕ, Bool, false, ◌&&◌, List, [], ◌∷◌, Some}
use Rattle.std.specs.List.{slice_get}
use Rattle.std.specs.Option.{option_map_or}
use Rattle.std.specs.Str.{bytes_eq}
use Rattle.icu_provider.specs.declared.data_locale.DataLocale.{DataLocale}
use Rattle.icu_provider.specs.declared.matching.MatchRule.{MatchRule}
use Rattle.icu_locale_matching.specs.Distance.{fits_pattern}

-- the desired pattern of the rule at a place fits; false past the end
abbrev pub fits_at : List MatchRule → DataLocale → ℕ → Bool
fits_at rules d k = option_map_or (λ r. fits_pattern r.desired d) (slice_get rules k) false

-- for the first rules it is known whether the desired pattern fits
abbrev pub AreKnown : List MatchRule → DataLocale → List Bool → Type 0
AreKnown rules d known = (k : ℕ) (b : Bool) → slice_get known k ≡ Some b → b ≡ fits_at rules d k

-- the rule at a place is for the language of a supported form, and its supported pattern fits; false past the end
abbrev pub serves_at : List MatchRule → DataLocale → ℕ → Bool
serves_at rules s k =
    option_map_or (λ r. bytes_eq s.language r.language && fits_pattern r.supported s)
    (slice_get rules k) false

-- the same of each of the first eight rules
abbrev pub serving_of : List MatchRule → DataLocale → List Bool
serving_of rules s =
    serves_at rules s 0 ∷ serves_at rules s 1 ∷ serves_at rules s 2 ∷ serves_at rules s 3
    ∷ serves_at rules s 4 ∷ serves_at rules s 5 ∷ serves_at rules s 6 ∷ serves_at rules s 7 ∷ []

-- for the first rules it is known whether they are for the language of a supported form, and fit it
abbrev pub AreServing : List MatchRule → DataLocale → List Bool → Type 0
AreServing rules s serving =
    (k : ℕ) (b : Bool) → slice_get serving k ≡ Some b → b ≡ serves_at rules s k
