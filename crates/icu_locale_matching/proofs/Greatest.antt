-- The greatest distance over the regions of a row.
use Rattle.std.proofs.Common.{◌≡◌, ℕ, ◌+◌, ◌<◌, ◌∷◌, [], ◌++◌, List, map, max, take, length, Some, refl, ap, ◌∙◌}
use Rattle.std.specs.List.{slice_get}
use Rattle.std.specs.Option.{option_map_or}
use Rattle.std.proofs.lemmas.List.{take_more}
use Rattle.std.proofs.lemmas.List.Recursion.{max_push}
use Rattle.std.proofs.lemmas.Option.{get_or_from_slice_get}
use Rattle.icu_provider.specs.declared.data_locale.DataLocale.{DataLocale}
use Rattle.icu_locale_matching.specs.Distance.{Macros, row_of, with_region, stands_for, greatest}

-- one more region
pub greatest_more : (f : List ℕ → ℕ) (row : List (List ℕ)) (i : ℕ) (r : List ℕ) → i < length row → slice_get row i ≡ Some r
    → greatest (map f (take (i + 1) row)) ≡ max (greatest (map f (take i row))) (f r)
greatest_more f row i r within stands =
    let step : take (i + 1) row ≡ take i row ++ r ∷ [] = take_more row i r within ∙ ap (λ x. take i row ++ x ∷ []) (get_or_from_slice_get row i r r stands) in
    ap (λ xs. greatest (map f xs)) step ∙ max_push (λ xs. greatest (map f xs)) f refl (λ _ _. refl) (take i row) r

greatest_map : (f : DataLocale → ℕ) (g : List ℕ → DataLocale) (row : List (List ℕ)) → greatest (map f (map g row)) ≡ greatest (map (λ r. f (g r)) row)
greatest_map f g [] = refl
greatest_map f g (r ∷ row) = ap (max (f (g r))) (greatest_map f g row)

-- over the row of a macro region
pub greatest_at : (f : DataLocale → ℕ) (macros : Macros) (x : DataLocale) (row : List (List ℕ)) → row_of macros x.region ≡ Some row
    → greatest (map f (stands_for macros x)) ≡ greatest (map (λ r. f (with_region x (Some r))) row)
greatest_at f macros x row is = ap (λ o. greatest (map f (option_map_or (map (λ r. with_region x (Some r))) o (x ∷ [])))) is
    ∙ greatest_map f (λ r. with_region x (Some r)) row
