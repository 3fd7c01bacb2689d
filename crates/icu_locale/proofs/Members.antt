-- Members of sets, by equality of texts.
use Rattle.std.proofs.Common.{◌≡◌, ℕ, ◌||◌, List, [], ◌∷◌, nat_eq, refl, sym, ◌∙◌}
use Rattle.std.specs.Cmp.Lexicographic.{pointwise, texts_ties}
use Rattle.std.specs.List.{list_any}
use Rattle.icu_locale_core.specs.TextSet.{TextSet, contains, rising}
use Rattle.icu_locale_core.specs.laws.TextSets.{is_among, contains-rising}

-- a text is among those that it equals
equal_among : (t : List ℕ) (ts : List (List ℕ)) → list_any (pointwise nat_eq t) ts ≡ is_among t ts
equal_among t [] = refl
equal_among t (u ∷ ts) = λ i. texts_ties t u i || equal_among t ts i

pub contains_equal : (s : TextSet) (t : List ℕ) → list_any (pointwise nat_eq t) (rising s) ≡ contains s t
contains_equal s t = equal_among t (rising s) ∙ sym (contains-rising s t)
