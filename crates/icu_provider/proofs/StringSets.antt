-- Texts of one character, and sorted lists of texts as sets.
use Rattle.std.proofs.Common.{◌≡◌, ℕ, List, [], ◌∷◌, Some, None, slice_get, refl, sym, zero, suc, ◌<◌, Bool, true, ◌||◌, map, length, get_or, String}
use Rattle.std.proofs.Common.{string_bytes, Result, Ok, Err, is_ok, ap, ◌∙◌, inl, inr, arith}
use Rattle.std.proofs.lemmas.Option.{none-some}
use Rattle.std.specs.Global.{Global}
use Rattle.std.specs.List.{list_any}
use Rattle.std.specs.List.Sorted.{IsPermutation, IsSortedByKey, IsSearchInRange, IsBinarySearchResult}
use Rattle.std.specs.Ordering.{eq_by_cmp, is_eq, ordering_reverse}
use Rattle.std.specs.declared.cmp.Ordering.{Ordering}
use Rattle.std.specs.declared.cmp.Ordering.TheVariants.{Less, Equal, Greater}
use Rattle.std.proofs.lemmas.Bool.{cases_lt}
use Rattle.std.proofs.lemmas.List.Folds.{list_any_at, list_any_none}
use Rattle.std.proofs.lemmas.List.Sorted.{searchable_from_sorted, Contains-permutation, IsPermutation-sym, IsPermutation-map}
use Rattle.icu_provider.specs.Exemplars.{only_item}
use Rattle.icu_locale_core.specs.TextSet.{text_cmp, from_list, contains}
use Rattle.icu_locale_core.specs.laws.TextSets.{text_total, is_among, contains-from_list}
use Rattle.icu_locale_core.specs.laws.RisingLists.{from_list-same}

-- another character follows
pub more_follow : (x y : ℕ) (xs : List ℕ) → Some y ≡ slice_get xs 0 → only_item (x ∷ xs) ≡ None
more_follow x y [] first = absurd (none-some y (sym first))
more_follow x y (z ∷ xs) first = refl

-- none follows
pub none_follows : (x : ℕ) (xs : List ℕ) → None ≡ slice_get xs 0 → only_item (x ∷ xs) ≡ Some x
none_follows x [] first = refl
none_follows x (z ∷ xs) first = absurd (none-some z first)

-- a list has the set of its texts in another order
pub same_set_of : (texts sorted : List (String Global)) → IsPermutation texts sorted → from_list (map string_bytes sorted) ≡ from_list (map string_bytes texts)
same_set_of texts sorted moved =
    let moved_texts = IsPermutation-map string_bytes texts sorted moved in
    from_list-same (map string_bytes sorted) (map string_bytes texts)
    (λ t there. Contains-permutation (map string_bytes sorted) (map string_bytes texts) t (IsPermutation-sym _ _ moved_texts) there)
    (λ t there. Contains-permutation (map string_bytes texts) (map string_bytes sorted) t moved_texts there)

-- the same two texts, asked the other way
flipped : (x y : List ℕ) (r : Ordering) → text_cmp x y ≡ r → text_cmp y x ≡ ordering_reverse r
flipped x y r e = text_total.antisymm y x ∙ ap ordering_reverse e

any_of_map : (q : List ℕ) (texts : List (String Global)) → is_among q (map string_bytes texts) ≡ list_any (λ t. eq_by_cmp text_cmp q (string_bytes t)) texts
any_of_map q [] = refl
any_of_map q (t ∷ texts) = ap (λ b. eq_by_cmp text_cmp q (string_bytes t) || b) (any_of_map q texts)

-- a text that passes is among those that do
any_here : (p : String Global → Bool) (texts : List (String Global)) (i : ℕ) → i < length texts
    → ((d : String Global) → p (get_or texts i d) ≡ true) → list_any p texts ≡ true
any_here p [] i within passes = absurd (omega (arith, within))
any_here p (t ∷ texts) zero within passes = list_any_at p (t ∷ texts) zero t within (passes t)
any_here p (t ∷ texts) (suc i) within passes = list_any_at p (t ∷ texts) (suc i) t within (passes t)

-- a search answers Ok exactly where the text is in the list
search_is : (texts : List (String Global)) (q : List ℕ) (r : Result ℕ ℕ) → IsSortedByKey string_bytes text_cmp texts
    → IsSearchInRange r (length texts) → IsBinarySearchResult (λ t. text_cmp (string_bytes t) q) texts r
    → is_ok r ≡ list_any (λ t. eq_by_cmp text_cmp q (string_bytes t)) texts
search_is texts q (Ok i) sorted range here =
    sym (any_here (λ t. eq_by_cmp text_cmp q (string_bytes t)) texts i range (λ d. ap is_eq (flipped (string_bytes (get_or texts i d)) q Equal (here d))))
search_is texts q (Err i) sorted range at =
    let parts = at (searchable_from_sorted text_total string_bytes texts q sorted) in
    sym (list_any_none (λ t. eq_by_cmp text_cmp q (string_bytes t)) texts (λ k d within.
    elim (cases_lt k i) [
      | inl before ↦ ap is_eq (flipped (string_bytes (get_or texts k d)) q Less (parts.0 k d (omega arith) before))
      | inr behind ↦ ap is_eq (flipped (string_bytes (get_or texts k d)) q Greater (parts.1 k d behind within))
    ]))

pub is_ok-search : (texts : List (String Global)) (q : List ℕ) (r : Result ℕ ℕ) → IsSortedByKey string_bytes text_cmp texts
    → IsSearchInRange r (length texts) → IsBinarySearchResult (λ t. text_cmp (string_bytes t) q) texts r
    → is_ok r ≡ contains (from_list (map string_bytes texts)) q
is_ok-search texts q r sorted range at = search_is texts q r sorted range at ∙ sym (any_of_map q texts) ∙ sym (contains-from_list (map string_bytes texts) q)
