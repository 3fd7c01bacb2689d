-- Lists of variants that rise, and a binary search in one.
use Rattle.std.proofs.Common.{◌≡◌, ℕ, ◌+◌, List, length, get_or, Result, Ok, Err, is_ok, IfOk, ap, sym, ◌∙◌, inl, inr, arith, ◌==◌, true, [], ◌∷◌, nat_eq, refl}
use Rattle.std.specs.List.{list_any, HoldsAt, Contains, All, dedup}
use Rattle.std.specs.List.Sorted.{IsStrictlySortedBy, IsSearchInRange, IsBinarySearchResult, IsSortedBy, IsNonDecreasingBy, IsSorted, IsPermutation}
use Rattle.std.specs.Cmp.{IsTotalOrder}
use Rattle.std.specs.Ordering.{eq_by_cmp, is_eq, is_lt, ordering_index, ordering_reverse}
use Rattle.std.specs.declared.cmp.Ordering.{Ordering}
use Rattle.std.specs.declared.cmp.Ordering.TheVariants.{Less, Equal, Greater}
use Rattle.std.proofs.lemmas.Bool.{cases_lt, eqb-true}
use Rattle.std.proofs.lemmas.List.Folds.{list_any_at, list_any_none}
use Rattle.std.proofs.lemmas.List.Sorted.{searchable_from_sorted}
use Rattle.std.proofs.lemmas.Map.Keys.{Less-from_sorted}
use Rattle.std.specs.Cmp.Lexicographic.{pointwise, texts_ties}
use Rattle.std.proofs.lemmas.List.Elements.{All-nil, All-contains, All-weaker, All-contains_itself}
use Rattle.std.proofs.lemmas.List.Kept.{IsStrictlySortedBy-dedup}
use Rattle.icu_locale_core.specs.Subtag.{IsVariant}
use Rattle.icu_locale_core.specs.inner.Variants.{IsVariantList}
use Rattle.icu_locale_core.specs.TextSet.{text_cmp, TextSet, empty, from_list, rising}
use Rattle.icu_locale_core.specs.laws.RisingLists.{Contains-from_unique}
use Rattle.icu_locale_core.specs.laws.TextSets.{text_total, from_list-rising}

module _ {K : Type 0} {R : K → K → Ordering} (o : IsTotalOrder R) where
  -- the same two keys, asked the other way
  pub flipped : (x y : K) (r : Ordering) → R x y ≡ r → R y x ≡ ordering_reverse r
  flipped x y r e = o.antisymm y x ∙ ap ordering_reverse e

  pub IsSortedBy-from_strictly : (ks : List K) → IsStrictlySortedBy R ks → IsSortedBy (λ a b. is_lt (R a b)) ks
  IsSortedBy-from_strictly ks rise k d low high =
      let less = Less-from_sorted R ks k (k + 1) d rise (omega arith) high in
      ap is_lt (flipped (get_or ks k d) (get_or ks (k + 1) d) Less less)

  pub rises_to : (ks : List K) (x : K) → IsStrictlySortedBy R ks → IsNonDecreasingBy (λ y. ordering_index (R y x)) ks
  rises_to ks x rise = searchable_from_sorted o (λ k. k) ks x (IsSortedBy-from_strictly ks rise)

  -- a search answers Ok exactly where the key is in the list
  pub is_ok-search : (ks : List K) (x : K) (r : Result ℕ ℕ) → IsStrictlySortedBy R ks → IsSearchInRange r (length ks)
      → IfOk r (HoldsAt (λ y. R y x ≡ Equal) ks) → IsBinarySearchResult (λ y. R y x) ks r → is_ok r ≡ list_any (eq_by_cmp R x) ks
  is_ok-search ks x (Ok i) rise range here at = sym (list_any_at (eq_by_cmp R x) ks i x range (ap is_eq (flipped (get_or ks i x) x Equal (here x))))
  is_ok-search ks x (Err i) rise range here at =
      let parts = at (rises_to ks x rise) in
      sym (list_any_none (eq_by_cmp R x) ks (λ k d within.
      elim (cases_lt k i) [
        | inl before ↦ ap is_eq (flipped (get_or ks k d) x Less (parts.0 k d (omega arith) before))
        | inr behind ↦ ap is_eq (flipped (get_or ks k d) x Greater (parts.1 k d behind within))
      ]))

pub IsVariantList-nil : IsVariantList []
unfolding IsStrictlySortedBy
IsVariantList-nil = record { rise = tt; each = All-nil IsVariant }

-- a list of variants, sorted and without its repeats, is one of variants that rise
pub IsVariantList-dedup : (list sorted : List (List ℕ)) → IsPermutation list sorted
    → IsSorted text_cmp sorted → All IsVariant list
    → IsVariantList (dedup (pointwise nat_eq) sorted)
IsVariantList-dedup list sorted moved order each =
    let unique = dedup (pointwise nat_eq) sorted in
    let is_one : (t : List ℕ) → Contains unique t → IsVariant t = λ t here.
    All-contains IsVariant list t each (Contains-from_unique list sorted moved t here) in
    record {
      rise = IsStrictlySortedBy-dedup text_total texts_ties sorted order;
      each = All-weaker (Contains unique) IsVariant is_one unique (All-contains_itself unique);
    }

-- a set is empty exactly where its rising list is
pub empty_from_length : (s : TextSet) → (length (rising s) == 0) ≡ true → s ≡ empty
empty_from_length s h = sym (from_list-rising s) ∙ by (rising s) h
  where
    by : (ts : List (List ℕ)) → (length ts == 0) ≡ true → from_list ts ≡ empty
    by [] h = refl
    by (t ∷ ts) h = absurd (omega (arith, eqb-true (length (t ∷ ts)) 0 h))
