-- The set of a list, and the rising list of a set.
use Rattle.std.specs.Prelude.{◌≡◌, ℕ, Bool, true, false, ◌&&◌, List, [], ◌∷◌, map, is_some, nat_eq}
use Rattle.std.proofs.Common.{T, refl, ap, sym, ◌∙◌}
use Rattle.std.specs.List.{AllByRecursion, Contains, dedup}
use Rattle.std.specs.List.Sorted.{IsStrictlySortedBy, IsPermutation}
use Rattle.std.specs.declared.cmp.Ordering.TheVariants.{Less}
use Rattle.std.specs.Cmp.{nat_eq_equiv}
use Rattle.std.specs.Cmp.Lexicographic.{pointwise, lists_equiv}
use Rattle.std.specs.FinMap as fin
use Rattle.std.specs.FinMap.{is_sorted}
use Rattle.std.specs.FinMap.Entries.{below_all, is_some-find}
use Rattle.std.proofs.lemmas.Bool.{false≢true}
use Rattle.std.proofs.lemmas.List.Kept.{Contains-dedup, Contains-from_dedup}
use Rattle.std.proofs.lemmas.List.Sorted.{Contains-permutation, IsPermutation-sym}
use Rattle.std.proofs.lemmas.Slice.Eq.{bytes_eq-Decides}
use Rattle.icu_locale_core.specs.TextSet.{text_cmp, from_list, rising}
use Rattle.icu_locale_core.specs.laws.TextSets.{is_among, contains-from_list, same_set, Contains-is_among, is_among-Contains}

abbrev with_units : List (List ℕ) → List (List ℕ × Unit {0})
with_units ts = map (λ t. (t, tt)) ts

keys-with_units : (ts : List (List ℕ)) → map (λ e. e.0) (with_units ts) ≡ ts
keys-with_units [] = refl
keys-with_units (t ∷ ts) = ap (λ r. t ∷ r) (keys-with_units ts)

T_from_true : (b : Bool) → b ≡ true → T b
T_from_true true e = tt
T_from_true false e = absurd (false≢true e)

below_all-with_units : (t : List ℕ) (ts : List (List ℕ))
    → AllByRecursion (λ y. text_cmp t y ≡ Less) ts → below_all text_cmp t (with_units ts) ≡ true
below_all-with_units t [] h = refl
below_all-with_units t (u ∷ ts) h = rw h.0 (below_all-with_units t ts h.1)

is_sorted-with_units : (ts : List (List ℕ)) → IsStrictlySortedBy text_cmp ts
    → is_sorted text_cmp (with_units ts) ≡ true
unfolding IsStrictlySortedBy
is_sorted-with_units [] h = refl
is_sorted-with_units (t ∷ ts) h =
    λ i. below_all-with_units t ts h.0 i && is_sorted-with_units ts h.1 i

-- the rising list of the set of a rising list is that list
pub rising-from_list : (ts : List (List ℕ)) → IsStrictlySortedBy text_cmp ts
    → rising (from_list ts) ≡ ts
rising-from_list ts h =
    let sorted = T_from_true _ (is_sorted-with_units ts h) in
    let direct = fin.from_sorted {R = text_cmp} (with_units ts) in
    let same : from_list ts ≡ direct = same_set (from_list ts) direct (λ q.
    contains-from_list ts q
    ∙ ap (is_among q) (sym (keys-with_units ts))
    ∙ sym (is_some-find text_cmp q (with_units ts))
    ∙ ap is_some (sym (fin.get-from_sorted text_cmp (with_units ts) q sorted))) in
    ap rising same ∙ ap (map (λ e. e.0)) (fin.entries-from_sorted text_cmp (with_units ts) sorted)
    ∙ keys-with_units ts

-- two tests that imply each other are equal
pub same_tests : (a b : Bool) → (a ≡ true → b ≡ true) → (b ≡ true → a ≡ true) → a ≡ b
same_tests true b f g = sym (f refl)
same_tests false true f g = g refl
same_tests false false f g = refl

-- lists with the same elements have the same set
pub from_list-same : (ts us : List (List ℕ)) → ((t : List ℕ) → Contains ts t → Contains us t)
    → ((t : List ℕ) → Contains us t → Contains ts t) → from_list ts ≡ from_list us
from_list-same ts us there back = same_set (from_list ts) (from_list us) (λ q.
    contains-from_list ts q
    ∙ same_tests (is_among q ts) (is_among q us)
    (λ h. is_among-Contains q us (there q (Contains-is_among q ts h)))
    (λ h. is_among-Contains q ts (back q (Contains-is_among q us h)))
    ∙ sym (contains-from_list us q))

module _ (list sorted : List (List ℕ)) (moved : IsPermutation list sorted) where
  unique : List (List ℕ)
  unique = dedup (pointwise nat_eq) sorted

  there : (t : List ℕ) → Contains unique t → Contains list t
  unfolding unique
  there t here = Contains-permutation sorted list t (IsPermutation-sym list sorted moved)
      (Contains-from_dedup (pointwise nat_eq) sorted t here)

  back : (t : List ℕ) → Contains list t → Contains unique t
  unfolding unique
  back t here = Contains-dedup (lists_equiv nat_eq_equiv) (λ x y. (bytes_eq-Decides x y).0) sorted t
      (Contains-permutation list sorted t moved here)

  -- a list sorted and without its repeats has no others
  pub Contains-from_unique : (t : List ℕ) → Contains (dedup (pointwise nat_eq) sorted) t
      → Contains list t
  unfolding unique
  Contains-from_unique t here = there t here

  -- it has the same set
  pub from_list-dedup : from_list (dedup (pointwise nat_eq) sorted) ≡ from_list list
  unfolding unique
  from_list-dedup = from_list-same unique list there back
