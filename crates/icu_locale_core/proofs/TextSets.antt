-- The rising list of a set, and a set inside another.
use Rattle.std.proofs.Common.{◌≡◌, ◌↔◌, ℕ, ◌<◌, Bool, true, false, not, ◌&&◌, ◌||◌, List, [], ◌∷◌, map, T, Option, None, Some, IsSome, is_some, refl}
use Rattle.std.proofs.Common.{ap, sym, ◌∙◌, ⊎_elim, arith}
use Rattle.std.specs.List.{AllByRecursion, Contains, list_all, list_any}
use Rattle.std.specs.Map.{lookup}
use Rattle.std.specs.List.Sorted.{IsStrictlySortedBy}
use Rattle.std.specs.Ordering.{is_lt, eq_by_cmp}
use Rattle.std.specs.declared.cmp.Ordering.{Ordering}
use Rattle.std.specs.FinMap.Entries.{below_all}
use Rattle.std.specs.declared.cmp.Ordering.TheVariants.{Less, Equal, Greater}
use Rattle.std.specs.FinMap as fin
use Rattle.std.specs.FinMap.{is_sorted}
use Rattle.std.proofs.lemmas.Bool.{false≢true, and_parts, or_parts, or_cases}
use Rattle.std.proofs.lemmas.Cmp.{eq_by_cmp_equiv}
use Rattle.std.proofs.lemmas.List.{length-map}
use Rattle.std.proofs.lemmas.Map.Keys.{IsDistinct-cons, IsDistinct-from_sorted}
use Rattle.std.proofs.lemmas.Map.Steps.{length-le_from_keys}
use Rattle.icu_locale_core.specs.TextSet.{text_cmp, TextSet, contains, from_list, rising, is_subset, len}
use Rattle.icu_locale_core.specs.laws.Maps.{as_find}
use Rattle.icu_locale_core.specs.laws.TextSets.{is_among, contains-from_list, contains-rising, same_from_tied, text_total, Contains-is_among, is_among-Contains}

true_from_T : (b : Bool) → T b → b ≡ true
true_from_T true e = refl
true_from_T false e = absurd e

less_from_test : (o : Ordering) → is_lt o ≡ true → o ≡ Less
less_from_test Less e = refl
less_from_test Equal e = absurd (false≢true e)
less_from_test Greater e = absurd (false≢true e)

below_from_below_all : (t : List ℕ) (es : List (List ℕ × Unit {0})) → below_all text_cmp t es ≡ true
    → AllByRecursion (λ y. text_cmp t y ≡ Less) (map (λ e. e.0) es)
below_from_below_all t [] h = tt
below_from_below_all t (e ∷ es) h =
    let both = and_parts (is_lt (text_cmp t e.0)) (below_all text_cmp t es) h in
    (less_from_test (text_cmp t e.0) both.0, below_from_below_all t es both.1)

rises_from_is_sorted : (es : List (List ℕ × Unit {0})) → is_sorted text_cmp es ≡ true → IsStrictlySortedBy text_cmp (map (λ e. e.0) es)
unfolding IsStrictlySortedBy
rises_from_is_sorted [] h = tt
rises_from_is_sorted (e ∷ es) h =
    let both = and_parts (below_all text_cmp e.0 es) (is_sorted text_cmp es) h in
    (below_from_below_all e.0 es both.0, rises_from_is_sorted es both.1)

-- it rises
pub rising_rises : (s : TextSet) → IsStrictlySortedBy text_cmp (rising s)
rising_rises s = rises_from_is_sorted (fin.entries s) (true_from_T _ (fin.entries_sorted s))

-- ---- a set inside another

among_cases : (p : List ℕ → Bool) (q t : List ℕ) (ts : List (List ℕ)) (tied : Bool) → eq_by_cmp text_cmp q t ≡ tied → p t ≡ true
    → (is_among q ts ≡ true → p q ≡ true) → (tied || is_among q ts) ≡ true → p q ≡ true
among_cases p q t ts true e first rest here = ap p (same_from_tied q t e) ∙ first
among_cases p q t ts false e first rest here = rest here

list_all-at : (p : List ℕ → Bool) (ts : List (List ℕ)) (q : List ℕ) → list_all p ts ≡ true → is_among q ts ≡ true → p q ≡ true
list_all-at p [] q all here = absurd (false≢true here)
list_all-at p (t ∷ ts) q all here =
    let both = and_parts (p t) (list_all p ts) all in
    among_cases p q t ts (eq_by_cmp text_cmp q t) refl both.0 (list_all-at p ts q both.1) here

pub is_subset-at : (s u : TextSet) (q : List ℕ) → is_subset s u ≡ true → contains s q ≡ true → contains u q ≡ true
is_subset-at s u q all here = list_all-at (contains u) (rising s) q all (sym (contains-rising s q) ∙ here)

-- ---- members and their number

pub turned : (b a : Bool) → (not b && a) ≡ (a && not b)
turned true true = refl
turned true false = refl
turned false true = refl
turned false false = refl

pub members_of_walk : (s : TextSet) (t : List ℕ) → (contains s t ≡ true) ↔ Contains (rising s) t
members_of_walk s t = (
  λ here. Contains-is_among t (rising s) (sym (contains-rising s t) ∙ here),
  λ here. contains-rising s t ∙ is_among-Contains t (rising s) here,
)

pub members_of_list : (ts : List (List ℕ)) (t : List ℕ)
    → (contains (from_list ts) t ≡ true) ↔ Contains ts t
members_of_list ts t = (
  λ here. Contains-is_among t ts (sym (contains-from_list ts t) ∙ here),
  λ here. contains-from_list ts t ∙ is_among-Contains t ts here,
)

none_tied : (t : List ℕ) (ts : List (List ℕ)) → is_among t ts ≡ false
    → AllByRecursion (λ y. eq_by_cmp text_cmp t y ≡ false) ts
none_tied t [] lacks = tt
none_tied t (u ∷ ts) lacks =
    let apart = or_parts (eq_by_cmp text_cmp t u) (is_among t ts) lacks in
    (apart.0, none_tied t ts apart.1)

is_there : {A : Type 0} (o : Option A) → is_some o ≡ true → IsSome o
is_there None e = absurd (false≢true e)
is_there (Some x) e = e

-- a set that lacks a member of another, and has none that the other lacks, is the smaller one
pub fewer_members : (s u : TextSet) (t : List ℕ) → is_subset s u ≡ true → contains u t ≡ true
    → contains s t ≡ false → len s < len u
fewer_members s u t within there lacks =
    let none = none_tied t (rising s) (sym (contains-rising s t) ∙ lacks) in
    let each = IsDistinct-from_sorted text_cmp (rising s) (rising_rises s) in
    let apart = IsDistinct-cons (eq_by_cmp text_cmp) t (rising s) none each in
    let at_most = length-le_from_keys (eq_by_cmp_equiv text_total) (t ∷ rising s) (fin.entries u) apart found in
    omega (arith, at_most, length-map (fin.entries u) (λ e. e.0))
  where
    found : (q : List ℕ) → list_any (eq_by_cmp text_cmp q) (t ∷ rising s) ≡ true
        → IsSome (lookup (eq_by_cmp text_cmp q) (fin.entries u))
    found q here =
        let member : contains u q ≡ true =
        ⊎_elim (λ tied. ap (contains u) (same_from_tied q t tied) ∙ there)
        (λ among. is_subset-at s u q within (contains-rising s q ∙ among))
        (or_cases (eq_by_cmp text_cmp q t) (is_among q (rising s)) here) in
        is_there _ (ap is_some (sym (as_find text_cmp (fin.entries u) q) ∙ sym (fin.get-entries u q)) ∙ member)
