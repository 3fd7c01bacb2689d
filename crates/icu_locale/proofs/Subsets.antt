-- The sets of texts of a list are exactly those whose members the list has, and images of sets.
use Rattle.std.proofs.Common.{◌≡◌, ℕ, true, ◌||◌, List, [], ◌∷◌, map, length, refl, ap, sym, ◌∙◌, arith, Bool, false, not, ◌&&◌, inl, inr, subst}
use Rattle.std.specs.Ordering.{is_eq, eq_by_cmp}
use Rattle.std.proofs.lemmas.Bool.{false≢true, cases_Bool, or_cases, and_parts, not-true, false_from_ne_true}
use Rattle.std.proofs.lemmas.Cmp.{tied_itself}
use Rattle.std.proofs.Math.Bool.{or-false}
use Rattle.std.specs.List.{Contains}
use Rattle.std.proofs.lemmas.List.Elements.{Contains-append_left, Contains-append_right, Contains-append_cases}
use Rattle.icu_locale_core.specs.TextSet.{TextSet, empty, contains, from_list, rising, image, text_cmp, difference}
use Rattle.icu_locale_core.specs.laws.TextSets.{text_total, is_among, contains-from_list, from_list-rising, contains-empty, length-rising_empty}
use Rattle.icu_locale_core.specs.laws.TextSets.{same_set, same_from_tied, contains-insert, contains-difference}
use Rattle.icu_locale.specs.inner.Universe.{subsets}
use Rattle.icu_locale_runs.specs.laws.Lists.{Contains-here, Contains-there, Contains-cons_cases, Contains-nil, Contains-map, Contains-from_map}
use Rattle.std.specs.FinMap as fin

among_first : (t : List ℕ) (ts : List (List ℕ)) → is_among t (t ∷ ts) ≡ true
among_first t ts = ap (λ b. b || is_among t ts) (ap is_eq (tied_itself text_total t))

pub image-empty : (f : List ℕ → List ℕ) → image f empty ≡ empty
image-empty f = by (rising empty) length-rising_empty
  where
    by : (ts : List (List ℕ)) → length ts ≡ 0 → from_list (map f ts) ≡ empty
    by [] none = refl
    by (t ∷ ts) none = absurd (omega arith)

pub empty_from_image : (f : List ℕ → List ℕ) (s : TextSet) → image f s ≡ empty → s ≡ empty
empty_from_image f s none = sym (from_list-rising s) ∙ by (rising s) none
  where
    by : (ts : List (List ℕ)) → from_list (map f ts) ≡ empty → from_list ts ≡ empty
    by [] none = refl
    by (t ∷ ts) none =
        absurd (false≢true (sym (contains-empty (f t)) ∙ ap (λ set. contains set (f t)) (sym none)
        ∙ contains-from_list (f t ∷ map f ts) (f t) ∙ among_first (f t) (map f ts)))

pub contains-one : (t q : List ℕ) → contains (from_list (t ∷ [])) q ≡ eq_by_cmp text_cmp q t
contains-one t q = contains-insert empty t q ∙ ap (λ b. eq_by_cmp text_cmp q t || b) (contains-empty q) ∙ or-false (eq_by_cmp text_cmp q t)

-- a set with t is the set without t, and t
put_back : (s : TextSet) (t : List ℕ) → contains s t ≡ true → fin.insert (difference s (from_list (t ∷ []))) t tt ≡ s
put_back s t here = same_set _ s (λ q.
    contains-insert (difference s (from_list (t ∷ []))) t q
    ∙ ap (λ b. eq_by_cmp text_cmp q t || b) (contains-difference s (from_list (t ∷ [])) q ∙ ap (λ b. not b && contains s q) (contains-one t q))
    ∙ same (eq_by_cmp text_cmp q t) (contains s q) (λ tied. ap (contains s) (same_from_tied q t tied) ∙ here))
  where
    same : (tied there : Bool) → (tied ≡ true → there ≡ true) → (tied || (not tied && there)) ≡ there
    same true there h = sym (h refl)
    same false there h = refl

pub subset_among : (ts : List (List ℕ)) (s : TextSet) → ((q : List ℕ) → contains s q ≡ true → Contains ts q) → Contains (subsets ts) s
subset_among [] s inside =
    let none : empty ≡ s = same_set empty s (λ q. contains-empty q ∙ sym (false_from_ne_true (contains s q) (λ here. Contains-nil q (inside q here)))) in
    subst (Contains (empty ∷ [])) none (Contains-here empty [])
subset_among (t ∷ ts) s inside =
    elim (cases_Bool (contains s t)) [
      | inl here ↦
          let rest = difference s (from_list (t ∷ [])) in
          let among : Contains (subsets ts) rest = subset_among ts rest (λ q there.
          let parts = and_parts (not (eq_by_cmp text_cmp q t)) (contains s q) (sym
          (contains-difference s (from_list (t ∷ [])) q ∙ ap (λ b. not b && contains s q) (contains-one t q)) ∙ there) in
          elim (Contains-cons_cases t q ts (inside q parts.1)) [
            | inl same ↦ absurd (false≢true (sym (not-true _ parts.0) ∙ ap (λ u. eq_by_cmp text_cmp q u) same ∙ itself q))
            | inr later ↦ later
          ]) in
          Contains-append_right (subsets ts) (map (λ u. fin.insert u t tt) (subsets ts)) s
          (subst (Contains (map (λ u. fin.insert u t tt) (subsets ts))) (put_back s t here) (Contains-map (λ u. fin.insert u t tt) (subsets ts) rest among))
      | inr off ↦
          Contains-append_left (subsets ts) (map (λ u. fin.insert u t tt) (subsets ts)) s (subset_among ts s (λ q there.
          elim (Contains-cons_cases t q ts (inside q there)) [
            | inl same ↦ absurd (false≢true (sym off ∙ ap (contains s) same ∙ there))
            | inr later ↦ later
          ]))
    ]
  where
    itself : (q : List ℕ) → eq_by_cmp text_cmp q q ≡ true
    itself q = ap is_eq (tied_itself text_total q)

pub among_subset : (ts : List (List ℕ)) (s : TextSet) (q : List ℕ) → Contains (subsets ts) s → contains s q ≡ true → Contains ts q
among_subset [] s q here there =
    elim (Contains-cons_cases empty s [] here) [
      | inl same ↦ absurd (false≢true (sym (contains-empty q) ∙ ap (λ u. contains u q) same ∙ there))
      | inr later ↦ absurd (Contains-nil s later)
    ]
among_subset (t ∷ ts) s q here there =
    elim (Contains-append_cases (subsets ts) (map (λ u. fin.insert u t tt) (subsets ts)) s here) [
      | inl first ↦ Contains-there t q ts (among_subset ts s q first there)
      | inr later ↦
          let found = Contains-from_map (λ u. fin.insert u t tt) (subsets ts) s later in
          let either : (eq_by_cmp text_cmp q t || contains found.0 q) ≡ true = sym (contains-insert found.0 t q) ∙ ap (λ u. contains u q) found.2 ∙ there in
          elim (or_cases (eq_by_cmp text_cmp q t) (contains found.0 q) either) [
            | inl tied ↦ subst (λ u. Contains (u ∷ ts) q) (same_from_tied q t tied) (Contains-here q ts)
            | inr inside ↦ Contains-there t q ts (among_subset ts found.0 q found.1 inside)
          ]
    ]
