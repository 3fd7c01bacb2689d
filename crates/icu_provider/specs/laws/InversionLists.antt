-- The test of an inversion list says exactly that it is one.
use Rattle.std.proofs.Common.{◌≡◌, ℕ, zero, suc, ◌+◌, ◌≤◌, ◌<◌, ◌%◌, ◌==◌, ◌&&◌, Bool, true, false, List, [], ◌∷◌, length, get_or, refl, sym, arith}
use Rattle.std.proofs.lemmas.Bool.{and_parts, eqb-true}
use Rattle.std.proofs.lemmas.Bool.Decides.{nat_tests}
use native.Mathlib.Numerals.{unary_clauses}
use Rattle.std.specs.List.{All}
use Rattle.std.specs.List.Sorted.{IsStrictlyIncreasing}
use Rattle.icu_provider.specs.InversionList.{IsInversionList, rise_from, is_inversion_list}

rises_above : (least : ℕ) (bounds : List ℕ) → rise_from least bounds ≡ true → (k : ℕ) (d : ℕ) → k < length bounds → least ≤ get_or bounds k d
rises_above least [] test k d within = absurd (omega (arith, within))
rises_above least (bound ∷ bounds) test zero d within = grind (arith, nat_tests)
rises_above least (bound ∷ bounds) test (suc k) d within =
    let first : least ≤ bound = grind (arith, nat_tests) in
    let others : rise_from (bound + 1) bounds ≡ true = grind (arith, nat_tests) in
    let later = rises_above (bound + 1) bounds others k d (omega (arith, within)) in
    omega (arith, first, later)

strictly : (least : ℕ) (bounds : List ℕ) → rise_from least bounds ≡ true → IsStrictlyIncreasing bounds
strictly least [] test k within = absurd (omega (arith, within))
strictly least (bound ∷ bounds) test zero within =
    let others : rise_from (bound + 1) bounds ≡ true = grind (arith, nat_tests) in
    let above = rises_above (bound + 1) bounds others 0 0 (omega (arith, within)) in
    omega (arith, above)
strictly least (bound ∷ bounds) test (suc k) within =
    let others : rise_from (bound + 1) bounds ≡ true = grind (arith, nat_tests) in
    simp unary_clauses (simp unary_clauses at (strictly (bound + 1) bounds others k (omega (arith, within))))

limits : (least : ℕ) (bounds : List ℕ) → rise_from least bounds ≡ true → All (λ bound. bound ≤ 1114112) bounds
limits least [] test k d within = absurd (omega (arith, within))
limits least (bound ∷ bounds) test zero d within = grind (arith, nat_tests)
limits least (bound ∷ bounds) test (suc k) d within =
    let others : rise_from (bound + 1) bounds ≡ true = grind (arith, nat_tests) in
    limits (bound + 1) bounds others k d (omega (arith, within))

first_above : (bound : ℕ) (bounds : List ℕ) → IsStrictlyIncreasing (bound ∷ bounds) → (d : ℕ) → 0 < length bounds → bound + 1 ≤ get_or bounds 0 d
first_above bound [] rises d some = absurd (omega (arith, some))
first_above bound (next ∷ bounds) rises d some = let above : bound < next = rises 0 (omega arith) in omega (arith, above)

tested : (least : ℕ) (bounds : List ℕ) → IsStrictlyIncreasing bounds → All (λ bound. bound ≤ 1114112) bounds
    → ((d : ℕ) → 0 < length bounds → least ≤ get_or bounds 0 d) → rise_from least bounds ≡ true
tested least [] rises limited first = refl
tested least (bound ∷ bounds) rises limited first =
    let low : least ≤ bound = first 0 (omega arith) in
    let high : bound ≤ 1114112 = limited 0 0 (omega arith) in
    let others = tested (bound + 1) bounds (λ k within. simp unary_clauses (simp unary_clauses at (rises (suc k) (omega (arith, within)))))
    (λ k d within. limited (suc k) d (omega (arith, within))) (first_above bound bounds rises) in
    grind (arith, nat_tests, low, high, others)

pub IsInversionList-from_test : (bounds : List ℕ) → is_inversion_list bounds ≡ true → IsInversionList bounds
IsInversionList-from_test bounds test =
    let parts = and_parts (rise_from 0 bounds) (length bounds % 2 == 0) test in
    record {
      rises = strictly 0 bounds parts.0;
      even = eqb-true (length bounds % 2) 0 parts.1;
      limited = limits 0 bounds parts.0;
    }

pub test_from_IsInversionList : (bounds : List ℕ) → IsInversionList bounds → is_inversion_list bounds ≡ true
test_from_IsInversionList bounds is =
    let rises = tested 0 bounds is.rises is.limited (λ d some. omega arith) in
    let even : (length bounds % 2 == 0) ≡ true = grind (arith, nat_tests, is.even) in
    λ i. rises i && even i

-- what is no inversion list fails the test
pub test_fails : (bounds : List ℕ) → (IsInversionList bounds → false ≡ true) → is_inversion_list bounds ≡ false
test_fails bounds none = by (is_inversion_list bounds) refl
  where
    by : (test : Bool) → is_inversion_list bounds ≡ test → test ≡ false
    by true is = sym (none (IsInversionList-from_test bounds is))
    by false is = refl
