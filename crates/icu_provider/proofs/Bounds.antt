-- Bounds of characters: where a character is among them, and which lists of bounds are inversion lists.
use Rattle.std.proofs.Common.{◌≡◌, ℕ, zero, suc, ◌+◌, ◌-◌, ◌≤◌, ◌<◌, ◌%◌, ◌==◌, true, false, nat_le, List, [], ◌∷◌, length, slice_index, refl, ap, ◌∙◌, arith}
use Rattle.std.proofs.lemmas.List.Sorted.{IsPartitionedBy-leb, IsNonDecreasingBy-from_default}
use Rattle.std.proofs.lemmas.Bool.Decides.{nat_tests}
use native.Mathlib.Numerals.{unary_clauses}
use Rattle.std.specs.List.Sorted.{IsStrictlyIncreasing, IsPartitionedBy, IsPartitionPoint}
use Rattle.icu_provider.specs.InversionList.{has_character}
use Rattle.icu_provider.specs.inner.Places.{IsPlace}

odd_after : (n : ℕ) → (suc (suc n) % 2 == 1) ≡ (n % 2 == 1)
odd_after n = ap (λ k. k == 1) (omega arith)

even_tail : (n : ℕ) → suc (suc n) % 2 ≡ 0 → n % 2 ≡ 0
even_tail n h = omega arith

-- an odd number of bounds is passed exactly where some pair has the character
pub has_character_at : (character : ℕ) (bounds : List ℕ) (place : ℕ) → length bounds % 2 ≡ 0 → IsPlace character bounds place
    → (place % 2 == 1) ≡ has_character bounds character
has_character_at character [] zero even at = refl
has_character_at character [] (suc place) even at = absurd (omega (arith, at.in_range))
has_character_at character (x ∷ []) place even at = absurd (omega (arith, even))
has_character_at character (x ∷ y ∷ bounds) zero even at =
    let above : character < x = at.ahead 0 0 (omega arith) (omega arith) in
    let later = has_character_at character bounds zero (even_tail _ even) (record {
      in_range = omega arith;
      passed = λ k d low high. absurd (omega arith);
      ahead = λ k d low high. at.ahead (suc (suc k)) d (omega arith) (omega arith);
    }) in
    grind (arith, nat_tests, above, later)
has_character_at character (x ∷ y ∷ bounds) (suc zero) even at =
    let first : x ≤ character = at.passed 0 0 (omega arith) (omega arith) in
    let second : character < y = at.ahead 1 0 (omega arith) (omega arith) in
    grind (arith, nat_tests, first, second)
has_character_at character (x ∷ y ∷ bounds) (suc (suc place)) even at =
    let second : y ≤ character = at.passed 1 0 (omega arith) (omega arith) in
    let later = has_character_at character bounds place (even_tail _ even) (record {
      in_range = omega (arith, at.in_range);
      passed = λ k d low high. at.passed (suc (suc k)) d (omega arith) (omega arith);
      ahead = λ k d low high. at.ahead (suc (suc k)) d (omega arith) (omega arith);
    }) in
    odd_after place ∙ grind (arith, nat_tests, second, later)

-- numbers that rise are parted by a test for an upper bound
le_itself : (n : ℕ) → n ≤ n
le_itself n = omega arith

le_along : (a b c : ℕ) → a ≤ b → b < c → a ≤ c
le_along a b c low high = omega arith

later_is_above : (bounds : List ℕ) → IsStrictlyIncreasing bounds → (i n : ℕ) → i + n < length bounds → slice_index bounds i ≤ slice_index bounds (i + n)
later_is_above bounds rises i zero within = simp unary_clauses (le_itself (slice_index bounds i))
later_is_above bounds rises i (suc n) within =
    let step = rises (i + n) (omega (arith, within)) in
    let before = later_is_above bounds rises i n (omega (arith, within)) in
    simp unary_clauses (le_along (slice_index bounds i) _ _ before (simp unary_clauses at step))

pub bounds_are_parted : (bounds : List ℕ) (character : ℕ) → IsStrictlyIncreasing bounds → IsPartitionedBy (λ bound. nat_le bound character) bounds
bounds_are_parted bounds character rises = IsPartitionedBy-leb (λ bound. bound) bounds character
    (IsNonDecreasingBy-from_default (λ bound. bound) bounds 0 (λ i j low high. rw (← le_sum low)
    (later_is_above bounds rises i (j - i) (omega (arith, low, high)))))
  where
    le_sum : {i j : ℕ} → i ≤ j → i + (j - i) ≡ j
    le_sum low = omega arith

-- where the test for an upper bound parts the bounds
pub IsPlace-from_point : (character : ℕ) (bounds : List ℕ) (place : ℕ) → place ≤ length bounds
    → IsPartitionPoint (λ bound. nat_le bound character ≡ true) (λ bound. nat_le bound character ≡ false) bounds place → IsPlace character bounds place
IsPlace-from_point character bounds place bound point = record {
  in_range = bound;
  passed = λ k d low high. let below = point.0 k d low high in grind (arith, nat_tests, below);
  ahead = λ k d low high. let above = point.1 k d low high in grind (arith, nat_tests, above);
}
