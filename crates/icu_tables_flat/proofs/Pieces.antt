-- A piece that is there begins and ends between characters.
use Rattle.std.proofs.Common.{◌≡◌, ℕ, ◌+◌, List, length, slice_index, nat_eq, nat_lt, nat_le, true, ⊎_elim, arith}
use Rattle.std.specs.Str.{IsCharBoundary}
use Rattle.std.proofs.lemmas.Bool.{and_parts, or_cases, ltb-true, leb-true, eqb-true}
use Rattle.icu_tables_flat.specs.Form.{is_boundary, is_piece}

pub boundary_told : (texts : List ℕ) (at : ℕ) → is_boundary texts at ≡ true → IsCharBoundary texts at
unfolding is_boundary
boundary_told texts at is = ⊎_elim
    (λ (end : nat_eq at (length texts) ≡ true).
    let there = eqb-true at (length texts) end in
    (omega (arith, there), λ below high. absurd (omega (arith, below, there))))
    (λ inside.
    let parts = and_parts _ _ inside in (
      omega (arith, ltb-true at (length texts) parts.0),
      λ below high. ⊎_elim
          (λ (low : nat_lt (slice_index texts at) 128 ≡ true). absurd (omega (arith, ltb-true (slice_index texts at) 128 low)))
          (λ (ok : nat_le 192 (slice_index texts at) ≡ true). leb-true 192 (slice_index texts at) ok)
          (or_cases _ _ parts.1),
    ))
    (or_cases _ _ is)

pub piece_starts : (texts : List ℕ) (place len : ℕ) → is_piece texts place len ≡ true → IsCharBoundary texts place
unfolding is_piece
piece_starts texts place len is = boundary_told texts place (and_parts _ _ is).0

pub piece_ends : (texts : List ℕ) (place len : ℕ) → is_piece texts place len ≡ true → IsCharBoundary texts (place + len)
unfolding is_piece
piece_ends texts place len is = boundary_told texts (place + len) (and_parts _ _ is).1
