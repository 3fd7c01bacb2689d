-- Bytes that are left to write.
use Rattle.std.proofs.Common.{◌≡◌, ◌≢◌, ◌==◌, ℕ, List, [], ◌∷◌, length, false}

-- a list is not empty by a test of its length
pub not_empty : (xs : List ℕ) → (length xs == 0) ≡ false → xs ≢ []
not_empty [] is = absurd (cc)
not_empty (x ∷ xs) is = λ none. absurd (cc)
