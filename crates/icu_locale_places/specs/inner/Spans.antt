-- The bytes of a piece, counted.
use Rattle.std.specs.Prelude.{◌≡◌, ◌<◌, ◌+◌, suc, ℕ, List, [], ◌∷◌, length, take, slice_index_or}
use Rattle.icu_locale_core.specs.Identifier.{pieces}

-- how many bytes pieces have, with a separator after each
abbrev pub spaced : List (List ℕ) → ℕ
spaced [] = 0
spaced (p ∷ ps) = suc (length p + spaced ps)

-- piece n of t has the bytes after the pieces before it; the end is after the last byte
pub record HasBytes (t : List ℕ) (n from to : ℕ) : Type 0 where
  pub piece : n < length (pieces t) → (from ≡ spaced (take n (pieces t)))
      × (to ≡ from + length (slice_index_or (pieces t) n []))
  pub ending : n ≡ length (pieces t) → (from ≡ length t) × (to ≡ length t)
