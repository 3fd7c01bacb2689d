-- A short text in an array: its bytes, and zeros after them.
use Rattle.std.specs.Prelude.{◌≡◌, ℕ, ◌≤◌, List, [], ◌∷◌, length, IsTrue, nat_lt, if◌then◌else◌}
use Rattle.icu_locale_core.specs.Subtag.{is_alphanumeric}
pub use Rattle.icu_locale_core.specs.Numbers.{padded}

-- the bytes before the first zero
abbrev pub unpadded : List ℕ → List ℕ
unpadded [] = []
unpadded (b ∷ bs) = if nat_lt 0 b then b ∷ unpadded bs else []

-- letters and digits, and then zeros alone, in at most 8 bytes
pub record IsPadded (n : ℕ) (bs : List ℕ) : Type 0 where
  pub small : n ≤ 8
  pub short : length (unpadded bs) ≤ n
  pub zeros : padded n (unpadded bs) ≡ bs
  pub plain : IsTrue (is_alphanumeric (unpadded bs))
