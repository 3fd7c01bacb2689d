-- Short texts as numbers, in whose order they are.
use Rattle.std.specs.Prelude.{◌≡◌, ℕ, ◌≤◌, ◌-◌, ◌+◌, ◌*◌, ◌^◌, List, length, ◌++◌, replicate, IsTrue}
use Rattle.std.specs.Int.Digits.{number_from_digits}
use Rattle.icu_locale_core.specs.Subtag.{is_alphanumeric}

-- a text with zeros after it, up to n bytes
abbrev pub padded : ℕ → List ℕ → List ℕ
padded n t = t ++ replicate (n - length t) 0

-- m is the number that a text of at most n letters and digits writes in base 256, with zeros after it
pub record IsNumberOf (n : ℕ) (t : List ℕ) (m : ℕ) : Type 0 where
  pub short : length t ≤ n
  pub plain : IsTrue (is_alphanumeric t)
  pub is : m ≡ number_from_digits 256 (padded n t)

-- m has the number of the first of two texts above that of the second, in 32 bits each
pub record IsPairNumber (x : List ℕ × List ℕ) (m : ℕ) : Type 0 where
  pub high : ℕ
  pub low : ℕ
  pub first : IsNumberOf 4 x.0 high
  pub second : IsNumberOf 4 x.1 low
  pub is : m ≡ high * 2 ^ 32 + low
