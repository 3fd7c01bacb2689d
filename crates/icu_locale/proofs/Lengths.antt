-- How many letters a language has, by its number.
use Rattle.std.proofs.Common.{◌≡◌, ℕ, ◌%◌, ◌==◌, List, [], ◌∷◌, length, nat_lt, arith}
use Rattle.std.proofs.lemmas.Bool.Decides.{nat_tests}
use Rattle.icu_locale_core.specs.Numbers.{IsNumberOf}
use Rattle.icu_locale_core.specs.Subtag.{IsLanguage}

-- a third letter is the second byte of the number, of which three letters leave the lowest zero
pub third_letter : (l : List ℕ) (m : ℕ) → IsNumberOf 4 l m → IsLanguage l → nat_lt (m % 65536) 256 ≡ (length l == 2)
third_letter [] m p is = grind (arith, nat_tests, is)
third_letter (a ∷ []) m p is = grind (arith, nat_tests, is)
third_letter (a ∷ b ∷ []) m p is = grind (arith, nat_tests, p.is)
third_letter (a ∷ b ∷ c ∷ []) m p is = grind (arith, nat_tests, p.is, p.plain)
third_letter (a ∷ b ∷ c ∷ d ∷ rest) m p is = grind (arith, nat_tests, is)
