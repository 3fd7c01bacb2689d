-- Numbers of texts are in the order of the texts.
use Rattle.std.proofs.Common.{◌≡◌, ℕ, ◌<◌, ◌≤◌, ◌+◌, ◌-◌, ◌*◌, ◌^◌, true, List, [], ◌∷◌, ◌++◌, length, slice_index_or, replicate, suc}
use Rattle.std.proofs.Common.{zero, refl, ap, sym, ◌∙◌, ⊎_elim, nat_lt, nat_eq, false, arith}
use Rattle.std.proofs.Math.Nat.{mul-le-mul_right, add-mul}
use Rattle.std.specs.Int.Digits.{number_from_digits, number_from_digits_after, AllBelowBase}
use Rattle.std.specs.Cmp.Lexicographic.{slice_cmp}
use Rattle.std.specs.Ordering.{nat_cmp, ordering_then}
use Rattle.std.specs.declared.cmp.Ordering.{Ordering}
use Rattle.std.specs.declared.cmp.Ordering.TheVariants.{Less, Equal, Greater}
use Rattle.std.proofs.lemmas.Bool.{cases_lt}
use Rattle.std.proofs.lemmas.Bool.Decides.{nat_tests}
use Rattle.std.proofs.lemmas.Int.Digits.{number_after_lt}
use Rattle.std.proofs.lemmas.List.{length-append, length-replicate}
use Rattle.icu_locale_core.specs.Numbers.{padded, IsNumberOf, IsPairNumber}
use Rattle.icu_locale_core.specs.Subtag.{is_alphanumeric}

-- of three answers, the first that is no tie
then_assoc : (a b c : Ordering) → ordering_then (ordering_then a b) c ≡ ordering_then a (ordering_then b c)
then_assoc Less b c = refl
then_assoc Equal b c = refl
then_assoc Greater b c = refl

then_tie : (a : Ordering) → a ≡ ordering_then a Equal
then_tie Less = refl
then_tie Equal = refl
then_tie Greater = refl

-- a higher first digit outweighs the second
outweighs : (base a b d : ℕ) → a < b → d < base → a * base + d < b * base
outweighs base a b d above small =
    let far : (a + 1) * base ≤ b * base = mul-le-mul_right base (omega arith) in
    omega (arith, add-mul a 1 base)

-- numbers of two digits compare by the first and then by the second
two_digits : (base a b d e : ℕ) → d < base → e < base → nat_cmp (a * base + d) (b * base + e) ≡ ordering_then (nat_cmp a b) (nat_cmp d e)
two_digits base a b d e p q = ⊎_elim
    (λ (below : a < b). let far = outweighs base a b d below p in grind (arith, nat_tests))
    (λ (le : b ≤ a). ⊎_elim
    (λ (above : b < a). let far = outweighs base b a e above q in grind (arith, nat_tests))
    (λ (ge : a ≤ b). let same : a ≡ b = omega arith in rw same (grind (arith, nat_tests)))
    (cases_lt b a))
    (cases_lt a b)

-- so do numbers of as many digits
digits_cmp : (base a b : ℕ) (ds es : List ℕ) → AllBelowBase base ds → AllBelowBase base es → length ds ≡ length es
    → nat_cmp (number_from_digits_after base a ds) (number_from_digits_after base b es) ≡ ordering_then (nat_cmp a b) (slice_cmp nat_cmp ds es)
digits_cmp base a b [] [] p q same = then_tie (nat_cmp a b)
digits_cmp base a b [] (e ∷ es) p q same = absurd (omega arith)
digits_cmp base a b (d ∷ ds) [] p q same = absurd (omega arith)
digits_cmp base a b (d ∷ ds) (e ∷ es) p q same =
    digits_cmp base (a * base + d) (b * base + e) ds es p.1 q.1 (omega arith)
    ∙ ap (λ o. ordering_then o (slice_cmp nat_cmp ds es)) (two_digits base a b d e p.0 q.0)
    ∙ then_assoc (nat_cmp a b) (nat_cmp d e) (slice_cmp nat_cmp ds es)

-- with the zeros, a text compares as it does without them
padded_cmp : (s t : List ℕ) (k m : ℕ) → is_alphanumeric s ≡ true → is_alphanumeric t ≡ true → length s + k ≡ length t + m
    → slice_cmp nat_cmp (s ++ replicate k 0) (t ++ replicate m 0) ≡ slice_cmp nat_cmp s t
padded_cmp [] [] k m p q e = let same : k ≡ m = omega arith in rw same (zeros_tie m)
  where
    zeros_tie : (n : ℕ) → slice_cmp nat_cmp (replicate n 0) (replicate n 0) ≡ Equal
    zeros_tie zero = refl
    zeros_tie (suc n) = zeros_tie n
padded_cmp [] (d ∷ t) zero m p q e = absurd (omega arith)
padded_cmp [] (d ∷ t) (suc k) m p q e = let positive : nat_lt 0 d ≡ true = grind (arith, nat_tests) in rw positive refl
padded_cmp (c ∷ s) [] k zero p q e = absurd (omega arith)
padded_cmp (c ∷ s) [] k (suc m) p q e =
    let above : nat_lt c 0 ≡ false = grind (arith, nat_tests) in
    let apart : nat_eq c 0 ≡ false = grind (arith, nat_tests) in
    rw (above, apart) refl
padded_cmp (c ∷ s) (d ∷ t) k m p q e =
    let p' : is_alphanumeric s ≡ true = grind (arith, nat_tests) in
    let q' : is_alphanumeric t ≡ true = grind (arith, nat_tests) in
    ap (λ o. ordering_then (nat_cmp c d) o) (padded_cmp s t k m p' q' (omega arith))

-- letters, digits and zeros are bytes
pub all_below : (t : List ℕ) (k : ℕ) → is_alphanumeric t ≡ true → AllBelowBase 256 (t ++ replicate k 0)
all_below [] zero h = tt
all_below [] (suc k) h = (omega arith, all_below [] k h)
all_below (c ∷ t) k h =
    let small : c < 256 = grind (arith, nat_tests) in
    let rest : is_alphanumeric t ≡ true = grind (arith, nat_tests) in
    (small, all_below t k rest)

pub length-padded : (n : ℕ) (t : List ℕ) → length t ≤ n → length (padded n t) ≡ n
length-padded n t short = omega (arith, length-append t (replicate (n - length t) 0), length-replicate {A = ℕ} (n - length t) 0)

-- texts are in the order of their numbers
pub number_cmp : (n : ℕ) (s t : List ℕ) (k m : ℕ) → IsNumberOf n s k → IsNumberOf n t m → nat_cmp k m ≡ slice_cmp nat_cmp s t
number_cmp n s t k m p q =
    (λ i. nat_cmp (p.is i) (q.is i))
    ∙ digits_cmp 256 0 0 (padded n s) (padded n t) (all_below s (n - length s) p.plain) (all_below t (n - length t) q.plain)
    (length-padded n s p.short ∙ sym (length-padded n t q.short))
    ∙ padded_cmp s t (n - length s) (n - length t) p.plain q.plain (omega (arith, p.short, q.short))

-- the first digit is that of a letter or a digit
number_small : (n : ℕ) (t : List ℕ) (m : ℕ) → IsNumberOf (suc n) t m → m < 128 * 256 ^ n
number_small n t m p =
    let least = first_small n (padded (suc n) t) (length-padded (suc n) t p.short) (all_below t (suc n - length t) p.plain)
    (first t (suc n - length t) p.plain) in
    omega (arith, p.is, least)
  where
    first : (t : List ℕ) (k : ℕ) → is_alphanumeric t ≡ true → slice_index_or (t ++ replicate k 0) 0 0 < 128
    first [] zero h = omega arith
    first [] (suc k) h = omega arith
    first (c ∷ t) k h = grind (arith, nat_tests)

    first_small : (n : ℕ) (ds : List ℕ) → length ds ≡ suc n → AllBelowBase 256 ds → slice_index_or ds 0 0 < 128 → number_from_digits 256 ds < 128 * 256 ^ n
    first_small n [] long below small = absurd (omega arith)
    first_small n (d ∷ ds) long below small =
        let same : length ds ≡ n = omega arith in
        let least : number_from_digits_after 256 (0 * 256 + d) ds < (0 * 256 + d + 1) * 256 ^ length ds = number_after_lt 256 (0 * 256 + d) ds below.1 in
        let most : (0 * 256 + d + 1) * 256 ^ n ≤ 128 * 256 ^ n = mul-le-mul_right (256 ^ n) (omega arith) in
        omega (arith, least, most, ap (λ k. (0 * 256 + d + 1) * 256 ^ k) same)

pub below_half : (t : List ℕ) (m : ℕ) → IsNumberOf 4 t m → m < 2 ^ 31
below_half t m p = omega (arith, number_small 3 t m p)

-- a number has at most 63 bits
pub below_of_four : (t : List ℕ) (m : ℕ) → IsNumberOf 4 t m → m < 2 ^ 63
below_of_four t m p = omega (arith, below_half t m p)

pub below_of_eight : (t : List ℕ) (m : ℕ) → IsNumberOf 8 t m → m < 2 ^ 63
below_of_eight t m p = omega (arith, number_small 7 t m p)

pub below_of_pair : (x : List ℕ × List ℕ) (m : ℕ) → IsPairNumber x m → m < 2 ^ 63
below_of_pair x m p = omega (arith, p.is, below_half x.0 p.high p.first, below_half x.1 p.low p.second)

-- pairs are in the order of their numbers
pub pairs_ordered : (x y : List ℕ × List ℕ) (m n : ℕ) → IsPairNumber x m → IsPairNumber y n
    → nat_cmp m n ≡ ordering_then (slice_cmp nat_cmp x.0 y.0) (slice_cmp nat_cmp x.1 y.1)
pairs_ordered x y m n p q =
    (λ i. nat_cmp (p.is i) (q.is i))
    ∙ two_digits (2 ^ 32) p.high q.high p.low q.low (omega (arith, below_half x.1 p.low p.second)) (omega (arith, below_half y.1 q.low q.second))
    ∙ (λ i. ordering_then (number_cmp 4 x.0 y.0 p.high q.high p.first q.first i) (number_cmp 4 x.1 y.1 p.low q.low p.second q.second i))
