-- What an array of a text and zeros after it holds, its equality and its number.
use Rattle.std.proofs.Common.{◌≡◌, ℕ, ◌<◌, ◌≤◌, ◌+◌, ◌-◌, ◌*◌, ◌^◌, true, false, ◌&&◌, List, [], ◌∷◌, ◌++◌, length, take, set, replicate, get_or, suc}
use Rattle.std.proofs.Common.{zero, nat_lt, if◌then◌else◌, refl, ap, sym, subst, ◌∙◌, arith, nat_eq}
use Rattle.std.specs.Cmp.Lexicographic.{pointwise}
use Rattle.std.specs.Str.{IsUtf8, IsAscii}
use Rattle.std.proofs.lemmas.Str.{IsUtf8-from_ascii, IsUtf8-append}
use Rattle.std.proofs.lemmas.Str.Ascii.{IsAscii-nil, IsAscii-cons}
use Rattle.std.proofs.lemmas.Bool.Decides.{nat_tests}
use Rattle.std.specs.Int.Digits.{number_from_digits, AllBelowBase}
use Rattle.std.proofs.Math.Nat.{pow-le-pow_right}
use Rattle.std.proofs.lemmas.Int.Digits.{number_lt, number_more}
use Rattle.std.proofs.lemmas.List.{set_at, length-take, take_more}
use Rattle.icu_locale_core.specs.Subtag.{is_alphanumeric}
use Rattle.icu_locale_core.specs.laws.Numbers.{all_below}
use Rattle.icu_locale_core.specs.inner.Padded.{unpadded, padded, IsPadded}

-- after a text of letters and digits the zeros are not seen
pub unpadded-zeros : (t : List ℕ) (n : ℕ) → is_alphanumeric t ≡ true → unpadded (t ++ replicate n 0) ≡ t
unpadded-zeros [] zero h = refl
unpadded-zeros [] (suc n) h = refl
unpadded-zeros (c ∷ t) n h =
    let positive : nat_lt 0 c ≡ true = grind (arith, nat_tests) in
    let rest : is_alphanumeric t ≡ true = grind (arith, nat_tests) in
    rw positive (ap (λ r. c ∷ r) (unpadded-zeros t n rest))

-- so a text with zeros after it is as the invariant asks
pub IsPadded-padded : (n : ℕ) (t : List ℕ) → n ≤ 8 → is_alphanumeric t ≡ true → length t ≤ n → IsPadded n (padded n t)
IsPadded-padded n t small plain short =
    let seen = unpadded-zeros t (n - length t) plain in
    record { small = small; short = rw seen short; zeros = ap (padded n) seen; plain = rw seen plain }

-- the next character goes in place of the first zero
pub set-next : (w : List ℕ) (n i x : ℕ) → i < length w → i < n → get_or w i 0 ≡ x
    → set (take i w ++ replicate (n - i) 0) i x ≡ take (i + 1) w ++ replicate (n - (i + 1)) 0
set-next w n i x within room is =
    let front : length (take i w) ≡ i = omega (arith, length-take i w) in
    let behind : n - i ≡ suc (n - (i + 1)) = omega arith in
    let one = take_more w i 0 within in
    rw (behind, one, is) (set_at (take i w) 0 (replicate (n - (i + 1)) 0) x i front ∙ sym (append_one (take i w) x (replicate (n - (i + 1)) 0)))
  where
    append_one : (xs : List ℕ) (y : ℕ) (ys : List ℕ) → (xs ++ y ∷ []) ++ ys ≡ xs ++ y ∷ ys
    append_one [] y ys = refl
    append_one (x ∷ xs) y ys = ap (λ r. x ∷ r) (append_one xs y ys)

-- with the zeros, texts agree as they do without them
padded_eq : (s t : List ℕ) (k m : ℕ) → is_alphanumeric s ≡ true → is_alphanumeric t ≡ true → length s + k ≡ length t + m
    → pointwise nat_eq (s ++ replicate k 0) (t ++ replicate m 0) ≡ pointwise nat_eq s t
padded_eq [] [] k m p q e = let same : k ≡ m = omega arith in rw same (zeros_agree m)
  where
    zeros_agree : (n : ℕ) → pointwise nat_eq (replicate n 0) (replicate n 0) ≡ true
    zeros_agree zero = refl
    zeros_agree (suc n) = zeros_agree n
padded_eq [] (d ∷ t) zero m p q e = absurd (omega arith)
padded_eq [] (d ∷ t) (suc k) m p q e = let apart : nat_eq 0 d ≡ false = grind (arith, nat_tests) in rw apart refl
padded_eq (c ∷ s) [] k zero p q e = absurd (omega arith)
padded_eq (c ∷ s) [] k (suc m) p q e = let apart : nat_eq c 0 ≡ false = grind (arith, nat_tests) in rw apart refl
padded_eq (c ∷ s) (d ∷ t) k m p q e =
    let p' : is_alphanumeric s ≡ true = grind (arith, nat_tests) in
    let q' : is_alphanumeric t ≡ true = grind (arith, nat_tests) in
    ap (λ b. nat_eq c d && b) (padded_eq s t k m p' q' (omega arith))

pub eq-padded : (n : ℕ) (s t : List ℕ) → is_alphanumeric s ≡ true → is_alphanumeric t ≡ true → length s ≤ n → length t ≤ n
    → pointwise nat_eq (padded n s) (padded n t) ≡ pointwise nat_eq s t
eq-padded n s t p q short short' = padded_eq s t (n - length s) (n - length t) p q (omega arith)

-- letters and digits are ASCII, and so UTF-8
pub IsUtf8-plain : (t : List ℕ) → is_alphanumeric t ≡ true → IsUtf8 t
IsUtf8-plain t h = IsUtf8-from_ascii t (IsAscii-plain t h)
  where
    IsAscii-plain : (t : List ℕ) → is_alphanumeric t ≡ true → IsAscii t
    IsAscii-plain [] h = IsAscii-nil
    IsAscii-plain (c ∷ t) h =
        let small : c < 128 = grind (arith, nat_tests) in
        let rest : is_alphanumeric t ≡ true = grind (arith, nat_tests) in
        IsAscii-cons c t small (IsAscii-plain t rest)

-- the front of the array is the text
pub take-unpadded : (bs : List ℕ) → take (length (unpadded bs)) bs ≡ unpadded bs
take-unpadded [] = refl
take-unpadded (c ∷ bs) =
    elim (nat_lt 0 c) as (λ b. take (length (if b then c ∷ unpadded bs else [])) (c ∷ bs) ≡ (if b then c ∷ unpadded bs else []))
    [ true ↦ ap (λ r. c ∷ r) (take-unpadded bs) | false ↦ refl ]

-- with its zeros too
pub IsUtf8-padded : (n : ℕ) (bs : List ℕ) → IsPadded n bs → IsUtf8 bs
IsUtf8-padded n bs p = subst IsUtf8 p.zeros (IsUtf8-append (unpadded bs) (replicate (n - length (unpadded bs)) 0)
    (IsUtf8-plain (unpadded bs) p.plain) (IsUtf8-from_ascii _ (zeros_ascii (n - length (unpadded bs)))))
  where
    zeros_ascii : (k : ℕ) → IsAscii (replicate k 0)
    zeros_ascii zero = IsAscii-nil
    zeros_ascii (suc k) = IsAscii-cons 0 (replicate k 0) (omega arith) (zeros_ascii k)

below_take : (i : ℕ) (ds : List ℕ) → AllBelowBase 256 ds → AllBelowBase 256 (take i ds)
below_take zero ds below = tt
below_take (suc i) [] below = tt
below_take (suc i) (d ∷ ds) below = (below.0, below_take i ds below.1)

-- eight bytes write a number of 64 bits
pub digit_fits : (n i : ℕ) (bs : List ℕ) → IsPadded n bs → length bs ≡ n → i < n → number_from_digits 256 (take i bs) * 256 + get_or bs i 0 < 2 ^ 64
digit_fits n i bs p long within =
    let below : AllBelowBase 256 bs = subst (AllBelowBase 256) p.zeros (all_below (unpadded bs) (n - length (unpadded bs)) p.plain) in
    let fits = number_lt 256 (take (i + 1) bs) (below_take (i + 1) bs below) in
    let count : length (take (i + 1) bs) ≤ 8 = omega (arith, length-take (i + 1) bs, p.small) in
    let most : 256 ^ length (take (i + 1) bs) ≤ 256 ^ 8 = pow-le-pow_right (omega arith) count in
    omega (arith, number_more 256 bs i (omega (arith, long, within)), fits, most)
