-- The entries that a head tells of.
use Rattle.std.proofs.Common.{◌≡◌, ℕ, zero, suc, ◌+◌, ◌-◌, ◌*◌, ◌/◌, ◌<◌, ◌≤◌, ◌&&◌, nat_le, true, codes, if◌then◌else◌, List, ◌∷◌, length, take, drop, Some, None, refl, sym, ap, ◌∙◌, arith}
use Rattle.std.specs.Simd.{first_chunks}
use Rattle.std.specs.Str.{bytes_eq}
use Rattle.std.proofs.Math.Nat.{mul-div_cancel}
use Rattle.std.proofs.lemmas.Bool.{and_from, le-leb}
use Rattle.std.proofs.lemmas.List.{take-take, drop-take, drop-drop}
use Rattle.icu_tables_flat.specs.Form.{flat_parts, number32}

-- chunks of a front that holds them
pub chunks_of_front : (n count front : ℕ) (xs : List ℕ) → count * n ≤ front
    → first_chunks n count (take front xs) ≡ first_chunks n count xs
chunks_of_front n zero front xs le = refl
chunks_of_front n (suc count) front xs le =
    let more : suc count * n ≡ n + count * n = omega arith in
    let first : n ≤ front = omega arith in
    let split : n + (front - n) ≡ front = omega arith in
    let rest : drop n (take front xs) ≡ take (front - n) (drop n xs) =
    ap (λ m. drop n (take m xs)) (sym split) ∙ drop-take n (front - n) xs in
    (λ i. take-take n front xs first i ∷ first_chunks n count (rest i))
    ∙ ap (λ l. take n xs ∷ l) (chunks_of_front n count (front - n) (drop n xs) (omega arith))

pub chunks_told : (n count : ℕ) (xs front : List ℕ) → 0 < n → front ≡ take (count * n) xs → length front ≡ count * n
    → first_chunks n (length front / n) front ≡ first_chunks n count xs
chunks_told n count xs front some is len =
    (λ i. first_chunks n (len i / n) (is i))
    ∙ ap (λ k. first_chunks n k (take (count * n) xs)) (mul-div_cancel count some)
    ∙ chunks_of_front n count (count * n) xs (omega arith)

pub parts_told : (bytes : List ℕ) (g r n : ℕ) (rest after_groups after_runs texts : List ℕ) (groups runs rows : List (List ℕ))
    → (nat_le 20 (length bytes) && bytes_eq (take 8 bytes) (codes "ICUTEXT1")) ≡ true
    → 20 + g * 12 + r * 4 + n * 12 ≤ length bytes
    → g ≡ number32 bytes 8 → r ≡ number32 bytes 12 → n ≡ number32 bytes 16
    → rest ≡ drop 20 bytes
    → groups ≡ first_chunks 12 g rest → after_groups ≡ drop (g * 12) rest
    → runs ≡ first_chunks 4 r after_groups → after_runs ≡ drop (r * 4) after_groups
    → rows ≡ first_chunks 12 n after_runs → texts ≡ drop (n * 12) after_runs
    → flat_parts bytes ≡ Some (record { groups = groups; runs = runs; rows = rows; texts = texts })
parts_told bytes g r n rest after_groups after_runs texts groups runs rows head room gs rs ns r0 e1 r1 e2 r2 e3 r3 =
    let size = number32 bytes 8 * 12 in
    let size2 = number32 bytes 12 * 4 in
    let size3 = number32 bytes 16 * 12 in
    let fits : nat_le (20 + size + size2 + size3) (length bytes) ≡ true = le-leb _ _ (omega (arith, gs, rs, ns)) in
    let d1 = drop-drop size 20 bytes in
    let d2 = drop-drop size2 (20 + size) bytes in
    let d3 = drop-drop size3 (20 + size + size2) bytes in
    let a : first_chunks 12 (number32 bytes 8) (drop 20 bytes) ≡ groups = cc in
    let b : first_chunks 4 (number32 bytes 12) (drop (20 + size) bytes) ≡ runs = cc in
    let c : first_chunks 12 (number32 bytes 16) (drop (20 + size + size2) bytes) ≡ rows = cc in
    let d : drop (20 + size + size2 + size3) bytes ≡ texts = cc in
    ap (λ test. if test then Some (record {
      groups = first_chunks 12 (number32 bytes 8) (drop 20 bytes);
      runs = first_chunks 4 (number32 bytes 12) (drop (20 + size) bytes);
      rows = first_chunks 12 (number32 bytes 16) (drop (20 + size + size2) bytes);
      texts = drop (20 + size + size2 + size3) bytes;
    }) else None) (and_from _ _ head fits)
    ∙ (λ i. Some (record { groups = a i; runs = b i; rows = c i; texts = d i }))
