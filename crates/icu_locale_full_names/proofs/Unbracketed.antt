-- A text without round brackets stays as it is where its brackets are made square.
use Rattle.std.proofs.Common.{◌≡◌, ℕ, true, false, ◌==◌, List, [], ◌∷◌, map, encode_utf8, encode_utf8_all, refl, ap, sym, ◌∙◌, arith}
use Rattle.std.specs.Prelude.{chars, IsUtf8}
use Rattle.std.specs.List.{list_any}
use Rattle.std.proofs.lemmas.Bool.{false≢true, or_parts}
use Rattle.std.proofs.lemmas.Bool.Decides.{nat_tests}
use Rattle.std.proofs.lemmas.List.Folds.{list_any-append}
use Rattle.std.proofs.lemmas.Str.{encodes-chars}
use Rattle.icu_locale_full_names.specs.Squares.{square, square_text}
use Rattle.icu_locale_full_names.specs.inner.Brackets.{may_begin_bracket}

same : (c n : ℕ) → (c == n) ≡ true → c ≡ n
same c n is = grind (arith, nat_tests)

-- a character whose bytes begin no bracket is not one
other : (n c : ℕ) → list_any may_begin_bracket (encode_utf8 n) ≡ true → list_any may_begin_bracket (encode_utf8 c) ≡ false → (c == n) ≡ false
other n c marked none = (elim (c == n) as (λ b. (c == n) ≡ b → (c == n) ≡ false) [
  | true ↦ λ is. absurd (false≢true (sym none ∙ ap (λ x. list_any may_begin_bracket (encode_utf8 x)) (same c n is) ∙ marked))
  | false ↦ λ is. is
]) refl

square_other : (c : ℕ) → list_any may_begin_bracket (encode_utf8 c) ≡ false → square c ≡ c
unfolding lib.Utf8.encode
square_other c none = rw (other 40 c refl none, other 41 c refl none, other 65288 c refl none, other 65289 c refl none) refl

squares_other : (cs : List ℕ) → list_any may_begin_bracket (encode_utf8_all cs) ≡ false → map square cs ≡ cs
squares_other [] none = refl
squares_other (c ∷ cs) none =
    let both = or_parts (list_any may_begin_bracket (encode_utf8 c)) (list_any may_begin_bracket (encode_utf8_all cs))
    (sym (list_any-append may_begin_bracket (encode_utf8 c) (encode_utf8_all cs)) ∙ none) in
    λ i. square_other c both.0 i ∷ squares_other cs both.1 i

pub square_text-other : (t : List ℕ) → IsUtf8 t → list_any may_begin_bracket t ≡ false → square_text t ≡ t
square_text-other t spelled none =
    let back = encodes-chars t spelled in
    ap encode_utf8_all (squares_other (chars t) (ap (list_any may_begin_bracket) back ∙ none)) ∙ back
