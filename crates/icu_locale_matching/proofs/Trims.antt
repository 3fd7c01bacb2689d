-- White space after a text.
use Rattle.std.proofs.Common.{◌≡◌, ℕ, ◌+◌, ◌-◌, ◌<◌, Bool, true, false, ◌&&◌, ◌==◌, List, [], ◌∷◌, ◌++◌, length, take, get_or, refl, sym, ap, ◌∙◌, arith, if◌then◌else◌}
use Rattle.std.proofs.lemmas.List.{take_more, take_all}
use Rattle.std.proofs.Math.Dec.{eqb-suc-zero}
use Rattle.icu_locale_matching.specs.Header.{is_space, trim_end, before_trimmed}

-- a text is its first characters and its last
ends_in : (t : List ℕ) → 0 < length t → t ≡ take (length t - 1) t ++ get_or t (length t - 1) 0 ∷ []
ends_in t some =
    let e : length t - 1 + 1 ≡ length t = omega arith in
    sym (take_all (length t) t (omega arith)) ∙ (ap (λ n. take n t) (sym e) ∙ take_more t (length t - 1) 0 (omega arith))

before_some : (b : Bool) (x y : ℕ) (ys : List ℕ) → (if b && (length (y ∷ ys) == 0) then [] else x ∷ y ∷ ys) ≡ x ∷ y ∷ ys
before_some true x y ys = ap (λ (b : Bool). if true && b then [] else x ∷ y ∷ ys) (eqb-suc-zero (length ys))
before_some false x y ys = refl

space_behind : (xs : List ℕ) (c : ℕ) → is_space c ≡ true → trim_end (xs ++ c ∷ []) ≡ trim_end xs
space_behind [] c e = ap (λ (b : Bool). if b && (length {A = ℕ} [] == 0) then [] else c ∷ []) e
space_behind (x ∷ xs) c e = ap (before_trimmed x) (space_behind xs c e)

none_behind : (xs : List ℕ) (c : ℕ) → is_space c ≡ false → trim_end (xs ++ c ∷ []) ≡ xs ++ c ∷ []
none_behind [] c e = ap (λ (b : Bool). if b && (length {A = ℕ} [] == 0) then [] else c ∷ []) e
none_behind (x ∷ []) c e = ap (before_trimmed x) (none_behind [] c e) ∙ before_some (is_space x) x c []
none_behind (x ∷ y ∷ ys) c e = ap (before_trimmed x) (none_behind (y ∷ ys) c e) ∙ before_some (is_space x) x y (ys ++ c ∷ [])

module _ (t : List ℕ) (some : 0 < length t) where
  pub trim_end-space : is_space (get_or t (length t - 1) 0) ≡ true → trim_end (take (length t - 1) t) ≡ trim_end t
  trim_end-space e = sym (ap trim_end (ends_in t some) ∙ space_behind (take (length t - 1) t) (get_or t (length t - 1) 0) e)

  pub trim_end-none : is_space (get_or t (length t - 1) 0) ≡ false → t ≡ trim_end t
  trim_end-none e = sym (ap trim_end (ends_in t some) ∙ (none_behind (take (length t - 1) t) (get_or t (length t - 1) 0) e ∙ sym (ends_in t some)))
