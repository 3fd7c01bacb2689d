-- A joined text, cut at its separators, gives its pieces back.
use Rattle.std.proofs.Common.{◌≡◌, ◌≤◌, ℕ, true, false, ◌==◌, List, [], ◌∷◌, ◌++◌, length, map, drop, get_or, Option, None, Some, IfSome, refl, sym, ap, ◌∙◌, arith}
use Rattle.std.specs.List.{All, flat_map, join_by, slice_split}
use Rattle.std.specs.Char.{is_ascii_alphanumeric}
use Rattle.std.proofs.lemmas.Bool.{and_parts}
use Rattle.std.proofs.lemmas.Bool.Decides.{nat_tests}
use Rattle.std.proofs.lemmas.List.{append-nil}
use Rattle.std.proofs.lemmas.List.Elements.{All-nil, All-cons, All-head, All-tail, All-append}
use Rattle.std.proofs.lemmas.List.Splits.{slice_split_none, slice_split_at}
use Rattle.icu_locale_core.specs.Subtag.{is_alphanumeric}

abbrev pub Differs : ℕ → ℕ → Type 0
Differs c d = (d == c) ≡ false

-- no character of a text is c
abbrev pub Free : ℕ → List ℕ → Type 0
Free c t = All (Differs c) t

itself : (c : ℕ) → (c == c) ≡ true
itself c = grind (arith, nat_tests)

other : (c d : ℕ) → is_ascii_alphanumeric c ≡ false → is_ascii_alphanumeric d ≡ true → Differs c d
other c d outside inside = grind (arith, nat_tests)

-- letters and digits have no other character
pub free_plain : (c : ℕ) → is_ascii_alphanumeric c ≡ false → (t : List ℕ) → is_alphanumeric t ≡ true → Free c t
free_plain c outside [] is = All-nil (Differs c)
free_plain c outside (d ∷ t) is =
    let both = and_parts (is_ascii_alphanumeric d) (is_alphanumeric t) is in
    All-cons (Differs c) d t (other c d outside both.0) (free_plain c outside t both.1)

-- pieces without a character, joined by a text without it, make a text without it
module _ {X : Type 0} (c : ℕ) (f : X → List ℕ) (between : List ℕ) (P : X → Type 0) (free : Free c between)
    (each : (x : X) → P x → Free c (f x)) where
  free_tail : (xs : List X) → All P xs → Free c (flat_map (λ x. between ++ f x) xs)
  free_tail [] are = All-nil (Differs c)
  free_tail (x ∷ xs) are = All-append (Differs c) (between ++ f x) _ (All-append (Differs c) between (f x) free (each x (All-head P x xs are)))
      (free_tail xs (All-tail P x xs are))

  pub free_join : (xs : List X) → All P xs → Free c (join_by f between xs)
  free_join [] are = All-nil (Differs c)
  free_join (x ∷ xs) are = All-append (Differs c) (f x) _ (each x (All-head P x xs are)) (free_tail xs (All-tail P x xs are))

pub some_append : (t u : List ℕ) → 1 ≤ length t → 1 ≤ length (t ++ u)
some_append [] u some = absurd (omega (arith, some))
some_append (c ∷ t) u some = omega arith

not_empty : (t u : List ℕ) → 1 ≤ length t → t ++ u ≡ [] → ⊥
not_empty [] u some same = absurd (omega (arith, some))
not_empty (c ∷ t) u some same = absurd (omega (arith, ap length same))

-- texts without a character, joined by it, tell what they are texts of
module _ {X : Type 0} (c : ℕ) (f : X → List ℕ) (P : X → Type 0) (free : (x : X) → P x → Free c (f x))
    (some : (x : X) → P x → 1 ≤ length (f x)) (once : (x y : X) → P x → P y → f x ≡ f y → x ≡ y) where
  cut : (t : List ℕ) (xs : List X) → Free c t → All P xs
      → slice_split (λ d. d == c) (t ++ flat_map (λ x. (c ∷ []) ++ f x) xs) ≡ t ∷ map f xs
  cut t [] is are = ap (slice_split (λ d. d == c)) (append-nil t) ∙ slice_split_none (λ d. d == c) t is
  cut t (x ∷ xs) is are =
      slice_split_at (λ d. d == c) t c (f x ++ flat_map (λ x. (c ∷ []) ++ f x) xs) is (itself c)
      ∙ ap (λ ps. t ∷ ps) (cut (f x) xs (free x (All-head P x xs are)) (All-tail P x xs are))

  maps_once : (xs ys : List X) → All P xs → All P ys → map f xs ≡ map f ys → xs ≡ ys
  maps_once [] [] are others same = refl
  maps_once [] (y ∷ ys) are others same = absurd (omega (arith, ap length same))
  maps_once (x ∷ xs) [] are others same = absurd (omega (arith, ap length same))
  maps_once (x ∷ xs) (y ∷ ys) are others same = λ i.
      once x y (All-head P x xs are) (All-head P y ys others) (ap (λ l. get_or l 0 []) same) i
      ∷ maps_once xs ys (All-tail P x xs are) (All-tail P y ys others) (ap (drop 1) same) i

  pub joined_once : (xs ys : List X) → All P xs → All P ys → join_by f (c ∷ []) xs ≡ join_by f (c ∷ []) ys → xs ≡ ys
  joined_once [] [] are others same = refl
  joined_once [] (y ∷ ys) are others same = absurd (not_empty (f y) _ (some y (All-head P y ys others)) (sym same))
  joined_once (x ∷ xs) [] are others same = absurd (not_empty (f x) _ (some x (All-head P x xs are)) same)
  joined_once (x ∷ xs) (y ∷ ys) are others same = maps_once (x ∷ xs) (y ∷ ys) are others
      (sym (cut (f x) xs (free x (All-head P x xs are)) (All-tail P x xs are))
      ∙ ap (slice_split (λ d. d == c)) same
      ∙ cut (f y) ys (free y (All-head P y ys others)) (All-tail P y ys others))

-- a text that may be absent, and is not empty where it is there, tells what it is a text of
module _ {X : Type 0} (text : Option X → List ℕ) (P : X → Type 0) (none : text None ≡ [])
    (some : (x : X) → P x → 1 ≤ length (text (Some x)))
    (once : (x y : X) → P x → P y → text (Some x) ≡ text (Some y) → x ≡ y) where
  absent : (x : X) → P x → text None ≡ text (Some x) → ⊥
  absent x is same = absurd (omega (arith, some x is, ap length (sym none ∙ same)))

  pub option_once : (o p : Option X) → IfSome o P → IfSome p P → text o ≡ text p → o ≡ p
  option_once None None is other same = refl
  option_once None (Some y) is other same = absurd (absent y other same)
  option_once (Some x) None is other same = absurd (absent x is (sym same))
  option_once (Some x) (Some y) is other same = ap Some (once x y is other same)
