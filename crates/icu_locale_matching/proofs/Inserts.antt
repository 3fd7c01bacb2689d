-- A wish more.
use Rattle.std.proofs.Common.{◌≡◌, ℕ, suc, ◌+◌, ◌-◌, ◌<◌, ◌≤◌, Bool, true, false, not, ◌||◌, cond, nat_lt, ◌==◌, List, [], ◌∷◌, ◌++◌, length, take, drop, map, get_or, Option, Some, None, refl, sym, ap, ◌∙◌, subst, arith, inl, inr, AllPairs, append_assoc, length-drop, add-one}
use Rattle.std.specs.List.{filter, filter_map, list_any, cons_option, insert, position, position_or_len}
use Rattle.std.proofs.lemmas.Bool.{false≢true, cases_order, cases_Bool, ltb-true, ltb-false, eqb-true}
use Rattle.std.proofs.lemmas.Option.{none-some}
use Rattle.std.proofs.Math.Seq.{drop-cons}
use Rattle.std.proofs.lemmas.List.{take_more, take_all, get_or-take, length-take-le, take-map, drop-map, map-append, take-append-drop, drop-take, append-nil, get_or-drop}
use Rattle.std.proofs.lemmas.Bool.Decides.{nat_tests}
use Rattle.std.proofs.lemmas.List.Elements.{filter-append, filter_map-append}
use Rattle.std.proofs.lemmas.List.Edits.{get_or-insert_at, get_or-insert_below, get_or-insert_above, length-insert}
use Rattle.std.proofs.lemmas.List.Sums.{passes_at_first, fails_before_first, prefix_len-le-length}
use Rattle.icu_locale_matching.specs.Header.{Wish, has_weight, AreByWeight}

-- a wish has less weight
abbrev pub lighter : ℕ → Wish → Bool
lighter n w = nat_lt w.1 n

-- where a wish of a weight goes
pub record IsPlaceFor (n : ℕ) (ws : List Wish) (i : ℕ) : Type 0 where
  pub within : i ≤ length ws
  pub high : (k : ℕ) (d : Wish) → k < i → n ≤ (get_or ws k d).1
  pub low : (k : ℕ) (d : Wish) → i ≤ k → k < length ws → (get_or ws k d).1 < n

module _ (ws : List Wish) (w : Wish) (i : ℕ) (place : IsPlaceFor w.1 ws i) (falls : AllPairs (λ u v. v.1 ≤ u.1) ws) where
  still_falls : AllPairs (λ u v. v.1 ≤ u.1) (insert ws i w)
  still_falls a b d before within =
      let n : length (insert ws i w) ≡ length ws + 1 = length-insert ws i w place.within in
      elim (cases_order b i) [
        | inl at ↦
            let here = ap (λ k. get_or (insert ws i w) k d) at ∙ get_or-insert_at ws i w d place.within in
            let there = get_or-insert_below ws i w d a (omega arith) place.within in
            omega (arith, ap (λ x. x.1) here, ap (λ x. x.1) there, place.high a d (omega arith))
        | inr (inl below) ↦
            let here = get_or-insert_below ws i w d b below place.within in
            let there = get_or-insert_below ws i w d a (omega arith) place.within in
            omega (arith, ap (λ x. x.1) here, ap (λ x. x.1) there, falls a b d before (omega arith))
        | inr (inr above) ↦
            let one : b - 1 + 1 ≡ b = omega arith in
            let here = ap (λ k. get_or (insert ws i w) k d) (sym one) ∙ get_or-insert_above ws i w d (b - 1) (omega arith) place.within in
            elim (cases_order a i) [
              | inl at ↦
                  let there = ap (λ k. get_or (insert ws i w) k d) at ∙ get_or-insert_at ws i w d place.within in
                  omega (arith, ap (λ x. x.1) here, ap (λ x. x.1) there, place.low (b - 1) d (omega arith) (omega arith))
              | inr (inl below) ↦
                  let there = get_or-insert_below ws i w d a below place.within in
                  omega (arith, ap (λ x. x.1) here, ap (λ x. x.1) there, falls a (b - 1) d (omega arith) (omega arith))
              | inr (inr behind) ↦
                  let two : a - 1 + 1 ≡ a = omega arith in
                  let there = ap (λ k. get_or (insert ws i w) k d) (sym two) ∙ get_or-insert_above ws i w d (a - 1) (omega arith) place.within in
                  omega (arith, ap (λ x. x.1) here, ap (λ x. x.1) there, falls (a - 1) (b - 1) d (omega arith) (omega arith))
            ]
      ]

same_number : (m n : ℕ) → (m == n) ≡ true → m ≡ n
same_number m n e = eqb-true m n e

pub filter_none : {X : Type 0} (p : X → Bool) (xs : List X) → ((k : ℕ) (d : X) → k < length xs → p (get_or xs k d) ≡ false) → filter p xs ≡ []
filter_none p [] each = refl
filter_none p (x ∷ xs) each =
    ap (λ b. cond b (x ∷ filter p xs) (filter p xs)) (each 0 x (omega arith))
    ∙ filter_none p xs (λ k d within. each (suc k) d (omega arith))

module _ (ws : List Wish) (w : Wish) (i : ℕ) (place : IsPlaceFor w.1 ws i) where
  none_behind : filter (has_weight w.1) (drop i ws) ≡ []
  none_behind =
      filter_none (has_weight w.1) (drop i ws) (λ k d within.
      let e : get_or (drop i ws) k d ≡ get_or ws (i + k) d = get_or-drop i ws k d in
      let less : (get_or ws (i + k) d).1 < w.1 = place.low (i + k) d (omega arith) (omega (arith, length-drop i ws)) in
      ap (has_weight w.1) e ∙ not_same (get_or ws (i + k) d).1 w.1 less)
    where
      not_same : (m n : ℕ) → m < n → (m == n) ≡ false
      not_same m n less = grind arith

  one_more : (n : ℕ) → filter (has_weight n) (insert ws i w) ≡ filter (has_weight n) ws ++ filter (has_weight n) (w ∷ [])
  one_more n =
      let p = has_weight n in
      let f = filter p (take i ws) in
      let left : filter p (insert ws i w) ≡ f ++ filter p (w ∷ drop i ws) = filter-append p (take i ws) (w ∷ drop i ws) in
      let right : filter p ws ≡ f ++ filter p (drop i ws) = ap (filter p) (sym (take-append-drop i ws)) ∙ filter-append p (take i ws) (drop i ws) in
      let mid : filter p (w ∷ drop i ws) ≡ filter p (drop i ws) ++ filter p (w ∷ []) = by_weight n in
      left ∙ (ap (λ r. f ++ r) mid ∙ (sym (append_assoc f (filter p (drop i ws)) (filter p (w ∷ []))) ∙ ap (λ r. r ++ filter p (w ∷ [])) (sym right)))
    where
      by_weight : (n : ℕ) → filter (has_weight n) (w ∷ drop i ws) ≡ filter (has_weight n) (drop i ws) ++ filter (has_weight n) (w ∷ [])
      by_weight n =
          elim (cases_Bool (has_weight n w)) [
            | inl same ↦
                let e : w.1 ≡ n = same_number w.1 n same in
                let gone : filter (has_weight n) (drop i ws) ≡ [] = subst (λ m. filter (has_weight m) (drop i ws) ≡ []) e none_behind in
                ap (λ b. cond b (w ∷ filter (has_weight n) (drop i ws)) (filter (has_weight n) (drop i ws))) same
                ∙ (ap (λ r. w ∷ r) gone ∙ sym (ap (λ r. r ++ filter (has_weight n) (w ∷ [])) gone
                ∙ ap (λ b. cond b (w ∷ []) []) same))
            | inr other ↦
                ap (λ b. cond b (w ∷ filter (has_weight n) (drop i ws)) (filter (has_weight n) (drop i ws))) other
                ∙ sym (ap (λ b. filter (has_weight n) (drop i ws) ++ cond b (w ∷ []) []) other ∙ append-nil (filter (has_weight n) (drop i ws)))
          ]

  pub AreByWeight-insert : (wishes : List Wish) → AreByWeight wishes ws → AreByWeight (wishes ++ w ∷ []) (insert ws i w)
  AreByWeight-insert wishes are = record {
    falls = still_falls ws w i place are.falls;
    same = λ n. one_more n ∙ (ap (λ r. r ++ filter (has_weight n) (w ∷ [])) (are.same n) ∙ sym (filter-append (has_weight n) wishes (w ∷ [])));
  }

-- the first place of a wish with less weight
pub IsPlaceFor-first : (n : ℕ) (ws : List Wish) → AllPairs (λ u v. v.1 ≤ u.1) ws → IsPlaceFor n ws (position_or_len (lighter n) ws)
IsPlaceFor-first n ws falls =
    let i : ℕ = position_or_len (lighter n) ws in
    record {
      within = prefix_len-le-length (λ w. not (lighter n w)) ws;
      high = λ k d before. ltb-false (get_or ws k d).1 n (fails_before_first (lighter n) ws k d before);
      low = λ k d behind inside.
          let first : (get_or ws i d).1 < n = ltb-true (get_or ws i d).1 n (passes_at_first (lighter n) ws d (omega arith)) in
          elim (cases_order i k) [
            | inl same ↦ subst (λ j. (get_or ws j d).1 < n) same first
            | inr (inl later) ↦ omega (arith, falls i k d later inside)
            | inr (inr before) ↦ absurd (omega arith)
          ];
    }

-- ---- behind references

module _ {X : Type 0} (show : X → Wish) where
  pub map-insert : (xs : List X) (i : ℕ) (x : X) → map show (insert xs i x) ≡ insert (map show xs) i (show x)
  map-insert xs i x =
      map-append show (take i xs) (x ∷ drop i xs)
      ∙ (λ k. sym (take-map show i xs) k ++ show x ∷ sym (drop-map show i xs) k)

  pub place-map : (n : ℕ) (xs : List X) → position_or_len (lighter n) (map show xs) ≡ position_or_len (λ x. lighter n (show x)) xs
  place-map n [] = refl
  place-map n (x ∷ xs) = ap (λ k. cond (not (lighter n (show x))) (1 + k) 0) (place-map n xs)

-- no place is the end
pub place_none : {X : Type 0} (p : X → Bool) (xs : List X) → position p xs ≡ None → length xs ≡ position_or_len p xs
place_none p xs none = by (nat_lt (position_or_len p xs) (length xs)) refl none
  where
    by : (b : Bool) → nat_lt (position_or_len p xs) (length xs) ≡ b → cond b (Some (position_or_len p xs)) None ≡ None
        → length xs ≡ position_or_len p xs
    by true inside is = absurd (none-some (position_or_len p xs) (sym is))
    by false past is =
        let le = ltb-false (position_or_len p xs) (length xs) past in
        omega (arith, le, prefix_len-le-length (λ x. not (p x)) xs)

-- ---- part by part

module _ (es : List (List ℕ)) (i : ℕ) where
  pub one_part : (p : List ℕ) (ps : List (List ℕ)) → drop i es ≡ p ∷ ps → (take (i + 1) es ≡ take i es ++ p ∷ []) × (drop (i + 1) es ≡ ps)
  one_part p ps e =
      let n = ap length e in
      let within : i < length es = omega (arith, n, length-drop i es) in
      let cut : drop i es ≡ get_or es i p ∷ drop (suc i) es = drop-cons es i p within in
      let first : get_or es i p ≡ p = cc in
      let rest : drop (suc i) es ≡ ps = cc in
      (take_more es i p within ∙ ap (λ q. take i es ++ q ∷ []) first, ap (λ k. drop k es) (add-one i) ∙ rest)

  pub no_part : (n : ℕ) → i ≤ n → drop i es ≡ [] → take i es ≡ take n es
  no_part n most e =
      let none = ap length e in
      let all : length es ≤ i = omega (arith, none, length-drop i es) in
      take_all i es all ∙ sym (take_all n es (omega arith))

second_nil : {X : Type 0} (xs ys : List X) → xs ++ ys ≡ [] → ys ≡ []
second_nil [] ys e = e
second_nil (x ∷ xs) ys e = let n = ap length e in absurd (omega arith)

none_given : {X : Type 0} (o : Option X) (xs : List X) → cons_option o xs ≡ [] → o ≡ None
none_given None xs e = refl
none_given (Some x) xs e = let n = ap length e in absurd (omega arith)

-- where nothing is read of the first n, nothing is read of one of them
pub none_read : {Y : Type 0} (read : List ℕ → Option Y) (es : List (List ℕ)) (i n : ℕ) (p : List ℕ) (ps : List (List ℕ))
    → drop i es ≡ p ∷ ps → i < n → filter_map read (take n es) ≡ [] → read p ≡ None
none_read read es i n p ps left within none =
    let k : ℕ = n - i - 1 in
    let e : i + suc k ≡ n = omega arith in
    let rest : drop i (take n es) ≡ p ∷ take k ps =
    ap (λ m. drop i (take m es)) (sym e) ∙ (drop-take i (suc k) es ∙ ap (take (suc k)) left) in
    let whole : filter_map read (take n es) ≡ filter_map read (take i (take n es)) ++ filter_map read (drop i (take n es)) =
    ap (filter_map read) (sym (take-append-drop i (take n es))) ∙ filter_map-append read (take i (take n es)) (drop i (take n es)) in
    let second = second_nil (filter_map read (take i (take n es))) (filter_map read (drop i (take n es))) (sym whole ∙ none) in
    none_given (read p) (filter_map read (take k ps)) (sym (ap (filter_map read) rest) ∙ second)

-- ---- the wanted and the refused

filter_all : {X : Type 0} (p : X → Bool) (xs : List X) → ((k : ℕ) (d : X) → k < length xs → p (get_or xs k d) ≡ true) → filter p xs ≡ xs
filter_all p [] each = refl
filter_all p (x ∷ xs) each =
    ap (λ b. cond b (x ∷ filter p xs) (filter p xs)) (each 0 x (omega arith))
    ∙ ap (λ ys. x ∷ ys) (filter_all p xs (λ k d within. each (suc k) d (omega arith)))

some_weight : (n : ℕ) → 1 ≤ n → nat_lt 0 n ≡ true
some_weight n e = grind (arith, nat_tests)

no_weight : (n : ℕ) → n < 1 → nat_lt 0 n ≡ false
no_weight n e = grind (arith, nat_tests)

zero_weight : (n : ℕ) → n < 1 → (n == 0) ≡ true
zero_weight n e = grind (arith, nat_tests)

not_zero : (n : ℕ) → 1 ≤ n → (n == 0) ≡ false
not_zero n e = grind (arith, nat_tests)

module _ (ws : List Wish) (falls : AllPairs (λ u v. v.1 ≤ u.1) ws) where
  front : ℕ
  front = position_or_len (lighter 1) ws

  parted : (p : Wish → Bool) → filter p ws ≡ filter p (take front ws) ++ filter p (drop front ws)
  parted p = ap (filter p) (sym (take-append-drop front ws)) ∙ filter-append p (take front ws) (drop front ws)

  before : (k : ℕ) (d : Wish) → k < length (take front ws) → 1 ≤ (get_or (take front ws) k d).1
  unfolding front
  before k d within =
      let place = IsPlaceFor-first 1 ws falls in
      let n : length (take front ws) ≡ front = length-take-le front ws place.within in
      let e : get_or (take front ws) k d ≡ get_or ws k d = get_or-take front ws k d (omega arith) in
      omega (arith, ap (λ w. w.1) e, place.high k d (omega arith))

  behind : (k : ℕ) (d : Wish) → k < length (drop front ws) → (get_or (drop front ws) k d).1 < 1
  unfolding front
  behind k d within =
      let place = IsPlaceFor-first 1 ws falls in
      let e : get_or (drop front ws) k d ≡ get_or ws (front + k) d = get_or-drop front ws k d in
      omega (arith, ap (λ w. w.1) e, place.low (front + k) d (omega arith) (omega (arith, length-drop front ws)))

  pub wanted_are : take (position_or_len (lighter 1) ws) ws ≡ filter (λ w. nat_lt 0 w.1) ws
  unfolding front
  wanted_are =
      let p : Wish → Bool = λ w. nat_lt 0 w.1 in
      let all = filter_all p (take front ws) (λ k d within. some_weight (get_or (take front ws) k d).1 (before k d within)) in
      let none = filter_none p (drop front ws) (λ k d within. no_weight (get_or (drop front ws) k d).1 (behind k d within)) in
      sym (parted p ∙ ((λ k. all k ++ none k) ∙ append-nil (take front ws)))

  pub refused_are : drop (position_or_len (lighter 1) ws) ws ≡ filter (has_weight 0) ws
  unfolding front
  refused_are =
      let p : Wish → Bool = has_weight 0 in
      let none = filter_none p (take front ws) (λ k d within. not_zero (get_or (take front ws) k d).1 (before k d within)) in
      let all = filter_all p (drop front ws) (λ k d within. zero_weight (get_or (drop front ws) k d).1 (behind k d within)) in
      sym (parted p ∙ (λ k. none k ++ all k))

-- ---- whether some wish passes

pub any-map : {X Y : Type 0} (show : X → Y) (p : Y → Bool) (xs : List X) → list_any p (map show xs) ≡ list_any (λ x. p (show x)) xs
any-map show p [] = refl
any-map show p (x ∷ xs) = ap (λ b. p (show x) || b) (any-map show p xs)

-- ---- where there is no wish

same_itself : (n : ℕ) → (n == n) ≡ true
same_itself n = grind (arith, nat_tests)

pub no_wishes : (ws : List Wish) → AreByWeight [] ws → (length ws == 0) ≡ false → ⊥
no_wishes [] are some = false≢true (sym some)
no_wishes (w ∷ ws) are some =
    let here = ap (λ b. cond b (w ∷ filter (has_weight w.1) ws) (filter (has_weight w.1) ws)) (same_itself w.1) in
    let none = ap length (sym here ∙ are.same w.1) in omega arith
