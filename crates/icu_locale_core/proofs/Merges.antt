-- Rising lists walked side by side.
use Rattle.std.proofs.Common.{◌≡◌, ℕ, ◌+◌, ◌<◌, ◌≤◌, Bool, true, false, ◌||◌, ◌&&◌, not, take, cond, List, [], ◌∷◌, ◌++◌, length, get_or, nat_eq}
use Rattle.std.proofs.Common.{zero, suc, Some, None, inl, inr, refl, ap, sym, subst, ◌∙◌, arith}
use Rattle.std.specs.List.{AllByRecursion, Contains, filter}
use Rattle.std.proofs.lemmas.List.{take_more}
use Rattle.std.proofs.lemmas.List.Kept.{IsStrictlySortedBy-filter}
use Rattle.std.specs.List.Sorted.{IsStrictlySortedBy}
use Rattle.std.specs.Cmp.Lexicographic.{pointwise}
use Rattle.std.specs.Ordering.{eq_by_cmp, is_eq, is_lt, ordering_reverse}
use Rattle.std.specs.declared.cmp.Ordering.{Ordering}
use Rattle.std.specs.declared.cmp.Ordering.TheVariants.{Less, Equal, Greater}
use Rattle.std.proofs.lemmas.Bool.{false≢true, or_cases, or_left, or_right, or_parts}
use Rattle.std.proofs.lemmas.Cmp.{tied_itself}
use Rattle.std.proofs.lemmas.List.Elements.{All-from_recursion, recursion_from_All, All-weaker, All-contains_itself, filter-append}
use Rattle.std.proofs.lemmas.Map.Keys.{Less-from_sorted}
use Rattle.std.proofs.lemmas.Option.{same_Some, none-some}
use Rattle.std.proofs.lemmas.Slice.Eq.{bytes_eq-Decides}
use Rattle.icu_locale_core.specs.TextSet.{text_cmp, TextSet, empty, contains, from_list, rising, difference, union}
use Rattle.icu_locale_core.specs.inner.Variants.{HasAllAbove, least, behind}
use Rattle.icu_locale_core.specs.laws.TextSets.{text_total, text_same, same_from_tied, same_set, is_among, is_among-append, is_among-Contains}
use Rattle.icu_locale_core.specs.laws.TextSets.{contains-from_list, contains-rising, contains-empty, contains-difference, contains-union}
use Rattle.icu_locale_core.specs.laws.TextSets.{length-rising_empty}
use Rattle.icu_locale_core.proofs.TextSets.{rising_rises}
use Rattle.icu_locale_core.specs.laws.RisingLists.{rising-from_list}

flipped : (s t : List ℕ) (o : Ordering) → text_cmp s t ≡ o → text_cmp t s ≡ ordering_reverse o
flipped s t o e = text_total.antisymm t s ∙ ap ordering_reverse e

-- a text above the first is among the rest or nowhere
pub past_lower : (q u : List ℕ) (us : List (List ℕ)) → text_cmp u q ≡ Less → is_among q (u ∷ us) ≡ is_among q us
past_lower q u us e = ap (λ o. is_eq o || is_among q us) (flipped u q Less e)

-- a text below all is nowhere
pub nowhere : (q : List ℕ) (us : List (List ℕ)) → AllByRecursion (λ u. text_cmp q u ≡ Less) us → is_among q us ≡ false
nowhere q [] below = refl
nowhere q (u ∷ us) below = ap (λ o. is_eq o || is_among q us) below.0 ∙ nowhere q us below.1

above_all : (t u : List ℕ) (us : List (List ℕ)) → text_cmp t u ≡ Less → AllByRecursion (λ v. text_cmp u v ≡ Less) us
    → AllByRecursion (λ v. text_cmp t v ≡ Less) us
above_all t u us e rise = recursion_from_All _ _ (All-weaker (λ v. text_cmp u v ≡ Less) (λ v. text_cmp t v ≡ Less)
    (λ v. text_total.trans t u v e) us (All-from_recursion _ _ rise))

module _ (t u : List ℕ) (us : List (List ℕ)) (rise : IsStrictlySortedBy text_cmp (u ∷ us)) where
  pub rest_rises : IsStrictlySortedBy text_cmp us
  unfolding IsStrictlySortedBy
  rest_rises = rise.1

  pub rest_above : AllByRecursion (λ v. text_cmp u v ≡ Less) us
  unfolding IsStrictlySortedBy
  rest_above = rise.0

  -- t is not in a list whose first text is above it
  pub nowhere_below : text_cmp u t ≡ Greater → is_among t (u ∷ us) ≡ false
  nowhere_below e = nowhere t (u ∷ us) (flipped u t Greater e, above_all t u us (flipped u t Greater e) rest_above)

  pub here : text_cmp u t ≡ Equal → is_among t (u ∷ us) ≡ true
  here e = ap (λ o. is_eq o || is_among t us) (flipped u t Equal e)

  -- what is above t is in the rest, where the first is not above t
  pub later_less : text_cmp u t ≡ Less → HasAllAbove t (u ∷ us) us
  later_less e q above = past_lower q u us (text_total.trans u t q e above)

  pub later_equal : text_cmp u t ≡ Equal → HasAllAbove t (u ∷ us) us
  later_equal e q above = past_lower q u us (text_total.congr u t q e ∙ above)

-- ---- two lists, the first by its places

-- of the texts from a place on, the set has those that the list has
abbrev pub AnswersFrom : TextSet → List (List ℕ) → List (List ℕ) → ℕ → Type 0
AnswersFrom s rest ts place = (k : ℕ) → place ≤ k → k < length ts → contains s (get_or ts k []) ≡ is_among (get_or ts k []) rest

in_range : (ts : List (List ℕ)) (k : ℕ) (d : List ℕ) → k < length ts → get_or ts k d ≡ get_or ts k []
in_range [] k d within = absurd (omega arith)
in_range (t ∷ ts) zero d within = refl
in_range (t ∷ ts) (suc k) d within = in_range ts k d (omega arith)

module _ (s : TextSet) (ts : List (List ℕ)) (rise : IsStrictlySortedBy text_cmp ts) (place : ℕ) (t : List ℕ) (rest : List (List ℕ))
    (within : place < length ts) (is : t ≡ get_or ts place t) where
  t_is : t ≡ get_or ts place []
  t_is = is ∙ in_range ts place t within

  pub answers-here : AnswersFrom s rest ts place → contains s t ≡ is_among t rest
  answers-here agree = subst (λ q. contains s q ≡ is_among q rest) (sym t_is) (agree place (omega arith) within)

  pub answers-next : (later : List (List ℕ)) → AnswersFrom s rest ts place → HasAllAbove t rest later → AnswersFrom s later ts (place + 1)
  answers-next later agree above k low high =
      agree k (omega arith) high ∙ above (get_or ts k []) (subst (λ q. text_cmp q (get_or ts k []) ≡ Less) (sym t_is)
      (Less-from_sorted text_cmp ts place k [] rise (omega arith) high))

-- a filter of one element more
pub filter_more : (p : List ℕ → Bool) (ts : List (List ℕ)) (place : ℕ) (t : List ℕ) (b : Bool) → place < length ts → t ≡ get_or ts place t
    → p t ≡ b → filter p (take (place + 1) ts) ≡ filter p (take place ts) ++ cond b (t ∷ []) []
filter_more p ts place t b within is test =
    ap (filter p) (take_more ts place t within)
    ∙ filter-append p (take place ts) (get_or ts place t ∷ [])
    ∙ ap (λ u. filter p (take place ts) ++ filter p (u ∷ [])) (sym is)
    ∙ ap (λ c. filter p (take place ts) ++ cond c (t ∷ []) []) test

-- what is left of a set is a list of it
pub rising-difference : (s r : TextSet) → rising (difference s r) ≡ filter (λ t. not (contains r t)) (rising s)
rising-difference s r = rising-from_list _ (IsStrictlySortedBy-filter text_cmp (λ t. not (contains r t)) (rising s) (rising_rises s))

-- a text of s that r does not have is left
pub some_left : (s r : TextSet) (t : List ℕ) → contains s t ≡ true → contains r t ≡ false → difference s r ≡ empty → ⊥
some_left s r t here off none =
    false≢true
    (sym (contains-empty t) ∙ ap (λ u. contains u t) (sym none) ∙ contains-difference s r t ∙ (λ i. not (off i) && here i))

-- ---- two rising lists merged

-- no text of a rising list is below t
abbrev IsFloor : List ℕ → List (List ℕ) → Type 0
IsFloor t [] = Unit {0}
IsFloor t (u ∷ us) = is_lt (text_cmp u t) ≡ false

not_below_itself : (t : List ℕ) → is_lt (text_cmp t t) ≡ false
not_below_itself t = ap is_lt (tied_itself text_total t)

among_first : (t : List ℕ) (ts : List (List ℕ)) → is_among t (t ∷ ts) ≡ true
among_first t ts = or_left (eq_by_cmp text_cmp t t) (is_among t ts) (ap is_eq (tied_itself text_total t))

-- the least of two lists is below no text of them, and is one of them
record IsLeast (t : List ℕ) (left right : List (List ℕ)) : Type 0 where
  left_floor : IsFloor t left
  right_floor : IsFloor t right
  one_of : (is_among t left || is_among t right) ≡ true

least-is : (t : List ℕ) (left right : List (List ℕ)) → least left right ≡ Some t → IsLeast t left right
least-is t [] [] e = absurd (none-some t e)
least-is t (a ∷ later) [] e =
    let same = same_Some a t e in
    subst (λ u. IsLeast u (a ∷ later) []) same (record { left_floor = not_below_itself a; right_floor = tt; one_of = or_left _ _ (among_first a later) })
least-is t [] (b ∷ bs) e =
    let same = same_Some b t e in
    subst (λ u. IsLeast u [] (b ∷ bs)) same (record {
      left_floor = tt;
      right_floor = not_below_itself b;
      one_of = or_right (is_among b []) _ (among_first b bs);
    })
least-is t (a ∷ later) (b ∷ bs) e = by (is_lt (text_cmp b a)) refl e
  where
    flip_less : (o : Ordering) → is_lt o ≡ true → is_lt (ordering_reverse o) ≡ false
    flip_less Less h = refl
    flip_less Equal h = refl
    flip_less Greater h = absurd (false≢true h)

    by : (test : Bool) → is_lt (text_cmp b a) ≡ test → (cond test (Some b) (Some a)) ≡ Some t → IsLeast t (a ∷ later) (b ∷ bs)
    by true below is =
        subst (λ u. IsLeast u (a ∷ later) (b ∷ bs)) (same_Some b t is) (record {
          left_floor = ap is_lt (text_total.antisymm a b) ∙ flip_less (text_cmp b a) below;
          right_floor = not_below_itself b;
          one_of = or_right (is_among b (a ∷ later)) _ (among_first b bs);
        })
    by false below is =
        subst (λ u. IsLeast u (a ∷ later) (b ∷ bs)) (same_Some a t is) (record {
          left_floor = not_below_itself a;
          right_floor = below;
          one_of = or_left _ _ (among_first a later);
        })

-- after t a rising list keeps what is above t
record Follows (t : List ℕ) (us : List (List ℕ)) : Type 0 where
  rises : IsStrictlySortedBy text_cmp (behind t us)
  above : (q : List ℕ) → is_among q (behind t us) ≡ true → text_cmp t q ≡ Less
  same : (q : List ℕ) → (eq_by_cmp text_cmp q t || is_among q (behind t us)) ≡ (eq_by_cmp text_cmp q t || is_among q us)

above_among : (u q : List ℕ) (us : List (List ℕ)) → AllByRecursion (λ v. text_cmp u v ≡ Less) us → is_among q us ≡ true → text_cmp u q ≡ Less
above_among u q [] above here = absurd (false≢true here)
above_among u q (v ∷ vs) above here =
    elim (or_cases (eq_by_cmp text_cmp q v) (is_among q vs) here) [
      | inl tied ↦ subst (λ w. text_cmp u w ≡ Less) (sym (same_from_tied q v tied)) above.0
      | inr later ↦ above_among u q vs above.1 later
    ]

or_twice : (a b : Bool) → (a || b) ≡ (a || (a || b))
or_twice true b = refl
or_twice false b = refl

less_from : (t u : List ℕ) (o : Ordering) → text_cmp u t ≡ o → is_lt o ≡ false → pointwise nat_eq t u ≡ false → text_cmp t u ≡ Less
less_from t u Less e floor apart = absurd (false≢true (sym floor))
less_from t u Equal e floor apart = absurd (false≢true (sym apart ∙ (bytes_eq-Decides t u).1 (sym (text_same u t e))))
less_from t u Greater e floor apart = flipped u t Greater e

follows : (t : List ℕ) (us : List (List ℕ)) → IsStrictlySortedBy text_cmp us → IsFloor t us → Follows t us
follows t [] rise floor = record { rises = rise; above = λ q here. absurd (false≢true here); same = λ q. refl }
follows t (u ∷ us) rise floor = by (pointwise nat_eq t u) refl
  where
    by : (test : Bool) → pointwise nat_eq t u ≡ test → Follows t (u ∷ us)
    by true e =
        let is : behind t (u ∷ us) ≡ us = ap (λ b. cond b us (u ∷ us)) e in
        let same : t ≡ u = (bytes_eq-Decides t u).0 e in
        record {
          rises = subst (IsStrictlySortedBy text_cmp) (sym is) (rest_rises t u us rise);
          above = λ q here. subst (λ w. text_cmp w q ≡ Less) (sym same) (above_among u q us (rest_above t u us rise) (sym (ap (is_among q) is) ∙ here));
          same = λ q. ap (λ ts. eq_by_cmp text_cmp q t || is_among q ts) is ∙ or_twice (eq_by_cmp text_cmp q t) (is_among q us)
              ∙ ap (λ w. eq_by_cmp text_cmp q t || (eq_by_cmp text_cmp q w || is_among q us)) same;
        }
    by false e =
        let is : behind t (u ∷ us) ≡ u ∷ us = ap (λ b. cond b us (u ∷ us)) e in
        let less = less_from t u (text_cmp u t) refl floor e in
        record {
          rises = subst (IsStrictlySortedBy text_cmp) (sym is) rise;
          above = λ q here. above_among t q (u ∷ us) (less, above_all t u us less (rest_above t u us rise)) (sym (ap (is_among q) is) ∙ here);
          same = λ q. ap (λ ts. eq_by_cmp text_cmp q t || is_among q ts) is;
        }

or_both : (a b c : Bool) → (a || (b || c)) ≡ ((a || b) || (a || c))
or_both true b c = refl
or_both false b c = refl

or_inside : (a b : Bool) → (a ≡ true → b ≡ true) → (a || b) ≡ b
or_inside true b inside = sym (inside refl)
or_inside false b inside = refl

module _ (t : List ℕ) (left right : List (List ℕ)) (left_rises : IsStrictlySortedBy text_cmp left)
    (right_rises : IsStrictlySortedBy text_cmp right) (e : least left right ≡ Some t) where
  is_least : IsLeast t left right
  is_least = least-is t left right e

  of_left : Follows t left
  of_left = follows t left left_rises is_least.left_floor

  of_right : Follows t right
  of_right = follows t right right_rises is_least.right_floor

  pub left_follows : IsStrictlySortedBy text_cmp (behind t left)
  left_follows = of_left.rises

  pub right_follows : IsStrictlySortedBy text_cmp (behind t right)
  right_follows = of_right.rises

  abbrev left_over : TextSet
  left_over = from_list (behind t left ++ behind t right)

  above_t : (q : List ℕ) → Contains (rising left_over) q → text_cmp t q ≡ Less
  above_t q here =
      let there : (is_among q (behind t left) || is_among q (behind t right)) ≡ true =
      sym (contains-from_list (behind t left ++ behind t right) q ∙ is_among-append q (behind t left) (behind t right))
      ∙ contains-rising left_over q ∙ is_among-Contains q (rising left_over) here in
      elim (or_cases (is_among q (behind t left)) (is_among q (behind t right)) there)
      [ inl in_left ↦ of_left.above q in_left | inr in_right ↦ of_right.above q in_right ]

  in_order : IsStrictlySortedBy text_cmp (t ∷ rising left_over)
  unfolding IsStrictlySortedBy
  in_order = (
    recursion_from_All _ _ (All-weaker (Contains (rising left_over)) (λ q. text_cmp t q ≡ Less) above_t (rising left_over)
        (All-contains_itself (rising left_over))),
    rising_rises left_over,
  )

  same_members : (q : List ℕ) → contains (from_list (t ∷ rising left_over)) q ≡ contains (from_list (left ++ right)) q
  same_members q =
      let tied = eq_by_cmp text_cmp q t in
      contains-from_list (t ∷ rising left_over) q
      ∙ ap (λ b. tied || b) (sym (contains-rising left_over q) ∙ contains-from_list (behind t left ++ behind t right) q
      ∙ is_among-append q (behind t left) (behind t right))
      ∙ or_both tied (is_among q (behind t left)) (is_among q (behind t right))
      ∙ (λ i. of_left.same q i || of_right.same q i)
      ∙ sym (or_both tied (is_among q left) (is_among q right))
      ∙ or_inside tied (is_among q left || is_among q right) (λ h. subst (λ w. (is_among w left || is_among w right) ≡ true)
      (sym (same_from_tied q t h)) is_least.one_of)
      ∙ sym (contains-from_list (left ++ right) q ∙ is_among-append q left right)

  -- the least text, and then what is left in order, is all in order
  pub least-first : rising (from_list (left ++ right)) ≡ t ∷ rising (from_list (behind t left ++ behind t right))
  least-first = sym (ap rising (same_set _ _ same_members)) ∙ rising-from_list (t ∷ rising left_over) in_order

rising-empty : rising empty ≡ []
rising-empty = by (rising empty) length-rising_empty
  where
    by : (ts : List (List ℕ)) → length ts ≡ 0 → ts ≡ []
    by [] none = refl
    by (t ∷ ts) none = absurd (omega arith)

-- where there is no least text, nothing is left
pub nothing-left : (left right : List (List ℕ)) → least left right ≡ None → rising (from_list (left ++ right)) ≡ []
nothing-left [] [] e = rising-empty
nothing-left (a ∷ later) [] e = absurd (none-some a (sym e))
nothing-left [] (b ∷ bs) e = absurd (none-some b (sym e))
nothing-left (a ∷ later) (b ∷ bs) e = by (is_lt (text_cmp b a)) e
  where
    by : (test : Bool) → (cond test (Some b) (Some a)) ≡ None → rising (from_list (a ∷ (later ++ b ∷ bs))) ≡ []
    by true is = absurd (none-some b (sym is))
    by false is = absurd (none-some a (sym is))

-- where there is one, the set has a text
pub some_text : (whole : TextSet) (front back : List (List ℕ)) (t : List ℕ) → rising whole ≡ front ++ t ∷ back → whole ≡ empty → ⊥
some_text whole front back t is none =
    let nothing : [] ≡ front ++ t ∷ back = sym (ap rising none ∙ rising-empty) ∙ is in
    by front nothing
  where
    by : (front : List (List ℕ)) → [] ≡ front ++ t ∷ back → ⊥
    by [] e = absurd (cc)
    by (u ∷ us) e = absurd (cc)

-- a union without members has no part with members
pub none_united : (s u : TextSet) → union s u ≡ empty → s ≡ empty
none_united s u none =
    same_set s empty (λ q.
    (or_parts (contains s q) (contains u q) (sym (contains-union s u q) ∙ ap (λ set. contains set q) none ∙ contains-empty q)).0
    ∙ sym (contains-empty q))
