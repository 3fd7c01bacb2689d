-- A run that stays among finitely many states has a count: so many places hold all its states, each once.
use Rattle.std.proofs.Common.{◌≡◌, ◌≢◌, ℕ, zero, suc, ◌+◌, ◌-◌, ◌<◌, ◌≤◌, ◌⊎◌, inl, inr, Bool, true, List, length, get_or, map, Option, Some, None}
use Rattle.std.proofs.Common.{option_and_then, unwrap_or, refl, sym, ap, ◌∙◌, subst, arith}
use Rattle.std.specs.List.{Contains, range_with_len, remove}
use Rattle.std.specs.Cmp.{IsEquivalence}
use Rattle.std.proofs.lemmas.Bool.{cases_Bool, cases_eq, cases_order, false≢true}
use Rattle.std.proofs.lemmas.List.{get_or_default}
use Rattle.std.proofs.lemmas.List.Edits.{length-remove, get_or-remove_below, get_or-remove_above}
use Rattle.std.proofs.lemmas.List.FromFn.{length-map-range_with_len, get_or-map-range_with_len}
use Rattle.std.proofs.lemmas.Option.{none-some, same_Some, option_and_then_some}
use Rattle.icu_locale_runs.specs.Run.{at, HasDistinct, IsUniverse}
use Rattle.icu_locale_runs.specs.inner.Walk.{IsFront, IsFullFront}

-- a state that is in a list at one place, and differs from what is at another, is there without that other
Contains-remove : {X : Type 0} (xs : List X) (k : ℕ) (x y : X) → k < length xs → get_or xs k x ≡ x → Contains xs y → y ≢ x → Contains (remove xs k) y
Contains-remove xs k x y inside here (j, within, there) differ =
    elim (cases_order j k) [
      | inl same ↦ absurd (differ (sym there ∙ (ap (λ i. get_or xs i y) same ∙ (get_or_default xs k y x inside ∙ here))))
      | inr (inl below) ↦
          (j, omega (arith, length-remove xs k inside), get_or-remove_below xs k y j below inside ∙ there)
      | inr (inr above) ↦
          let e : (j - 1) + 1 ≡ j = omega arith in
          (j - 1, omega (arith, length-remove xs k inside), get_or-remove_above xs k y (j - 1) (omega arith) inside ∙ (ap (λ i. get_or xs i y) e ∙ there))
    ]

-- n different states are only in a list of at least n
pigeonhole : {X : Type 0} (n : ℕ) (xs : List X) (f : ℕ → X) → ((i j : ℕ) → i < j → j < n → f i ≢ f j) → ((i : ℕ) → i < n → Contains xs (f i)) → n ≤ length xs
pigeonhole zero xs f apart within = omega arith
pigeonhole (suc n) xs f apart within =
    let last = within n (omega arith) in
    let rest : n ≤ length (remove xs last.0) = pigeonhole n (remove xs last.0) f (λ i j below h. apart i j below (omega arith))
    (λ i below. Contains-remove xs last.0 (f n) (f i) last.1 last.2 (within i (omega arith)) (apart i n below (omega arith))) in
    omega (arith, length-remove xs last.0 last.1, rest)

-- what an option that is not none holds
pub some_value : {X : Type 0} (o : Option X) (d : X) → o ≢ None → o ≡ Some (unwrap_or o d)
some_value None d some = absurd (some refl)
some_value (Some x) d some = refl

-- where equality of states can be decided, so can that of options
decide_option : {X : Type 0} (same : (y z : X) → (y ≡ z) ⊎ (y ≢ z)) (o u : Option X) → (o ≡ u) ⊎ (o ≢ u)
decide_option same None None = inl refl
decide_option same None (Some z) = inr (λ e. none-some z e)
decide_option same (Some y) None = inr (λ e. none-some y (sym e))
decide_option same (Some y) (Some z) =
    elim (same y z) [ inl e ↦ inl (ap Some e) | inr differ ↦ inr (λ e. differ (same_Some y z e)) ]

-- an exact test decides whether two states are the same
pub decided : {X : Type 0} (eq : X → X → Bool) → IsEquivalence eq → ((y z : X) → eq y z ≡ true → y ≡ z) → (y z : X) → (y ≡ z) ⊎ (y ≢ z)
decided eq laws exact y z =
    elim (cases_Bool (eq y z)) [
      | inl equal ↦ inl (exact y z equal)
      | inr unequal ↦ inr (λ e. false≢true (sym unequal ∙ (ap (eq y) (sym e) ∙ laws.refl y)))
    ]

module _ {X : Type 0} (next : X → Option X) (start : X) where
  -- each state of the run is in its universe
  pub stays_within : (states : List X) → IsUniverse next start states → (i : ℕ) (y : X) → at next start i ≡ Some y → Contains states y
  stays_within states universe zero y here = subst (Contains states) (same_Some start y here) universe.has_start
  stays_within states universe (suc i) y here =
      option_and_then_some next (at next start i) y here
      (λ x was follows. universe.leads x y (stays_within states universe i x was) follows)

  -- so a front is no longer than the universe
  front_within : (states : List X) → IsUniverse next start states → (n : ℕ) → IsFront next start n → n ≤ length states
  front_within states universe n front =
      let value : ℕ → X = λ i. unwrap_or (at next start i) start in
      let is : (i : ℕ) → i < n → at next start i ≡ Some (value i) = λ i below. some_value (at next start i) start (front.goes i below) in
      pigeonhole n states value
      (λ i j before below same. front.apart i j before below (is i (omega arith) ∙ (ap Some same ∙ sym (is j below))))
      (λ i below. stays_within states universe i (value i) (is i below))

  found_before : (same : (y z : X) → (y ≡ z) ⊎ (y ≢ z)) (k : ℕ) (o : Option X) → ((i : ℕ) × (i < k) × (at next start i ≡ o))
      ⊎ ((i : ℕ) → i < k → at next start i ≢ o)
  found_before same zero o = inr (λ i below e. omega arith)
  found_before same (suc k) o =
      elim (found_before same k o) [
        | inl (i, below, e) ↦ inl (i, omega arith, e)
        | inr before ↦ elim (decide_option same (at next start k) o) [
          | inl e ↦ inl (k, omega arith, e)
          | inr differ ↦ inr (λ i below e. elim (cases_eq i k) [
            | inl is ↦ differ (ap (at next start) (sym is) ∙ e)
            | inr other ↦ before i (omega arith) e
          ])
        ]
      ]

  -- a front goes on, or it has all states
  front_more : (same : (y z : X) → (y ≡ z) ⊎ (y ≢ z)) (n : ℕ) → IsFront next start n → IsFullFront next start n ⊎ IsFront next start (suc n)
  front_more same n front =
      elim (decide_option same (at next start n) None) [
        | inl ended ↦ inl (record { front = front; closes = inl ended })
        | inr goes ↦ elim (found_before same n (at next start n)) [
          | inl again ↦ inl (record { front = front; closes = inr again })
          | inr new ↦ inr (record {
            goes = λ i below e. elim (cases_eq i n) [
              | inl is ↦ goes (ap (at next start) (sym is) ∙ e)
              | inr other ↦ front.goes i (omega arith) e
            ];
            apart = λ i j before below e. elim (cases_eq j n) [
              | inl is ↦ new i (omega arith) (e ∙ ap (at next start) is)
              | inr other ↦ front.apart i j before (omega arith) e
            ];
          })
        ]
      ]

  count_or_front : (same : (y z : X) → (y ≡ z) ⊎ (y ≢ z)) (n : ℕ) → ((m : ℕ) × (m < n) × IsFullFront next start m) ⊎ IsFront next start n
  count_or_front same zero = inr (record { goes = λ i below e. omega arith; apart = λ i j before below e. omega arith })
  count_or_front same (suc n) =
      elim (count_or_front same n) [
        | inl (m, below, is) ↦ inl (m, omega arith, is)
        | inr front ↦ elim (front_more same n front) [
          | inl is ↦ inl (n, omega arith, is)
          | inr longer ↦ inr longer
        ]
      ]

  pub has_count : (same : (y z : X) → (y ≡ z) ⊎ (y ≢ z)) (states : List X) → IsUniverse next start states → (n : ℕ) × (n ≤ length states)
      × IsFullFront next start n
  has_count same states universe =
      elim (count_or_front same (suc (length states))) [
        | inl (m, below, is) ↦ (m, omega arith, is)
        | inr front ↦ absurd (omega (arith, front_within states universe (suc (length states)) front))
      ]

  -- a run that stays in a universe has a count, no larger than the universe
  pub count_of_run : (eq : X → X → Bool) → IsEquivalence eq → ((y z : X) → eq y z ≡ true → y ≡ z) → (states : List X)
      → IsUniverse next start states → (n : ℕ) × (n ≤ length states) × IsFullFront next start n
  count_of_run eq laws exact = has_count (decided eq laws exact)

  pub count_positive : (n : ℕ) → IsFullFront next start n → 0 < n
  count_positive zero is = elim is.closes [ inl e ↦ absurd (none-some start (sym e)) | inr (i, below, e) ↦ absurd (omega arith) ]
  count_positive (suc n) is = omega arith

  -- each place holds what a place below the count holds, or nothing
  early : (n : ℕ) → IsFullFront next start n → (p : ℕ) → (at next start p ≡ None) ⊎ ((i : ℕ) × (i < n) × (at next start i ≡ at next start p))
  early n is zero = inr (0, count_positive n is, refl)
  early n is (suc p) =
      elim (early n is p) [
        | inl ended ↦ inl (ap (option_and_then next) ended)
        | inr (i, below, e) ↦
            let f : at next start (suc i) ≡ at next start (suc p) = ap (option_and_then next) e in
            elim (cases_eq (suc i) n) [
              | inl full ↦ elim is.closes [
                | inl ended ↦ inl (sym f ∙ (ap (at next start) full ∙ ended))
                | inr (k, before, again) ↦ inr (k, before, again ∙ (ap (at next start) (sym full) ∙ f))
              ]
              | inr other ↦ inr (suc i, omega arith, f)
            ]
      ]

  -- the count is the number of different states
  pub HasDistinct-from_count : (n : ℕ) → IsFullFront next start n → HasDistinct next start n
  HasDistinct-from_count n is =
      let value : ℕ → X = λ i. unwrap_or (at next start i) start in
      let states : List X = map value (range_with_len 0 n) in
      let long : length states ≡ n = length-map-range_with_len value 0 n in
      let reads : (i : ℕ) (d : X) → i < n → get_or states i d ≡ value i = λ i d below. get_or-map-range_with_len value 0 n i i d below (omega arith) in
      let holds : (i : ℕ) → i < n → at next start i ≡ Some (value i) = λ i below. some_value (at next start i) start (is.front.goes i below) in (
        states,
        record {
          each = λ y stands. elim (early n is stands.0) [
            | inl ended ↦ absurd (none-some y (sym ended ∙ stands.1))
            | inr (i, below, e) ↦ (i, omega (arith, long), reads i y below ∙ ap (λ o. unwrap_or o start) (e ∙ stands.1))
          ];
          no_other = λ y (k, below, there). (k, holds k (omega (arith, long)) ∙ ap Some (sym (reads k y (omega (arith, long))) ∙ there));
          once = λ i j d before below e.
              let within : j < n = omega (arith, long) in
              is.front.apart i j before within (holds i (omega arith) ∙ (ap Some (sym (reads i d (omega arith)) ∙ (e ∙ reads j d within))
              ∙ sym (holds j within)));
        },
        long,
      )

  -- a run that stays in a universe has so many different states, no more than the universe
  pub HasDistinct-universe : (same : (y z : X) → (y ≡ z) ⊎ (y ≢ z)) (states : List X) → IsUniverse next start states
      → (n : ℕ) × (n ≤ length states) × HasDistinct next start n
  HasDistinct-universe same states universe =
      let counted = has_count same states universe in
      (counted.0, counted.1, HasDistinct-from_count counted.0 counted.2)
