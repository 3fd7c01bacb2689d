-- Places of a run that hold the same state.
use Rattle.std.proofs.Common.{◌≡◌, ℕ, zero, suc, ◌+◌, ◌-◌, ◌*◌, ◌/◌, ◌%◌, ◌<◌, ◌≤◌, Option, Some, None, option_and_then, sym, ap, ◌∙◌, arith, add-zero, add-suc}
use Rattle.std.proofs.Math.Nat.{mul-le-mul_right}
use Rattle.icu_locale_runs.specs.Run.{at}

-- a number that is at least another is that and some more
pub at_same_number : {X : Type 0} (next : X → Option X) (start : X) (i j : ℕ) → i ≡ j → at next start i ≡ at next start j
at_same_number next start i j same = ap (at next start) same

module _ {X : Type 0} (next : X → Option X) (start : X) where
  -- what is at two places is followed by the same
  pub onward : (i j d : ℕ) → at next start i ≡ at next start j → at next start (i + d) ≡ at next start (j + d)
  onward i j zero same = rw (add-zero i, add-zero j) same
  onward i j (suc d) same = rw (add-suc i d, add-suc j d) (ap (option_and_then next) (onward i j d same))

  -- past the end there is nothing
  pub none_onward : (i d : ℕ) → at next start i ≡ None → at next start (i + d) ≡ None
  none_onward i zero ended = rw (add-zero i) ended
  none_onward i (suc d) ended = rw (add-suc i d) (ap (option_and_then next) (none_onward i d ended))

  pub none_after : (i j : ℕ) → i ≤ j → at next start i ≡ None → at next start j ≡ None
  none_after i j within ended =
      let e : i + (j - i) ≡ j = omega arith in
      at_same_number next start j (i + (j - i)) (sym e) ∙ none_onward i (j - i) ended

  -- from a place that holds the same p places on, any number of times p places on holds the same
  around : (i p q : ℕ) → at next start i ≡ at next start (i + p) → at next start i ≡ at next start (i + p * q)
  around i p zero same = at_same_number next start i (i + p * 0) (omega arith)
  around i p (suc q) same =
      let e : (i + p) + p * q ≡ i + p * suc q = omega arith in
      around i p q same ∙ (onward i (i + p) (p * q) same ∙ at_same_number next start _ _ e)

  -- and so does each later place
  pub around_from : (i p k q : ℕ) → i ≤ k → at next start i ≡ at next start (i + p) → at next start k ≡ at next start (k + p * q)
  around_from i p k q within same =
      let e : i + (k - i) ≡ k = omega arith in
      let f : (i + p) + (k - i) ≡ k + p = omega arith in
      around k p q
      (at_same_number next start _ _ (sym e) ∙ (onward i (i + p) (k - i) same ∙ at_same_number next start _ _ f))

  -- a place past a cycle's start holds what a place of the cycle holds
  pub in_cycle : (i n b : ℕ) → i < n → at next start i ≡ at next start n → i ≤ b → (j : ℕ) × (i ≤ j) × (j < n) × (at next start j ≡ at next start b)
  in_cycle i n b before same within =
      let p : ℕ = n - i in
      let q : ℕ = (b - i) / p in
      let r : ℕ = (b - i) % p in
      let pos : 0 < p = omega arith in
      let e : i + p ≡ n = omega arith in
      let split : i + r + p * q ≡ b = omega arith in
      let small : r < p = omega arith in (
        i + r,
        omega arith,
        omega arith,
        around_from i p (i + r) q (omega arith) (same ∙ at_same_number next start _ _ (sym e))
            ∙ at_same_number next start _ _ split,
      )

  -- where a state comes again at place n, by then the two walkers have stood on the same state
  pub meets_before : (i n : ℕ) → i < n → at next start i ≡ at next start n → (k : ℕ) × (0 < k) × (k ≤ n) × (at next start k ≡ at next start (k + k))
  meets_before i n before same =
      let p : ℕ = n - i in
      let q : ℕ = i / p in
      let pos : 0 < p = omega arith in
      let e : i + p ≡ n = omega arith in
      let low : p * q ≤ i = omega arith in
      let high : i < p * q + p = omega arith in
      let k : ℕ = p * suc q in
      let k_is : k ≡ p * q + p = omega arith in
      (k, omega arith, omega arith, around_from i p k (suc q) (omega arith) (same ∙ at_same_number next start _ _ (sym e)))

  -- after a meeting at place m, what comes again at all comes again m places on
  pub meets_again : (i j m : ℕ) → i < j → at next start i ≡ at next start j → 0 < m → at next start m ≡ at next start (m + m)
      → at next start i ≡ at next start (i + m)
  meets_again i j m before same started met =
      let p : ℕ = j - i in
      let pos : 1 ≤ p = omega arith in
      let e : i + p ≡ j = omega arith in
      let cycle : at next start i ≡ at next start (i + p) = same ∙ at_same_number next start _ _ (sym e) in
      let far : m ≤ p * m = omega (arith, mul-le-mul_right m pos) in
      let f : (i + p * m) + m * 1 ≡ (i + m) + p * m = omega arith in
      around_from i p i m (omega arith) cycle
      ∙ (around_from m m (i + p * m) 1 (omega arith) met
      ∙ (at_same_number next start _ _ f ∙ sym (around_from i p (i + m) m (omega arith) cycle)))

  -- a run on which the walkers meet has no end
  pub never_none : (m place : ℕ) (z : X) → 0 < m → at next start m ≡ Some z → at next start m ≡ at next start (m + m) → at next start place ≡ None → ⊥
  never_none m place z started here met ended =
      let far : place ≤ m * place = omega (arith, mul-le-mul_right place started) in
      let none : at next start (m + m * place) ≡ None = none_after place (m + m * place) (omega arith) ended in
      let same = around_from m m m place (omega arith) met in
      cc
