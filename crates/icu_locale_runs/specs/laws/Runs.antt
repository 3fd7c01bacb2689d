-- Ends and repeats: a run has one end or one first repeat, and not both.
use Rattle.std.proofs.Common.{◌≡◌, ◌≢◌, ◌⊎◌, List, length, ℕ, zero, suc, ◌+◌, ◌-◌, ◌*◌, ◌<◌, ◌≤◌, inl, inr, Option, Some, None, option_and_then, unwrap_or, sym, ap, ◌∙◌}
use Rattle.std.proofs.Common.{arith, add-zero, add-suc}
use Rattle.std.proofs.Math.Nat.{mul-le-mul_right}
use Rattle.std.proofs.lemmas.Bool.{cases_lt, cases_order}
use Rattle.std.proofs.lemmas.Option.{none-some, same_Some}
use Rattle.icu_locale_runs.specs.Run.{at, EndsAt, ComesAgain, IsRepeat, HasOneEnd, HasOneRepeat, KeepsEnd, EndsOrRepeats, EndsWithNoRepeat, IsUniverse}
use Rattle.icu_locale_runs.specs.inner.Walk.{IsFullFront}
use Rattle.icu_locale_runs.specs.laws.Places.{none_after, around_from, in_cycle}
use Rattle.icu_locale_runs.specs.laws.Counts.{some_value, count_positive, has_count}

module _ {X : Type 0} (next : X → Option X) (start : X) where
  -- past the place of an end there is nothing
  none_past_end : (y : X) (ends : EndsAt next start y) (i : ℕ) → ends.stands.0 < i → at next start i ≡ None
  none_past_end y ends i past =
      none_after next start (suc ends.stands.0) i (omega arith) (ap (option_and_then next) ends.stands.1 ∙ ends.last)

  -- a run has one end at most
  pub end_is_unique : HasOneEnd next start
  end_is_unique y z a b =
      elim (cases_order a.stands.0 b.stands.0) [
        | inl same ↦ same_Some y z (sym a.stands.1 ∙ (ap (at next start) same ∙ b.stands.1))
        | inr (inl before) ↦ absurd (none-some z (sym (none_past_end y a b.stands.0 before) ∙ b.stands.1))
        | inr (inr after) ↦ absurd (none-some y (sym (none_past_end z b a.stands.0 after) ∙ a.stands.1))
      ]

  -- a run has one first repeat at most
  pub repeat_is_unique : HasOneRepeat next start
  repeat_is_unique y z a b =
      elim (cases_order a.place b.place) [
        | inl same ↦ same_Some y z (sym a.here ∙ (ap (at next start) same ∙ b.here))
        | inr (inl before) ↦ absurd (b.first a.place y before a.here a.again)
        | inr (inr after) ↦ absurd (a.first b.place z after b.here b.again)
      ]

  -- a run that ends has no state twice
  pub ends_with_no_repeat : EndsWithNoRepeat next start
  ends_with_no_repeat y z ends (i, j, before, here, there) =
      let p : ℕ = j - i in
      let e : j ≡ i + p = omega arith in
      let steps : ℕ = suc ends.stands.0 in
      let far : steps ≤ p * steps = omega (arith, mul-le-mul_right {m = 1} {n = p} steps (omega arith)) in
      let cycle : at next start i ≡ at next start (i + p) = here ∙ (sym there ∙ ap (at next start) e) in
      let round = around_from next start i p i steps (omega arith) cycle in
      let none = none_past_end y ends (i + p * steps) (omega arith) in
      none-some z (sym none ∙ (sym round ∙ here))

  -- the run from a state on the way is the rest of the run
  pub at_rest : (i : ℕ) (y : X) → at next start i ≡ Some y → (d : ℕ) → at next y d ≡ at next start (i + d)
  at_rest i y here zero = sym here ∙ ap (at next start) (sym (add-zero i))
  at_rest i y here (suc d) =
      ap (option_and_then next) (at_rest i y here d) ∙ ap (at next start) (sym (add-suc i d))

  -- nothing follows an end, and each state on the way has the same end
  pub end_is_kept : KeepsEnd next start
  end_is_kept z ends = (
    ends.last,
    λ y (i, here). elim (cases_lt ends.stands.0 i) [
      | inl past ↦ absurd (none-some y (sym (none_past_end z ends i past) ∙ here))
      | inr within ↦
          let e : i + (ends.stands.0 - i) ≡ ends.stands.0 = omega arith in
          record {
            stands = (ends.stands.0 - i, at_rest i y here (ends.stands.0 - i) ∙ (ap (at next start) e ∙ ends.stands.1));
            last = ends.last;
          }
    ],
  )

  -- a state that comes again is the first repeat where no state before it comes again
  pub IsRepeat-from_pairs : (k : ℕ) (z : X) → at next start k ≡ Some z → ComesAgain next start z
      → ((a b : ℕ) → a < b → at next start a ≡ at next start b → k ≤ a) → IsRepeat next start z
  IsRepeat-from_pairs k z here again least =
      record {
        place = k;
        here = here;
        again = again;
        first = λ i y below stands (a, b, before, one, two).
            elim (cases_lt i b) [
              | inl earlier ↦ omega (arith, least i b earlier (stands ∙ sym two))
              | inr later ↦ omega (arith, least a i (omega arith) (one ∙ sym stands))
            ];
      }

  -- the place to which a count closes is the first whose state comes again
  least_pair : (n i : ℕ) → IsFullFront next start n → i < n → at next start i ≡ at next start n → (a b : ℕ) → a < b → at next start a ≡ at next start b → i ≤ a
  least_pair n i is below closes a b before same =
      elim (cases_lt a i) [
        | inl early ↦ elim (cases_lt b n) [
          | inl within ↦ absurd (is.front.apart a b before within same)
          | inr past ↦
              let in_it = in_cycle next start i n b below closes (omega arith) in
              absurd (is.front.apart a in_it.0 (omega arith) in_it.2 (same ∙ sym in_it.3))
        ]
        | inr late ↦ late
      ]

  -- a run with a count ends, or it has a first repeat
  pub EndsOrRepeats-from_count : (n : ℕ) → IsFullFront next start n → EndsOrRepeats next start
  EndsOrRepeats-from_count n is =
      elim is.closes [
        | inl ended ↦
            let last : ℕ = n - 1 in
            let positive = count_positive next start n is in
            let e : suc last ≡ n = omega arith in
            let y : X = unwrap_or (at next start last) start in
            let here = some_value (at next start last) start (is.front.goes last (omega arith)) in
            inl (
              y,
              record {
                stands = (last, here);
                last = sym (ap (option_and_then next) here) ∙ (ap (at next start) e ∙ ended);
              },
            )
        | inr (i, below, closes) ↦
            let z : X = unwrap_or (at next start i) start in
            let here = some_value (at next start i) start (is.front.goes i below) in
            inr (z, IsRepeat-from_pairs i z here (i, n, below, here, sym closes ∙ here) (least_pair n i is below closes))
      ]

  -- so does a run that stays in a universe
  pub EndsOrRepeats-universe : (same : (y z : X) → (y ≡ z) ⊎ (y ≢ z)) (states : List X) → IsUniverse next start states → EndsOrRepeats next start
  EndsOrRepeats-universe same states universe =
      let counted = has_count next start same states universe in
      EndsOrRepeats-from_count counted.0 counted.2

  -- a run that ends has fewer places than its universe has members
  pub place_in_universe : (same : (y z : X) → (y ≡ z) ⊎ (y ≢ z)) (states : List X) → IsUniverse next start states
      → (y z : X) → EndsAt next start y → (i : ℕ) → at next start i ≡ Some z → i < length states
  place_in_universe same states universe y z ends i here =
      let counted = has_count next start same states universe in
      elim counted.2.closes [
        | inl none ↦ elim (cases_lt i counted.0) [
          | inl early ↦ omega (arith, early, counted.1)
          | inr late ↦ absurd (none-some z (sym (none_after next start counted.0 i late none) ∙ here))
        ]
        | inr (k, before, again) ↦
            let there = some_value (at next start k) start (counted.2.front.goes k before) in
            absurd (ends_with_no_repeat y _ ends (k, counted.0, before, there, sym again ∙ there))
      ]
