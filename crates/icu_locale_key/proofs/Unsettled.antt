-- Keys of which none stays: why is told in one way, and not of keys of which one does.
use Rattle.std.proofs.Common.{◌≡◌, ◌⊎◌, ℕ, zero, suc, ◌+◌, ◌-◌, ◌*◌, ◌<◌, ◌≤◌, Some, Err, Result, option_and_then, ap, sym, ◌∙◌, subst, inl, inr, arith}
use Rattle.std.proofs.Math.Nat.{mul-le-mul_right}
use Rattle.std.proofs.lemmas.Bool.{cases_order}
use Rattle.std.proofs.lemmas.Option.{same_Some}
use Rattle.icu_locale_core.specs.declared.langid.LanguageIdentifier.{LanguageIdentifier}
use Rattle.icu_locale_runs.specs.Run.{at, EndsAt, ComesAgain, IsRepeat}
use Rattle.icu_locale_runs.specs.laws.Places.{around_from}
use Rattle.icu_locale_runs.specs.laws.Runs.{ends_with_no_repeat, repeat_is_unique}
use Rattle.icu_locale.specs.Kinds.{next}
use Rattle.icu_locale.specs.LikelySubtags.{LikelySubtags}
use Rattle.icu_locale.specs.Minimal.{IsMinimalForm}
use Rattle.icu_locale.specs.Refusals.{IsMemory}
use Rattle.icu_locale.specs.declared.canonicalizer.CanonicalizeError.{CanonicalizeError}
use Rattle.icu_locale.specs.declared.canonicalizer.CanonicalizeError.TheVariants.{Memory, NoFixedPoint, NoSubdivisionFixedPoint}
use Rattle.icu_locale.specs.declared.canonicalizer.rules.Rules.{Rules}
use Rattle.icu_locale.specs.declared.expander.Favor.TheVariants.{RegionFirst}
use Rattle.icu_locale_key.specs.Keys.{IsKey}
use Rattle.icu_locale_key.specs.Stable.{Leads, IsStuck, ComesRound, IsStableKeyRefusal}
use Rattle.icu_locale_key.specs.inner.KeyRun.{key_step}
use Rattle.icu_locale_key.proofs.KeyRuns.{step_stuck, ends_not_stuck, leads_at}

module _ (likely : LikelySubtags) (rules : Rules) (form : (c : LanguageIdentifier) → (k : LanguageIdentifier) × IsMinimalForm RegionFirst likely c k)
    (x : LanguageIdentifier) where
  abbrev is_at : (n : ℕ) (y : LanguageIdentifier) → Leads RegionFirst likely rules n x y → at (key_step likely rules) x n ≡ Some y
  is_at = leads_at likely rules form x

  -- an identifier that has no key stands at each later place
  stays_put : (w z : LanguageIdentifier) → IsRepeat (next likely rules) w z → (n : ℕ) → at (key_step likely rules) x n ≡ Some w
      → (d : ℕ) → at (key_step likely rules) x (n + d) ≡ Some w
  stays_put w z none n here zero =
      let e : n + 0 ≡ n = omega arith in
      ap (at (key_step likely rules) x) e ∙ here
  stays_put w z none n here (suc d) =
      let e : n + suc d ≡ suc (n + d) = omega arith in
      ap (at (key_step likely rules) x) e ∙ ap (option_and_then (key_step likely rules)) (stays_put w z none n here d) ∙ step_stuck likely rules w z none

  put_from : (w z : LanguageIdentifier) → IsRepeat (next likely rules) w z → (n : ℕ) → at (key_step likely rules) x n ≡ Some w
      → (m : ℕ) → n ≤ m → at (key_step likely rules) x m ≡ Some w
  put_from w z none n here m within =
      let e : m ≡ n + (m - n) = omega arith in
      ap (at (key_step likely rules) x) e ∙ stays_put w z none n here (m - n)

  again_of : (z : LanguageIdentifier) → IsStuck RegionFirst likely rules x z ⊎ ComesRound RegionFirst likely rules x z
      → (y : LanguageIdentifier) × ComesAgain (key_step likely rules) x y
  again_of z (inl stuck) =
      let here = is_at stuck.turns stuck.key stuck.comes in
      (stuck.key, (stuck.turns, suc stuck.turns, omega arith, here, put_from stuck.key z stuck.repeats stuck.turns here (suc stuck.turns) (omega arith)))
  again_of z (inr round) =
      (z, (round.place, round.later, round.after, is_at round.place z round.here, is_at round.later z round.again))

  -- a run of keys that ends has no such reason
  pub no_reason : (y z : LanguageIdentifier) → EndsAt (key_step likely rules) x y
      → IsStuck RegionFirst likely rules x z ⊎ ComesRound RegionFirst likely rules x z → ⊥
  no_reason y z ends why =
      let again = again_of z why in
      ends_with_no_repeat (key_step likely rules) x y again.0 ends again.1

  same_stuck : (y z : LanguageIdentifier) → IsStuck RegionFirst likely rules x y → IsStuck RegionFirst likely rules x z → y ≡ z
  same_stuck y z one other =
      let m = one.turns + other.turns in
      let of_one = put_from one.key y one.repeats one.turns (is_at one.turns one.key one.comes) m (omega arith) in
      let of_other = put_from other.key z other.repeats other.turns (is_at other.turns other.key other.comes) m (omega arith) in
      let same : one.key ≡ other.key = same_Some one.key other.key (sym of_one ∙ of_other) in
      repeat_is_unique (next likely rules) other.key y z (subst (λ k. IsRepeat (next likely rules) k y) same one.repeats) other.repeats

  -- what comes round has a key, and so does all from there on
  later_follows : (w v z : LanguageIdentifier) → IsRepeat (next likely rules) w v → (n place later : ℕ) → at (key_step likely rules) x n ≡ Some w → n ≤ place
      → place < later → Leads RegionFirst likely rules later x z → ⊥
  later_follows w v z none n place zero here within after leads = absurd (omega (arith, after))
  later_follows w v z none n place (suc m) here within after (k, before, follows) =
      let there = put_from w v none n here m (omega (arith, within, after)) in
      let same : k ≡ w = same_Some k w (sym (is_at m k before) ∙ there) in
      ends_not_stuck likely rules w z v (subst (λ u. IsKey RegionFirst likely rules u z) same follows.0) none

  not_stuck_and_round : (y z : LanguageIdentifier) → IsStuck RegionFirst likely rules x y → ComesRound RegionFirst likely rules x z → ⊥
  not_stuck_and_round y z stuck round =
      let n = stuck.turns in
      let place = round.place in
      let p = round.later - place in
      let after = round.after in
      let e : round.later ≡ place + p = omega (arith, after) in
      let here = is_at place z round.here in
      let cycle : at (key_step likely rules) x place ≡ at (key_step likely rules) x (place + p) =
      here ∙ sym (is_at round.later z round.again) ∙ ap (at (key_step likely rules) x) e in
      let far : suc n ≤ p * suc n = omega (arith, mul-le-mul_right {m = 1} {n = p} (suc n) (omega (arith, after))) in
      let whole = around_from (key_step likely rules) x place p place (suc n) (omega arith) cycle in
      let at_key = put_from stuck.key y stuck.repeats n (is_at n stuck.key stuck.comes) (place + p * suc n) (omega (arith, far)) in
      later_follows stuck.key y z stuck.repeats place place round.later (whole ∙ at_key) (omega arith) round.after round.again

  same_round : (y z : LanguageIdentifier) → ComesRound RegionFirst likely rules x y → ComesRound RegionFirst likely rules x z → y ≡ z
  same_round y z one other =
      elim (cases_order one.place other.place) [
        | inl same ↦ same_Some y z (sym (is_at one.place y one.here) ∙ ap (at (key_step likely rules) x) same ∙ is_at other.place z other.here)
        | inr (inl before) ↦ absurd (other.first one.place one.later y before one.after one.here one.again)
        | inr (inr before) ↦ absurd (one.first other.place other.later z before other.after other.here other.again)
      ]

  pub one_reason : (y z : LanguageIdentifier) → IsStuck RegionFirst likely rules x y ⊎ ComesRound RegionFirst likely rules x y
      → IsStuck RegionFirst likely rules x z ⊎ ComesRound RegionFirst likely rules x z → y ≡ z
  one_reason y z (inl one) (inl other) = same_stuck y z one other
  one_reason y z (inl one) (inr other) = absurd (not_stuck_and_round y z one other)
  one_reason y z (inr one) (inl other) = absurd (not_stuck_and_round z y other one)
  one_reason y z (inr one) (inr other) = same_round y z one other

  -- a refusal names it, unless it is want of memory
  pub refused_by : {T : Type 0} (e : CanonicalizeError) (z : LanguageIdentifier) → IsStableKeyRefusal RegionFirst likely rules x e
      → IsStuck RegionFirst likely rules x z ⊎ ComesRound RegionFirst likely rules x z
      → (◌≡◌ {A = Result T CanonicalizeError} (Err e) (Err (NoFixedPoint z))) ⊎ IsMemory e
  refused_by Memory z refused why = inr tt
  refused_by (NoFixedPoint y) z refused why = inl (ap (λ v. Err (NoFixedPoint v)) (one_reason y z refused why))
  refused_by (NoSubdivisionFixedPoint v) z refused why = absurd refused
