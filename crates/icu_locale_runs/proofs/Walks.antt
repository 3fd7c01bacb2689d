-- What the two walkers keep from step to step.
use Rattle.std.proofs.Common.{◌≡◌, ◌≢◌, ℕ, suc, ◌+◌, ◌*◌, ◌<◌, ◌≤◌, inl, inr, Bool, true, false, not, Option, Some, None, IsSome, option_and_then}
use Rattle.std.proofs.Common.{refl, sym, ap, ◌∙◌, subst, zero-add, arith}
use Rattle.std.specs.Cmp.{IsEquivalence}
use Rattle.std.proofs.lemmas.Bool.{cases_eq, cases_lt, false≢true, not-true, not-false}
use Rattle.std.proofs.lemmas.Option.{none-some, same_Some}
use Rattle.icu_locale_runs.specs.Run.{at, StandsIn, IsRepeat}
use Rattle.icu_locale_runs.specs.inner.Walk.{IsFullFront, IsMeeting}
use Rattle.icu_locale_runs.specs.laws.Places.{none_after, meets_before, meets_again, never_none}
use Rattle.icu_locale_runs.specs.laws.Runs.{IsRepeat-from_pairs}

-- one walker is at some place and the other twice as far, and they have met at no place before
pub record HasWalked {X : Type 0} (next : X → Option X) (start slow fast : X) (before after : ℕ) : Type 0 where
  pub place : ℕ
  pub started : 0 < place
  pub behind : at next start place ≡ Some slow
  pub ahead : at next start (place + place) ≡ Some fast
  pub unmet : (k : ℕ) → 0 < k → k < place → at next start k ≢ at next start (k + k)
  pub counted : after + 1 ≡ before + 3 * place

-- one walker is at some place and the other as many places on as the meeting is, and they have met at no place before
pub record HasFollowed {X : Type 0} (next : X → Option X) (start meeting near far : X) (before after : ℕ) : Type 0 where
  pub met : IsMeeting next start meeting
  pub place : ℕ
  pub behind : at next start place ≡ Some near
  pub ahead : at next start (place + met.place) ≡ Some far
  pub unmet : (k : ℕ) → k < place → at next start k ≢ at next start (k + met.place)
  pub counted : after ≡ before + 2 * place

IsSome-from_goes : {X : Type 0} (o : Option X) → o ≢ None → IsSome o
IsSome-from_goes None goes = absurd (goes refl)
IsSome-from_goes (Some x) goes = refl

pub IsSome-from_some : {X : Type 0} (o : Option X) (y : X) → o ≡ Some y → IsSome o
IsSome-from_some o y is = rw is refl

-- a test of equality that says no tells states apart, and an exact one that says yes makes them one
pub differ_from_eq : {X : Type 0} (eq : X → X → Bool) → IsEquivalence eq → (y z : X) (t : Bool) → t ≡ eq y z → t ≡ false → y ≢ z
differ_from_eq eq laws y z t is test same =
    false≢true (sym test ∙ (is ∙ (ap (eq y) (sym same) ∙ laws.refl y)))

pub differ_from_test : {X : Type 0} (eq : X → X → Bool) → IsEquivalence eq → (y z : X) (t : Bool) → t ≡ not (eq y z) → t ≡ true → y ≢ z
differ_from_test eq laws y z t is test =
    differ_from_eq eq laws y z (eq y z) refl (not-true (eq y z) (sym is ∙ test))

pub same_from_test : {X : Type 0} (eq : X → X → Bool) → ((y z : X) → eq y z ≡ true → y ≡ z) → (y z : X) (t : Bool) → t ≡ not (eq y z) → t ≡ false → y ≡ z
same_from_test eq exact y z t is test = exact y z (not-false (eq y z) (sym is ∙ test))

module _ {X : Type 0} (next : X → Option X) (start : X) where
  -- what follows the state at a place is at the next place
  pub follows_at : (place : ℕ) (y : X) (o : Option X) → at next start place ≡ Some y → next y ≡ o → at next start (suc place) ≡ o
  follows_at place y o here follows = ap (option_and_then next) here ∙ follows

  -- a place is empty only from the count on
  pub count_by_end : (n p : ℕ) → IsFullFront next start n → at next start p ≡ None → n ≤ p
  count_by_end n p is ended =
      elim (cases_lt p n) [ inl below ↦ absurd (is.front.goes p below ended) | inr above ↦ above ]

  -- a state comes again only from the count on
  count_by_repeat : (n i j : ℕ) → IsFullFront next start n → i < j → at next start i ≡ at next start j → n ≤ j
  count_by_repeat n i j is before same =
      elim (cases_lt j n) [ inl below ↦ absurd (is.front.apart i j before below same) | inr above ↦ above ]

  -- walkers who have not met are not past the count
  unmet_within : (n m : ℕ) → IsFullFront next start n → (at next start n ≡ None → m ≤ n)
      → ((k : ℕ) → 0 < k → k < m → at next start k ≢ at next start (k + k)) → m ≤ n
  unmet_within n m is unended unmet =
      elim is.closes [
        | inl ended ↦ unended ended
        | inr (i, below, closes) ↦
            let (k, started, within, met) = meets_before next start i n below closes in
            elim (cases_lt k m) [ inl early ↦ absurd (unmet k started early met) | inr late ↦ omega arith ]
      ]

  -- where something is, the count is not yet come if the run ends there
  goes_within : (n p : ℕ) (y : X) → at next start p ≡ Some y → at next start n ≡ None → p < n
  goes_within n p y here ended =
      elim (cases_lt p n) [
        | inl below ↦ below
        | inr above ↦ absurd (none-some y (sym (none_after next start n p above ended) ∙ here))
      ]

  module _ (slow fast : X) (before after : ℕ) (walk : HasWalked next start slow fast before after) where
    pub walked_most : (n : ℕ) → IsFullFront next start n → after + 1 ≤ before + 3 * n
    walked_most n is =
        let within : walk.place ≤ n = unmet_within n walk.place is (λ ended. let h = goes_within n
        (walk.place + walk.place) fast walk.ahead ended in omega arith) walk.unmet in
        omega (arith, walk.counted)

    unmet_here : slow ≢ fast → (k : ℕ) → 0 < k → k < suc walk.place → at next start k ≢ at next start (k + k)
    unmet_here differ k started below met =
        elim (cases_eq k walk.place) [
          | inl same ↦
              let e : at next start walk.place ≡ at next start (walk.place + walk.place) = ap (at next start) (sym same)
              ∙ (met ∙ ap (λ i. at next start (i + i)) same) in
              differ (same_Some slow fast (sym walk.behind ∙ (e ∙ walk.ahead)))
          | inr other ↦ walk.unmet k started (omega arith) met
        ]

    pub walked_more : slow ≢ fast → (n : ℕ) → IsFullFront next start n → after + 3 ≤ before + 3 * n
    walked_more differ n is =
        let within : suc walk.place ≤ n = unmet_within n (suc walk.place) is
        (λ ended. let h = goes_within n (walk.place + walk.place) fast walk.ahead ended in omega arith) (unmet_here differ) in
        omega (arith, walk.counted)

    -- where the walkers meet, the fast one has passed each state
    pub met_least : slow ≡ fast → (n : ℕ) → IsFullFront next start n → before + n ≤ after
    met_least same n is =
        let again : at next start walk.place ≡ at next start (walk.place + walk.place) = walk.behind ∙ (ap Some same ∙ sym walk.ahead) in
        omega (arith, walk.counted, walk.started, count_by_repeat n walk.place (walk.place + walk.place) is (omega (arith, walk.started)) again)

    pub IsMeeting-from_walk : slow ≡ fast → IsMeeting next start fast
    IsMeeting-from_walk same =
        record { place = walk.place; started = walk.started; here = walk.behind ∙ ap Some same; again = walk.ahead }

    -- the slow walker goes where the fast one was
    pub slow_goes : IsSome (next slow)
    slow_goes =
        IsSome-from_goes (next slow)
        (λ ended. none-some fast (sym (none_after next start (suc walk.place) (walk.place + walk.place) (omega (arith, walk.started))
        (follows_at walk.place slow None walk.behind ended)) ∙ walk.ahead))

    pub walked_on : slow ≢ fast → (slower middle faster : X) (then : ℕ) → next slow ≡ Some slower → next fast ≡ Some middle
        → next middle ≡ Some faster → then ≡ after + 3 → HasWalked next start slower faster before then
    walked_on differ slower middle faster then one two three counted =
        let e : suc (suc (walk.place + walk.place)) ≡ suc walk.place + suc walk.place = omega arith in
        let ahead = follows_at (walk.place + walk.place) fast (Some middle) walk.ahead two in
        record {
          place = suc walk.place;
          started = omega arith;
          behind = follows_at walk.place slow (Some slower) walk.behind one;
          ahead = ap (at next start) (sym e) ∙ follows_at (suc (walk.place + walk.place)) middle (Some faster) ahead three;
          unmet = unmet_here differ;
          counted = omega (arith, walk.counted);
        }

    -- the fast walker has passed each state before it stops
    pub stops_least : next fast ≡ None → (n : ℕ) → IsFullFront next start n → before + n ≤ after + 2
    stops_least ended n is =
        omega (
          arith,
          walk.counted,
          walk.started,
          count_by_end n (suc (walk.place + walk.place)) is
              (follows_at (walk.place + walk.place) fast None walk.ahead ended),
        )

    middle_at : (middle : X) → next fast ≡ Some middle → at next start (suc (walk.place + walk.place)) ≡ Some middle
    middle_at middle goes = follows_at (walk.place + walk.place) fast (Some middle) walk.ahead goes

    pub middle_stands : (middle : X) → next fast ≡ Some middle → StandsIn next start middle
    middle_stands middle goes = (suc (walk.place + walk.place), middle_at middle goes)

    pub middle_least : (middle : X) → next fast ≡ Some middle → next middle ≡ None → (n : ℕ) → IsFullFront next start n → before + n ≤ after + 3
    middle_least middle goes ended n is =
        omega (
          arith,
          walk.counted,
          walk.started,
          count_by_end n (suc (suc (walk.place + walk.place))) is
              (follows_at (suc (walk.place + walk.place)) middle None (middle_at middle goes) ended),
        )

  module _ (meeting near far : X) (before after : ℕ) (walk : HasFollowed next start meeting near far before after) where
    met_again : at next start walk.met.place ≡ at next start (walk.met.place + walk.met.place)
    met_again = walk.met.here ∙ sym walk.met.again

    -- while the walkers have not met, no state comes again before their place
    least_place : (a b : ℕ) → a < b → at next start a ≡ at next start b → walk.place ≤ a
    least_place a b earlier same =
        elim (cases_lt a walk.place) [
          | inl early ↦ absurd (walk.unmet a early (meets_again next start a b walk.met.place earlier same walk.met.started met_again))
          | inr late ↦ late
        ]

    pub followed_most : (n : ℕ) → IsFullFront next start n → after + 2 ≤ before + 2 * n
    followed_most n is =
        elim is.closes [
          | inl ended ↦ absurd (never_none next start walk.met.place n meeting walk.met.started walk.met.here met_again ended)
          | inr (i, below, closes) ↦ omega (arith, walk.counted, least_place i n below closes)
        ]

    -- both walkers always find a state to go to
    pub near_goes : IsSome (next near)
    near_goes =
        IsSome-from_goes (next near)
        (λ ended. never_none next start walk.met.place (suc walk.place) meeting walk.met.started walk.met.here met_again
        (follows_at walk.place near None walk.behind ended))

    pub far_goes : IsSome (next far)
    far_goes =
        IsSome-from_goes (next far)
        (λ ended. never_none next start walk.met.place (suc (walk.place + walk.met.place)) meeting walk.met.started walk.met.here met_again
        (follows_at (walk.place + walk.met.place) far None walk.ahead ended))

    pub followed_on : near ≢ far → (nearer farther : X) (then : ℕ) → next near ≡ Some nearer → next far ≡ Some farther → then ≡ after + 2
        → HasFollowed next start meeting nearer farther before then
    followed_on differ nearer farther then one two counted =
        let e : suc (walk.place + walk.met.place) ≡ suc walk.place + walk.met.place = omega arith in
        record {
          met = walk.met;
          place = suc walk.place;
          behind = follows_at walk.place near (Some nearer) walk.behind one;
          ahead = ap (at next start) (sym e) ∙ follows_at (walk.place + walk.met.place) far (Some farther) walk.ahead two;
          unmet = λ k below met. elim (cases_eq k walk.place) [
            | inl same ↦
                let here : at next start walk.place ≡ at next start (walk.place + walk.met.place) = ap (at next start) (sym same)
                ∙ (met ∙ ap (λ i. at next start (i + walk.met.place)) same) in
                differ (same_Some near far (sym walk.behind ∙ (here ∙ walk.ahead)))
            | inr other ↦ walk.unmet k (omega arith) met
          ];
          counted = omega (arith, walk.counted);
        }

    -- where the walkers meet, the run comes to its first repeat
    pub IsRepeat-from_walk : near ≡ far → IsRepeat next start near
    IsRepeat-from_walk same =
        IsRepeat-from_pairs next start walk.place near walk.behind
        (walk.place, walk.place + walk.met.place, omega (arith, walk.met.started), walk.behind, walk.ahead ∙ ap Some (sym same))
        least_place

  -- the walkers set out from the start and the meeting
  pub HasFollowed-start : (meeting : X) (before : ℕ) → IsMeeting next start meeting → HasFollowed next start meeting start meeting before before
  HasFollowed-start meeting before met =
      record {
        met = met;
        place = 0;
        behind = refl;
        ahead = ap (at next start) (zero-add met.place) ∙ met.here;
        unmet = λ k below e. omega arith;
        counted = omega arith;
      }

  -- a start on which the walkers met is the first repeat
  pub IsRepeat-at_start : (meeting : X) → IsMeeting next start meeting → start ≡ meeting → IsRepeat next start meeting
  IsRepeat-at_start meeting met same =
      let repeat = IsRepeat-from_walk meeting start meeting 0 0 (HasFollowed-start meeting 0 met) same in
      subst (IsRepeat next start) same repeat
