-- A run is a start and whatever follows it, one state after another, until nothing follows. UTS #35 Part 1 has such runs:
-- in Annex C "LocaleId Canonicalization" a state is an identifier and `next` one replacement; in section 4.2 "Inheritance
-- and Validity" a state is a locale and `next` its parent.
use Rattle.std.specs.Prelude.{◌≡◌, ◌≢◌, ℕ, zero, suc, ◌<◌, ◌⊎◌, List, length, Option, Some, None, option_and_then, IsSome, IfSome, IsSomeAnd}
use Rattle.std.specs.List.{AllPairs, Contains}
use Rattle.icu_locale_runs.specs.declared.rewriting.Outcome.{Outcome}
use Rattle.icu_locale_runs.specs.declared.rewriting.Outcome.TheVariants.{Same, Ends, Repeats}

-- the state at a place of the run, where the start has place 0; none past the end
abbrev pub at : {X : Type 0} → (X → Option X) → X → ℕ → Option X
at next start zero = Some start
at next start (suc place) = option_and_then next (at next start place)

-- y is one of the states of the run
abbrev pub StandsIn : {X : Type 0} → (X → Option X) → X → X → Type 0
StandsIn next start y = (place : ℕ) × (at next start place ≡ Some y)

-- the run comes to y, and nothing follows y
pub record EndsAt {X : Type 0} (next : X → Option X) (start y : X) : Type 0 where
  pub stands : StandsIn next start y
  pub last : next y ≡ None

-- the run comes to y at a later place than its start, and nothing follows y
abbrev pub EndsLater : {X : Type 0} → (X → Option X) → X → X → Type 0
EndsLater next start y = IsSome (next start) × EndsAt next start y

-- the end of a run at a later place than its start, or none where nothing follows the start
abbrev pub IsLaterEnd : {X : Type 0} → (X → Option X) → X → Option X → Type 0
IsLaterEnd next start None = next start ≡ None
IsLaterEnd next start (Some y) = EndsLater next start y

-- the same of a run that there may be
abbrev pub IsLaterEndOf : {X : Type 0} → (X → Option X) → Option X → Option X → Type 0
IsLaterEndOf next None end = end ≡ None
IsLaterEndOf next (Some start) end = IsLaterEnd next start end

-- a run that there may be has an end
abbrev pub EndsIfAny : {X : Type 0} → (X → Option X) → Option X → Type 0
EndsIfAny {X} next start = IfSome start (λ s. (y : X) × EndsAt next s y)

-- no state stays none, and one becomes the end of its run
abbrev pub BecomesEnd : {X : Type 0} → (X → Option X) → Option X → Option X → Type 0
BecomesEnd next None new = new ≡ None
BecomesEnd next (Some start) new = IsSomeAnd new (EndsAt next start)

-- what follows a state of the run always has P
abbrev pub AllBehind : {X : Type 0} → (X → Type 0) → (X → Option X) → X → Type 0
AllBehind {X} P next start = (y : X) → StandsIn next start y → IfSome (next y) P

-- y is at two places of the run
abbrev pub ComesAgain : {X : Type 0} → (X → Option X) → X → X → Type 0
ComesAgain next start y =
    (i j : ℕ) × (i < j) × (at next start i ≡ Some y) × (at next start j ≡ Some y)

-- of the states that come again, z is the one that the run meets first
pub record IsRepeat {X : Type 0} (next : X → Option X) (start z : X) : Type 0 where
  pub place : ℕ
  pub here : at next start place ≡ Some z
  pub again : ComesAgain next start z
  pub first : (i : ℕ) (y : X) → i < place → at next start i ≡ Some y → ¬ ComesAgain next start y

-- the list has the states of the run and no others, and each of them once
pub record HasEachOnce {X : Type 0} (next : X → Option X) (start : X)
    (states : List X) : Type 0 where
  pub each : (y : X) → StandsIn next start y → Contains states y
  pub no_other : (y : X) → Contains states y → StandsIn next start y
  pub once : AllPairs (λ y z. y ≢ z) states

-- the run has n different states
abbrev pub HasDistinct : {X : Type 0} → (X → Option X) → X → ℕ → Type 0
HasDistinct {X} next start n =
    (states : List X) × HasEachOnce next start states × (length states ≡ n)

-- the run ends, or it has a first repeat
abbrev pub EndsOrRepeats : {X : Type 0} → (X → Option X) → X → Type 0
EndsOrRepeats {X} next start = ((y : X) × EndsAt next start y) ⊎ ((z : X) × IsRepeat next start z)

-- a run has one end at most
abbrev pub HasOneEnd : {X : Type 0} → (X → Option X) → X → Type 0
HasOneEnd {X} next start = (y z : X) → EndsAt next start y → EndsAt next start z → y ≡ z

-- a run has one first repeat at most
abbrev pub HasOneRepeat : {X : Type 0} → (X → Option X) → X → Type 0
HasOneRepeat {X} next start = (y z : X) → IsRepeat next start y → IsRepeat next start z → y ≡ z

-- nothing follows an end, and from each state on the way the run has the same end
abbrev pub KeepsEnd : {X : Type 0} → (X → Option X) → X → Type 0
KeepsEnd {X} next start =
    (z : X) → EndsAt next start z → (next z ≡ None)
    × ((y : X) → StandsIn next start y → EndsAt next y z)

-- a run that ends has no state twice
abbrev pub EndsWithNoRepeat : {X : Type 0} → (X → Option X) → X → Type 0
EndsWithNoRepeat {X} next start = (y z : X) → EndsAt next start y → ¬ ComesAgain next start z

-- the answer tells the truth of the run: nothing follows the start, or where it ends, or its first repeat
abbrev pub IsOutcome : {X : Type 0} → (X → Option X) → X → Outcome X → Type 0
IsOutcome next start Same = next start ≡ None
IsOutcome next start (Ends y) = EndsLater next start y
IsOutcome next start (Repeats z) = IsRepeat next start z

-- the list has the start, and with each state the one that follows it
pub record IsUniverse {X : Type 0} (next : X → Option X) (start : X)
    (states : List X) : Type 0 where
  pub has_start : Contains states start
  pub leads : (y z : X) → Contains states y → next y ≡ Some z → Contains states z
