-- What the two walkers know on the way: what only the walk's own functions and lemmas cite.
use Rattle.std.specs.Prelude.{ℕ, suc, ◌≡◌, ◌≢◌, ◌+◌, ◌<◌, ◌⊎◌, Option, Some, None}
use Rattle.icu_locale_runs.specs.declared.rewriting.Tally.{Tally}
use Rattle.icu_locale_runs.specs.declared.rewriting.Tally.TheVariants as tally
use Rattle.icu_locale_runs.specs.Run.{at, EndsLater}
use Rattle.icu_locale_runs.specs.declared.rewriting.Walk.{Walk}
use Rattle.icu_locale_runs.specs.declared.rewriting.Walk.TheVariants.{Alone, Stops, Meets}

-- how many strokes a tally has
abbrev pub strokes : Tally → ℕ
strokes tally.None = 0
strokes (tally.OneMore' mark below) = suc (strokes below)

-- the first n places hold n different states
pub record IsFront {X : Type 0} (next : X → Option X) (start : X) (n : ℕ) : Type 0 where
  pub goes : (i : ℕ) → i < n → at next start i ≢ None
  pub apart : (i j : ℕ) → i < j → j < n → at next start i ≢ at next start j

-- the first n places hold all states of the run, each once
pub record IsFullFront {X : Type 0} (next : X → Option X) (start : X) (n : ℕ) : Type 0 where
  pub front : IsFront next start n
  pub closes : (at next start n ≡ None) ⊎ ((i : ℕ) × (i < n) × (at next start i ≡ at next start n))

-- z is at some place, and again twice as far from the start
pub record IsMeeting {X : Type 0} (next : X → Option X) (start z : X) : Type 0 where
  pub place : ℕ
  pub started : 0 < place
  pub here : at next start place ≡ Some z
  pub again : at next start (place + place) ≡ Some z

-- the walk tells the truth of the run: nothing follows the start, or where it ends, or where the walkers meet
abbrev pub IsWalk : {X : Type 0} → (X → Option X) → X → Walk X → Type 0
IsWalk next start Alone = next start ≡ None
IsWalk next start (Stops y) = EndsLater next start y
IsWalk next start (Meets z) = IsMeeting next start z
