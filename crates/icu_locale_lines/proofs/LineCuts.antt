-- Where a text is cut: at its first line feed, and at any other separator, as memchr finds it.
use Rattle.std.proofs.Common.{◌≡◌, ℕ, ◌<◌, ◌≤◌, Bool, true, false, List, length, Option, Some, None, refl, ap, sym, arith, cond, nat_lt}
use Rattle.std.proofs.Common.{◌+◌, [], take, drop}
use Rattle.std.specs.List.{position, position_or_len, before_first, after_first}
use Rattle.std.proofs.lemmas.Bool.Decides.{nat_tests}
use Rattle.std.proofs.lemmas.List.Sums.{position_or_len_is}
use Rattle.std.proofs.lemmas.Option.{cond_some, none-some}
use Rattle.std.proofs.lemmas.List.{take_all, drop_all}
use Rattle.memchr.specs.Find.{IsFirstByte}

not_true : (b : Bool) → (b ≡ true → ⊥) → b ≡ false
not_true true never = absurd (never refl)
not_true false never = refl

pub position_from_first : (test : ℕ → Bool) (t : List ℕ) (r : Option ℕ) → IsFirstByte test t r → r ≡ position test t
position_from_first test t None none =
    let place : position_or_len test t ≡ length t = position_or_len_is test t (length t) 0 (omega arith)
    (λ k below. not_true _ (none k (omega arith) below)) (λ less. absurd (omega (arith, less))) in
    grind (arith, nat_tests)
position_from_first test t (Some k) (first, is) =
    let place : position_or_len test t ≡ k = position_or_len_is test t k 0 (omega (arith, first.high))
    (λ j below. not_true _ (first.before j (omega arith) below)) (λ _. is) in
    let high : k < length t = first.high in
    grind (arith, nat_tests)

-- what is before and after the first separator of a text
module _ (p : ℕ → Bool) (t : List ℕ) where
  -- where it is
  place : (n : ℕ) → position p t ≡ Some n → position_or_len p t ≡ n
  place n at = (cond_some (nat_lt (position_or_len p t) (length t)) (position_or_len p t) n at).1

  pub before_first-position : (n : ℕ) → position p t ≡ Some n → before_first p t ≡ take n t
  before_first-position n at = ap (λ k. take k t) (place n at)

  pub after_first-position : (n : ℕ) → position p t ≡ Some n → after_first p t ≡ drop (n + 1) t
  after_first-position n at = ap (λ k. drop (k + 1) t) (place n at)

  -- without one all is before it
  past_end : position p t ≡ None → length t ≤ position_or_len p t
  past_end none = elim (nat_lt (position_or_len p t) (length t)) as (λ b. nat_lt (position_or_len p t) (length t) ≡ b
      → cond b (Some (position_or_len p t)) None ≡ None → length t ≤ position_or_len p t) [
        | true ↦ λ is some. absurd (none-some _ (sym some))
        | false ↦ λ is some. grind (arith, nat_tests)
      ] refl none

  pub before_first-no_position : position p t ≡ None → before_first p t ≡ t
  before_first-no_position none = take_all (position_or_len p t) t (past_end none)

  pub after_first-no_position : position p t ≡ None → after_first p t ≡ []
  after_first-no_position none = drop_all (position_or_len p t + 1) t (let past = past_end none in omega arith)
