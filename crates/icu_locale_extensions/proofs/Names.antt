-- Names of POSIX locales, cut at their marks.
use Rattle.std.specs.Prelude.{◌≡◌, ℕ, ◌≤◌, Bool, true, false, cond, nat_lt, List, [], length, Some, None}
use Rattle.std.proofs.Common.{refl, sym, arith}
use Rattle.std.specs.List.{before_first, after_first, position, position_or_len}
use Rattle.std.proofs.lemmas.Bool.{ltb-false}
use Rattle.std.proofs.lemmas.Option.{none-some}
use Rattle.std.proofs.lemmas.List.{take_all, drop_all}

module _ (p : ℕ → Bool) (t : List ℕ) where
  past_end : position p t ≡ None → length t ≤ position_or_len p t
  past_end none = by (nat_lt (position_or_len p t) (length t)) refl none
    where
      by : (b : Bool) → nat_lt (position_or_len p t) (length t) ≡ b → (cond b (Some (position_or_len p t)) None) ≡ None → length t ≤ position_or_len p t
      by true within is = absurd (none-some _ (sym is))
      by false past is = ltb-false (position_or_len p t) (length t) past

  -- without a mark all is before it, and nothing after
  pub before_none : position p t ≡ None → t ≡ before_first p t
  before_none none = sym (take_all (position_or_len p t) t (past_end none))

  pub after_none : position p t ≡ None → [] ≡ after_first p t
  after_none none = let past = past_end none in sym (drop_all _ t (omega arith))
