-- What is before the first mark of a text without a mark.
use Rattle.std.specs.Prelude.{◌≡◌, ℕ, ◌≤◌, Bool, true, false, cond, nat_lt, List, length, Some, None}
use Rattle.std.proofs.Common.{refl, sym}
use Rattle.std.specs.List.{before_first, position, position_or_len}
use Rattle.std.proofs.lemmas.Bool.{ltb-false}
use Rattle.std.proofs.lemmas.Option.{none-some}
use Rattle.std.proofs.lemmas.List.{take_all}

pub before_none : (p : ℕ → Bool) (t : List ℕ) → position p t ≡ None → t ≡ before_first p t
before_none p t none = sym (take_all (position_or_len p t) t (by (nat_lt (position_or_len p t) (length t)) refl none))
  where
    by : (b : Bool) → nat_lt (position_or_len p t) (length t) ≡ b → (cond b (Some (position_or_len p t)) None) ≡ None → length t ≤ position_or_len p t
    by true within is = absurd (none-some _ (sym is))
    by false past is = ltb-false (position_or_len p t) (length t) past
