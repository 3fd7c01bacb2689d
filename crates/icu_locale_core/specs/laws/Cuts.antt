-- A list is cut where its first separator is.
use Rattle.std.specs.Prelude.{◌≡◌, ℕ, ◌+◌, Bool, true, false, cond, nat_lt, List, [], ◌∷◌, length, take, drop, Some, None}
use Rattle.std.proofs.Common.{refl, ap, sym, ◌∙◌}
use Rattle.std.specs.List.{before_first, after_first, slice_split, position, position_or_len}
use Rattle.std.proofs.Math.Nat.{le_trans}
use Rattle.std.proofs.lemmas.Bool.{ltb-true, ltb-false}
use Rattle.std.proofs.lemmas.Option.{same_Some, none-some}
use Rattle.std.proofs.lemmas.List.Sums.{fails_before_first}
use Rattle.std.proofs.lemmas.List.Splits.{slice_split_first, slice_split_none}

module _ (p : ℕ → Bool) (t : List ℕ) where
  -- the text before the separator, and the pieces after it
  pub slice_split-position : (n : ℕ) → position p t ≡ Some n
      → slice_split p t ≡ take n t ∷ slice_split p (drop (n + 1) t)
  slice_split-position n at = by (nat_lt (position_or_len p t) (length t)) refl at
    where
      by : (b : Bool) → nat_lt (position_or_len p t) (length t) ≡ b
          → (cond b (Some (position_or_len p t)) None) ≡ Some n
          → slice_split p t ≡ take n t ∷ slice_split p (drop (n + 1) t)
      by true within is =
          let place = same_Some (position_or_len p t) n is in
          slice_split_first p t 0 (ltb-true (position_or_len p t) (length t) within)
          ∙ (λ i. take (place i) t ∷ slice_split p (drop (place i + 1) t))
      by false past is = absurd (none-some n is)

  -- a text without a separator is one piece
  pub slice_split-no_position : position p t ≡ None → slice_split p t ≡ t ∷ []
  slice_split-no_position none = by (nat_lt (position_or_len p t) (length t)) refl none
    where
      by : (b : Bool) → nat_lt (position_or_len p t) (length t) ≡ b
          → (cond b (Some (position_or_len p t)) None) ≡ None → slice_split p t ≡ t ∷ []
      by true within is = absurd (none-some (position_or_len p t) (sym is))
      by false past is =
          slice_split_none p t
          (λ k d here. fails_before_first p t k d
          (le_trans here (ltb-false (position_or_len p t) (length t) past)))

  -- what is before the first mark, and what is behind it
  at_some : (n : ℕ) → position p t ≡ Some n → position_or_len p t ≡ n
  at_some n at = by (nat_lt (position_or_len p t) (length t)) at
    where
      by : (b : Bool) → (cond b (Some (position_or_len p t)) None) ≡ Some n
          → position_or_len p t ≡ n
      by true is = same_Some (position_or_len p t) n is
      by false is = absurd (none-some n is)

  pub before_some : (n : ℕ) → position p t ≡ Some n → take n t ≡ before_first p t
  before_some n at = ap (λ k. take k t) (sym (at_some n at))

  pub after_some : (n : ℕ) → position p t ≡ Some n → drop (n + 1) t ≡ after_first p t
  after_some n at = ap (λ k. drop (k + 1) t) (sym (at_some n at))
