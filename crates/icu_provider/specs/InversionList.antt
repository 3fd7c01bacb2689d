-- Inversion lists: sets of characters as bounds.
use Rattle.std.specs.Prelude.{◌≡◌, ℕ, ◌+◌, ◌≤◌, ◌%◌, ◌==◌, Bool, true, ◌&&◌, nat_le, nat_lt, length, List, [], ◌∷◌}
use Rattle.std.specs.List.{All, list_any}
use Rattle.std.specs.List.Sorted.{IsStrictlyIncreasing}

-- an inversion list: bounds that rise, two by two, none above 0x110000
pub record IsInversionList (bounds : List ℕ) : Type 0 where
  pub rises : IsStrictlyIncreasing bounds
  pub even : length bounds % 2 ≡ 0
  pub limited : All (λ bound. bound ≤ 1114112) bounds

-- bounds that rise from this one on, none above 0x110000
abbrev pub rise_from : ℕ → List ℕ → Bool
rise_from least [] = true
rise_from least (bound ∷ bounds) =
    nat_le least bound && nat_le bound 1114112 && rise_from (bound + 1) bounds

-- the test of an inversion list
abbrev pub is_inversion_list : List ℕ → Bool
is_inversion_list bounds = rise_from 0 bounds && length bounds % 2 == 0

-- the bounds two by two
abbrev pub pairs : List ℕ → List (ℕ × ℕ)
pairs (first ∷ second ∷ bounds) = (first, second) ∷ pairs bounds
pairs _ = []

-- a character lies in a pair: the first bound is in, and the second is not
abbrev pub is_within : ℕ → ℕ × ℕ → Bool
is_within character pair = nat_le pair.0 character && nat_lt character pair.1

-- some pair has the character
abbrev pub has_character : List ℕ → ℕ → Bool
has_character bounds character = list_any (is_within character) (pairs bounds)
