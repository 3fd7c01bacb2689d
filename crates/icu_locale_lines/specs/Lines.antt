-- The lines of a text, and what a reader has left and a writer holds.
use Rattle.std.specs.Prelude.{◌≡◌, ℕ, List, Option, None, Some, Bool, false, ◌==◌, nat_lt, length, [], ◌∷◌}
use Rattle.std.specs.List.{slice_split, before_first, after_first, list_any}

-- the bytes, where they are known
abbrev pub Stream : Type 0
Stream = Option (List ℕ)

-- a line feed
abbrev pub is_line_feed : ℕ → Bool
is_line_feed c = c == 10

-- a list of pieces, the last only where it is not empty
abbrev pub without_empty_last : List (List ℕ) → List (List ℕ)
without_empty_last [] = []
without_empty_last ([] ∷ []) = []
without_empty_last (x ∷ xs) = x ∷ without_empty_last xs

-- a text cut at each line feed; what follows the last one is a line where it is not empty
abbrev pub lines : List ℕ → List (List ℕ)
lines t = without_empty_last (slice_split is_line_feed t)

-- what is before the first line feed, or all of it
abbrev pub first_line : List ℕ → List ℕ
first_line t = before_first is_line_feed t

-- what follows the first line feed, if there is one
abbrev pub after_first_line : List ℕ → List ℕ
after_first_line t = after_first is_line_feed t

-- a line has more bytes than a bound allows, where there is one
abbrev pub exceeds : Option ℕ → List ℕ → Bool
exceeds None line = false
exceeds (Some longest) line = nat_lt longest (length line)

-- no line of a text has
abbrev pub AreWithin : Option ℕ → List ℕ → Type 0
AreWithin longest text = list_any (exceeds longest) (lines text) ≡ false
