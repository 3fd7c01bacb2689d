-- Lists of pieces, cut before the pieces that a test marks.
use Rattle.std.specs.Prelude.{ℕ, Bool, not, List, [], ◌∷◌, Option, Some, None, if◌then◌else◌}

-- a mark and what follows it
abbrev pub Block : Type 0
Block = List ℕ × List (List ℕ)

-- what is before the first marked piece
abbrev pub front : (List ℕ → Bool) → List (List ℕ) → List (List ℕ)
front is_mark [] = []
front is_mark (p ∷ ps) = if is_mark p then [] else p ∷ front is_mark ps

-- the first marked piece, and all that follows it
abbrev pub from : (List ℕ → Bool) → List (List ℕ) → List (List ℕ)
from is_mark [] = []
from is_mark (p ∷ ps) = if is_mark p then p ∷ ps else from is_mark ps

-- each marked piece, with what follows it up to the next
abbrev pub blocks : (List ℕ → Bool) → List (List ℕ) → List Block
blocks is_mark [] = []
blocks is_mark (p ∷ ps) =
    if is_mark p then (p, front is_mark ps) ∷ blocks is_mark ps else blocks is_mark ps

-- a piece of another class: what is taken from the left is cut before the first of these
abbrev pub other_than : (List ℕ → Bool) → List ℕ → Bool
other_than is_member p = not (is_member p)

-- the first piece in written case, where it is of the class
abbrev pub optional_subtag : (List ℕ → Bool) → (List ℕ → List ℕ) → List (List ℕ) → Option (List ℕ)
optional_subtag is_member written_case [] = None
optional_subtag is_member written_case (p ∷ ps) =
    if is_member p then Some (written_case p) else None

-- the pieces after it
abbrev pub after_optional_subtag : (List ℕ → Bool) → List (List ℕ) → List (List ℕ)
after_optional_subtag is_member [] = []
after_optional_subtag is_member (p ∷ ps) = if is_member p then ps else p ∷ ps
