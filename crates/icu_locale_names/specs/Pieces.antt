-- A text made of pieces, of which some are raw subtags.
use Rattle.std.specs.Prelude.{ℕ, ◌+◌, Bool, true, false, List, [], ◌∷◌, length, if◌then◌else◌}
use Rattle.std.specs.List.{flat_map, list_any}

-- a text, and whether it is a raw subtag
pub record Piece : Type 0 where
  pub text : List ℕ
  pub raw : Bool

-- a text that is no raw subtag: a name, or a part of a pattern
abbrev pub plain : List ℕ → Piece
plain text = record { text = text; raw = false }

-- a subtag that no name stands for
abbrev pub raw_subtag : List ℕ → Piece
raw_subtag text = record { text = text; raw = true }

-- the text: the pieces one after another
abbrev pub text_of : List Piece → List ℕ
text_of pieces = flat_map (λ p. p.text) pieces

-- the places of the raw pieces in bytes, where the first piece begins at a place
abbrev pub spans_from : ℕ → List Piece → List (ℕ × ℕ)
spans_from start [] = []
spans_from start (piece ∷ pieces) =
    let behind = start + length piece.text in
    let later = spans_from behind pieces in
    if piece.raw then (start, behind) ∷ later else later

-- the places of the raw pieces in bytes, from the start of the text
abbrev pub spans : List Piece → List (ℕ × ℕ)
spans pieces = spans_from 0 pieces

-- some piece is a raw subtag
abbrev pub has_raw : List Piece → Bool
has_raw pieces = list_any (λ p. p.raw) pieces
