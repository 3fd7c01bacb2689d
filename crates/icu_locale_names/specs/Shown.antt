-- What a name shows.
use Rattle.std.specs.Prelude.{ℕ, Bool, true, false, List, [], ◌∷◌, Option, Some, None}
use Rattle.std.specs.Borrow.{Bor}
use Rattle.icu_locale_names.specs.Pieces.{Piece, plain}
use Rattle.icu_locale_names.specs.declared.shown.LentPiece.{LentPiece}
use Rattle.icu_locale_names.specs.declared.shown.Shown.{Shown}
use Rattle.icu_locale_names.specs.declared.shown.Shown.TheVariants.{Name, Raw}

-- the name, or the text of the subtag
abbrev pub shown_text : {S : Type 0} → (S → List ℕ) → Shown S → List ℕ
shown_text text (Name name) = name.now
shown_text text (Raw subtag) = text subtag

-- whether it is the subtag itself
abbrev pub is_raw : {S : Type 0} → Shown S → Bool
is_raw (Name name) = false
is_raw (Raw subtag) = true

-- as a piece of a text
abbrev pub piece_by : {S : Type 0} → (S → List ℕ) → Shown S → Piece
piece_by text shown = record { text = shown_text text shown; raw = is_raw shown }

-- what is shown, if anything
abbrev pub pieces_if_any : {S : Type 0} → (S → List ℕ) → Option (Shown S) → List Piece
pieces_if_any text None = []
pieces_if_any text (Some shown) = piece_by text shown ∷ []

-- a contract sees a subtag as its text
abbrev pub piece_of : Shown (List ℕ) → Piece
piece_of shown = piece_by (λ text. text) shown

abbrev pub shown_pieces : Option (Shown (List ℕ)) → List Piece
shown_pieces shown = pieces_if_any (λ text. text) shown

-- a text that is lent, if any
abbrev pub text_pieces : Option (Bor (List ℕ)) → List Piece
text_pieces None = []
text_pieces (Some text) = plain text.now ∷ []

-- a piece that is lent
abbrev pub lent_piece : LentPiece → Piece
lent_piece piece = record { text = piece.text.now; raw = piece.is_raw }

-- what is lent, if anything
abbrev pub lent_pieces : Option LentPiece → List Piece
lent_pieces None = []
lent_pieces (Some piece) = lent_piece piece ∷ []
