-- Extensions of an identifier (UTS #35 Part 1, sections 3.2, 3.6 and 3.7): which pieces each may have, in any case.
use Rattle.std.specs.Prelude.{◌≡◌, ℕ, Bool, true, false, ◌&&◌, ◌||◌, ◌==◌, not, List, [], ◌∷◌, length, map, codes, Result, Err, IfOk, ◌↔◌}
use Rattle.std.specs.List.{All, list_all}
use Rattle.std.specs.Char.{is_ascii_alphabetic, is_ascii_digit}
use Rattle.icu_locale_core.specs.Identifier.{pieces}
use Rattle.icu_locale_core.specs.Subtag.{has_length, is_alphanumeric, lowercase, IsWritten}
use Rattle.icu_locale_core.specs.laws.Identifiers.{same_text}
use Rattle.icu_locale_core.specs.declared.parse_error.ParseError.{ParseError}
use Rattle.icu_locale_core.specs.declared.parse_error.ParseError.TheVariants.{InvalidLanguage, InvalidSubtag}
use Rattle.icu_locale_core.specs.Cuts.{Block}

-- ---- marks

-- what begins an extension: one character
abbrev pub is_singleton : List ℕ → Bool
is_singleton p = length p == 1

-- what begins private use, and the two extensions that have a meaning here
abbrev pub is_x : List ℕ → Bool
is_x p = same_text (lowercase p) (codes "x")

abbrev pub is_u : List ℕ → Bool
is_u p = same_text (lowercase p) (codes "u")

abbrev pub is_t : List ℕ → Bool
is_t p = same_text (lowercase p) (codes "t")

-- the singleton of another extension: a letter or digit, and none of t, u and x
abbrev pub is_other_singleton : List ℕ → Bool
is_other_singleton p = (is_singleton p && is_alphanumeric p) && not (is_t p || (is_u p || is_x p))

-- tkey: a letter and a digit
abbrev pub is_tkey : List ℕ → Bool
is_tkey (c ∷ d ∷ []) = is_ascii_alphabetic c && is_ascii_digit d
is_tkey p = false

-- ---- pieces

-- one piece or more
abbrev pub any_piece : List (List ℕ) → Bool
any_piece [] = false
any_piece (p ∷ ps) = true

-- low to 8 letters or digits
abbrev pub is_piece : ℕ → List ℕ → Bool
is_piece low p = has_length low 8 p && is_alphanumeric p

abbrev pub are_pieces : ℕ → List (List ℕ) → Bool
are_pieces low ps = list_all (is_piece low) ps

-- ---- in lower case

-- a piece in lower case
abbrev pub IsPiece : ℕ → List ℕ → Type 0
IsPiece low p = IsWritten (is_piece low) lowercase p

-- one piece or more, each in lower case
pub record ArePieces (low : ℕ) (ps : List (List ℕ)) : Type 0 where
  pub some : any_piece ps ≡ true
  pub each : All (IsPiece low) ps

-- a tkey in lower case
abbrev pub IsTkey : List ℕ → Type 0
IsTkey p = IsWritten is_tkey lowercase p

-- the singleton of another extension in lower case
abbrev pub IsOtherSingleton : List ℕ → Type 0
IsOtherSingleton p = IsWritten is_other_singleton lowercase p

-- a tfield in lower case
pub record IsField (row : Block) : Type 0 where
  pub key : IsTkey row.0
  pub value : ArePieces 3 row.1

-- another extension in lower case
pub record IsOther (row : Block) : Type 0 where
  pub singleton : IsOtherSingleton row.0
  pub pieces : ArePieces 2 row.1

-- ---- reading pieces

-- reading t gives its pieces in lower case, and a text that has another piece is refused
pub record ReadsPieces (low : ℕ) (t : List ℕ) (result : Result (List (List ℕ)) ParseError)
    : Type 0 where
  pub read : IfOk result (λ ps. ps ≡ map lowercase (pieces t))
  pub refused : (result ≡ Err InvalidSubtag) ↔ (are_pieces low (pieces t) ≡ false)
  pub language : ¬ (result ≡ Err InvalidLanguage)
