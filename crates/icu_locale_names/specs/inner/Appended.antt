-- The text of pieces after a text.
use Rattle.std.specs.Prelude.{◌≡◌, ◌||◌, ◌++◌, ℕ, Bool, true, false, List, [], ◌∷◌, map, if◌then◌else◌}
use Rattle.icu_provider.specs.Names.{PatternPart}
use Rattle.icu_locale_names.specs.LanguageNames.{filled, joined}
use Rattle.icu_locale_names.specs.Pieces.{Piece, text_of, has_raw}
use Rattle.icu_locale_names.specs.declared.language.appending.Joined.{Joined}
use Rattle.icu_locale_names.specs.declared.language.borrowed.LanguageIdentifierDisplayNameBorrowed.{LanguageIdentifierDisplayNameBorrowed}
use Rattle.icu_locale_names.specs.LentNames.{shown_head}
use Rattle.icu_locale_names.specs.Shown.{piece_of}
use Rattle.icu_locale_names.specs.Walk.{behind_separator}

-- the text of pieces follows a text, and it is told whether one of them is a raw subtag
pub record AddsPieces (pieces : List Piece) (old new : List ℕ) (is_raw : Bool) : Type 0 where
  pub text : new ≡ old ++ text_of pieces
  pub raw : is_raw ≡ has_raw pieces

-- some text follows a text
pub record IsGrown (old new : List ℕ) : Type 0 where
  pub more : List ℕ
  pub is : new ≡ old ++ more

-- qualifiers after others, if there are any
abbrev pub behind : Bool → List ℕ → List Piece → List Piece
behind is_any separator qs =
    if is_any then behind_separator separator qs else joined separator qs

-- whether there is a qualifier
abbrev pub are_some : List Piece → Bool
are_some [] = false
are_some (q ∷ qs) = true

-- qualifiers follow a text with others at its end, and what is known of all of them
pub record Joins (separator : List ℕ) (qs : List Piece) (old : List ℕ) (before : Joined)
    (new : List ℕ) (after : Joined) : Type 0 where
  pub text : new ≡ old ++ text_of (behind before.is_any separator qs)
  pub raw : after.is_raw ≡ (before.is_raw || has_raw (behind before.is_any separator qs))
  pub any : after.is_any ≡ (before.is_any || are_some qs)

-- its qualifiers
abbrev pub qualifiers_of : LanguageIdentifierDisplayNameBorrowed → List Piece
qualifiers_of name = (shown_head name.parts.now).qualifiers ++ map piece_of name.variants.now

-- what a part of its pattern stands for
abbrev pub filled_in : LanguageIdentifierDisplayNameBorrowed → PatternPart → List Piece
filled_in name part =
    filled (piece_of name.parts.now.base) (joined name.separator.now (qualifiers_of name)) part
