-- Pieces after a text that is being written, and texts after others.
use Rattle.std.specs.Prelude.{◌≡◌, ◌||◌, ◌++◌, ℕ, Bool, true, false, List, [], ◌∷◌, if◌then◌else◌, length, string_bytes}
use Rattle.std.specs.List.{flat_map, list_any}
use Rattle.icu_locale_names.specs.LanguageNames.{joined}
use Rattle.icu_locale_names.specs.Pieces.{Piece, plain, text_of, spans_from}
use Rattle.icu_locale_names.specs.Walk.{behind_separator as behind_each}
use Rattle.icu_locale_full_names.specs.FullNames.{joined_texts}
use Rattle.icu_locale_full_names.specs.declared.draft.Draft.{Draft}

-- the text of pieces follows a text, and it is told where the raw ones are
pub record Adds (pieces : List Piece) (old new : Draft) : Type 0 where
  pub text : string_bytes new.text ≡ string_bytes old.text ++ text_of pieces
  pub marks : new.raw_spans.items
      ≡ old.raw_spans.items ++ spans_from (length (string_bytes old.text)) pieces

-- pieces after others, if there are any
abbrev pub pieces_behind : Bool → List ℕ → List Piece → List Piece
pieces_behind is_any separator ps =
    if is_any then behind_each separator ps else joined separator ps

-- texts with the separator before each
abbrev pub behind_separator : List ℕ → List (List Piece) → List Piece
behind_separator separator texts = flat_map (λ t. plain separator ∷ t) texts

-- texts after others, if there are any
abbrev pub behind : Bool → List ℕ → List (List Piece) → List Piece
behind is_any separator texts =
    if is_any then behind_separator separator texts else joined_texts separator texts

abbrev pub are_some : List (List Piece) → Bool
are_some [] = false
are_some (t ∷ ts) = true

-- there is one
abbrev pub is_any : {A : Type 0} → List A → Bool
is_any xs = list_any (λ _. true) xs

-- texts follow a text with others at its end, if there are any, and whether there is one now
pub record Joins (separator : List ℕ) (texts : List (List Piece)) (old : Draft) (before : Bool)
    (new : Draft) (after : Bool) : Type 0 where
  pub adds : Adds (behind before separator texts) old new
  pub any : after ≡ (before || are_some texts)
