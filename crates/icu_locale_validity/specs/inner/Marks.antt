-- The marks that a part comes behind, and what is left of a text.
use Rattle.std.specs.Prelude.{ℕ, suc, List, [], ◌∷◌, length, Option, Some, None, if◌then◌else◌}
use Rattle.std.specs.Option.{option_to_list}
use denote.Ref.{Bor}
use Rattle.icu_locale_core.specs.Identifier.{pieces}
use Rattle.icu_locale_validity.specs.Places.{is_spelled}

-- a singleton, if there is one, and then a language, if there is one
abbrev pub marks : Option ℕ → Option (List ℕ) → List (List ℕ)
marks None language = option_to_list language
marks (Some c) language = (c ∷ []) ∷ option_to_list language

-- the singleton that is left behind a piece
abbrev pub singleton_behind : List ℕ → Option ℕ → Option ℕ
singleton_behind p None = None
singleton_behind p (Some c) = if is_spelled p (c ∷ []) then None else Some c

-- the language that is left behind a piece: it is passed behind the singleton alone
abbrev pub language_behind : List ℕ → Option ℕ → Option (List ℕ) → Option (List ℕ)
language_behind p (Some c) language = language
language_behind p None None = None
language_behind p None (Some l) = if is_spelled p l then None else Some l

-- the pieces of a text, and none where no text is left
abbrev pub pieces_left : Option (Bor (List ℕ)) → List (List ℕ)
pieces_left None = []
pieces_left (Some t) = pieces t.now

-- the bytes that are left, and one more for the separator before them
abbrev pub bytes_left : Option (Bor (List ℕ)) → ℕ
bytes_left None = 0
bytes_left (Some t) = suc (length t.now)
