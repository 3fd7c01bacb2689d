-- What a key has, as pieces.
use Rattle.std.specs.Prelude.{ℕ, List, [], ◌∷◌, map, Option, Some, None}
use Rattle.std.specs.Borrow.{Bor}
use Rattle.icu_locale_names.specs.LanguageNames.{NameParts, joined}
use Rattle.icu_locale_names.specs.LentNames.{lent_piece, pieces_of, parts_of}
use Rattle.icu_locale_names.specs.Pieces.{Piece}
use Rattle.icu_locale_names.specs.declared.language.borrowed.LanguageIdentifierDisplayNameBorrowed.{LanguageIdentifierDisplayNameBorrowed}
use Rattle.icu_provider.specs.declared.extension_names.ExtensionNames.{ExtensionNames}
use Rattle.icu_locale_full_names.specs.Says.{value_piece}
use Rattle.icu_locale_full_names.specs.declared.pairs.Has.{Has}
use Rattle.icu_locale_full_names.specs.declared.pairs.Has.TheVariants.{Name, Value, Codes}

-- the pieces of a name, a value, or codes one by one
abbrev pub has_pieces : ExtensionNames → List ℕ → Has → List Piece
has_pieces names separator (Name name) = pieces_of name.now
has_pieces names separator (Value value) = lent_piece value ∷ []
has_pieces names separator (Codes key list) =
    joined separator (map (value_piece names key.now) list.now)

-- the language of `t`, if there is one
abbrev pub lent_language : Option (Bor LanguageIdentifierDisplayNameBorrowed) → Option NameParts
lent_language None = None
lent_language (Some name) = Some (parts_of name.now)
