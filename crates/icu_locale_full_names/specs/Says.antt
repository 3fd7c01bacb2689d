-- What a part of an extension says, as pieces of a name (UTS #35 Part 2, "Locale Display Name Algorithm").
use Rattle.std.specs.Prelude.{ℕ, ◌==◌, Bool, ◌&&◌, not, List, [], ◌∷◌, length, map, codes, if◌then◌else◌, Option, Some, None}
use Rattle.std.specs.List.{flat_map}
use Rattle.std.specs.Option.{option_and_then}
use Rattle.std.specs.Str.{bytes_eq}
use Rattle.icu_locale_core.specs.Maps.{value_at}
use Rattle.icu_locale_core.specs.TextSet.{text_cmp}
use Rattle.icu_locale_core.specs.Value.{written_value}
use Rattle.icu_locale_names.specs.LanguageNames.{NameParts, filled, joined, pieces_by_parts}
use Rattle.icu_locale_names.specs.Pieces.{Piece, plain, raw_subtag}
use Rattle.icu_provider.specs.declared.extension_names.ExtensionNames.{ExtensionNames}
use Rattle.icu_locale_full_names.specs.Squares.{squared}

-- a key, a letter of an extension, or `x`, and its pieces
abbrev pub Row : Type 0
Row = List ℕ × List (List ℕ)

-- names by the text of what they name
abbrev pub Names : Type 0
Names = List (List ℕ × List ℕ)

-- the name of a value at a key, if there is one
abbrev pub name_at : List (List ℕ × Names) → List ℕ → List ℕ → Option (List ℕ)
name_at rows key value =
    option_and_then (λ names. value_at text_cmp names value) (value_at text_cmp rows key)

-- a name, or the raw text that has none
abbrev pub named : Option (List ℕ) → List ℕ → Piece
named (Some name) text = plain name
named None text = raw_subtag text

-- a key by its name
abbrev pub key_piece : ExtensionNames → List ℕ → Piece
key_piece names key = named (value_at text_cmp names.keys key) key

-- a value that is left out is `true` (UTS #35 Part 1, section 3.2.1, Canonical Unicode Locale Identifiers)
abbrev pub shown_value : List ℕ → List ℕ
shown_value [] = codes "true"
shown_value (c ∷ cs) = c ∷ cs

-- a value by its name
abbrev pub value_piece : ExtensionNames → List ℕ → List ℕ → Piece
value_piece names key value = named (name_at names.values key value) (shown_value value)

-- a value at `kr` is a list of codes
abbrev pub lists_codes : List ℕ → Bool
lists_codes key = bytes_eq key (codes "kr")

-- the value of a keyword: its codes one by one, or as a whole
abbrev pub value_says : ExtensionNames → List ℕ → Row → List Piece
value_says names separator row =
    if lists_codes row.0 && not (length row.1 == 0)
    then joined separator (map (value_piece names row.0) row.1)
    else value_piece names row.0 (written_value row.1) ∷ []

-- a key and what it has, by the pattern
abbrev pub pair : ExtensionNames → Piece → List Piece → List Piece
pair names key has = flat_map (filled key has) names.pattern

-- what a key with a value says: the name of the type, and else the key and what it has
abbrev pub type_says : ExtensionNames → List ℕ → List Piece → Option (List ℕ) → List Piece
type_says names key has (Some name) = plain name ∷ []
type_says names key has None = pair names (key_piece names key) has

-- the same in square brackets
abbrev pub says : ExtensionNames → List ℕ → List ℕ → List Piece → List Piece
says names key value has = squared (type_says names key has (name_at names.types key value))

-- a keyword
abbrev pub keyword_says : ExtensionNames → List ℕ → Row → List Piece
keyword_says names separator row =
    says names row.0 (written_value row.1) (value_says names separator row)

-- a field, another extension, or private use
abbrev pub row_says : ExtensionNames → Row → List Piece
row_says names row =
    let value = written_value row.1 in
    says names row.0 value (value_piece names row.0 value ∷ [])

-- what the language of `t` is: what the locale was transformed from, or one part of a hybrid
abbrev pub language_key : ExtensionNames → Bool → Piece
language_key names is_hybrid =
    if is_hybrid then named (name_at names.types (codes "h0") (codes "hybrid")) (codes "hybrid")
    else key_piece names (codes "t")

-- the language of `t`, by the name of its identifier
abbrev pub language_says : ExtensionNames → Bool → NameParts → List Piece
language_says names is_hybrid name =
    squared (pair names (language_key names is_hybrid) (pieces_by_parts name))
