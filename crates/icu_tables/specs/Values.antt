-- Keys and values of keywords and of fields: keys in written form alone, and values in any case.
use Rattle.std.specs.Prelude.{ℕ, List, map, if◌then◌else◌, Option, Some, None}
use Rattle.icu_locale_core.specs.Identifier.{pieces}
use Rattle.icu_locale_core.specs.Subtag.{is_key, lowercase}
use Rattle.icu_locale_core.specs.Value.{is_value, read_value}
use Rattle.icu_locale_extensions.specs.Extensions.{is_tkey, are_pieces}
use Rattle.icu_tables.specs.Subtags.{in_class, key_of}

-- the pieces of a value
abbrev pub Pieces : Type 0
Pieces = List (List ℕ)

-- a key of a keyword as a key
abbrev pub keyword_key : List ℕ → Option (List ℕ)
keyword_key = key_of (λ x. x) (in_class is_key lowercase)

-- a key of a field as a key
abbrev pub field_key : List ℕ → Option (List ℕ)
field_key = key_of (λ x. x) (in_class is_tkey lowercase)

-- a text as the value of a keyword, in any case
abbrev pub keyword_value : List ℕ → Option Pieces
keyword_value t = if is_value t then Some (read_value t) else None

-- a text as the value of a field, in any case
abbrev pub field_value : List ℕ → Option Pieces
field_value t = if are_pieces 3 (pieces t) then Some (map lowercase (pieces t)) else None
