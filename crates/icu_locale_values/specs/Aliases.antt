-- Aliases of values: at a key a value, and the one that is preferred to it (UTS #35 Part 1, Annex C "LocaleId
-- Canonicalization"; the rows are CLDR's, common/bcp47).
use Rattle.std.specs.Prelude.{ℕ, Bool, ◌||◌, List, Option, None, if◌then◌else◌}
use Rattle.std.specs.Option.{option_and_then}
use Rattle.std.specs.Str.{bytes_eq}
use Rattle.std.specs.Cmp.Lexicographic.{slice_cmp}
use Rattle.std.specs.declared.cmp.Ordering.{Ordering}
use Rattle.icu_locale_core.specs.Maps.{value_at}
use Rattle.icu_locale_core.specs.Subtag.{rg, sd}
use Rattle.icu_locale_core.specs.TextSet.{text_cmp}
use Rattle.icu_locale.specs.Canonical.{next_value}
use Rattle.icu_locale.specs.declared.canonicalizer.rules.Rules.{Rules}

-- a value, as the list of its pieces
abbrev pub Pieces : Type 0
Pieces = List (List ℕ)

-- lists of pieces in their order
abbrev pub pieces_cmp : Pieces → Pieces → Ordering
pieces_cmp = slice_cmp text_cmp

-- at each key rows of two values, of which the second is preferred to the first
abbrev pub AliasTable : Type 0
AliasTable = List (List ℕ × List (Pieces × Pieces))

-- the value preferred to another by the rows of a key, if it has any
abbrev pub preferred : {V : Type 0} → (V → V → Ordering) → Option (List (V × V)) → V → Option V
preferred order rows v = option_and_then (λ list. value_at order list v) rows

-- the value that follows another at the key of a field (Annex C, values of tfields)
abbrev pub next_field : AliasTable → List ℕ → Pieces → Option Pieces
next_field table key = preferred pieces_cmp (value_at text_cmp table key)

-- the key is `rg` or `sd`: the rules speak there, and no row of the table is asked
abbrev pub is_ruled : List ℕ → Bool
is_ruled key = bytes_eq key rg || bytes_eq key sd

-- the value that follows another at the key of a keyword, by the table alone (Annex C, values of keywords)
abbrev pub next_keyword : AliasTable → List ℕ → Pieces → Option Pieces
next_keyword table key =
    preferred pieces_cmp (if is_ruled key then None else value_at text_cmp table key)

-- the same by the rules or the table
abbrev pub next_whole : Rules → AliasTable → List ℕ → Pieces → Option Pieces
next_whole rules table key v =
    if is_ruled key then next_value rules v else next_field table key v
