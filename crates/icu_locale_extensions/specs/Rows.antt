-- How fields and other extensions are written: finite maps from a mark to its pieces.
use Rattle.std.specs.Prelude.{ℕ, not, List, ◌∷◌, ◌++◌, filter, codes}
use Rattle.std.specs.List.{flat_map}
use Rattle.std.specs.Ordering.{is_lt}
use Rattle.icu_locale_core.specs.TextSet.{text_cmp}
use Rattle.icu_locale_core.specs.Cuts.{Block}

-- each mark, followed by its pieces
abbrev pub flat : List Block → List (List ℕ)
flat rows = flat_map (λ row. row.0 ∷ row.1) rows

-- pieces with `-` before each
abbrev pub dashed : List (List ℕ) → List ℕ
dashed ps = flat_map (λ p. codes "-" ++ p) ps

-- a row, with `-` before its mark and each of its pieces
abbrev pub dashed_row : Block → List ℕ
dashed_row row = dashed (row.0 ∷ row.1)

-- the extensions before t
abbrev pub below_t : List Block → List Block
below_t others = filter (λ e. is_lt (text_cmp e.0 (codes "t"))) others

-- the extensions after t, and so after u
abbrev pub above_t : List Block → List Block
above_t others = filter (λ e. not (is_lt (text_cmp e.0 (codes "t")))) others
