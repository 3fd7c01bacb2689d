-- What one walk over entries decides: the pieces are there, and each name is after the one before
-- it.
use Rattle.std.specs.Prelude.{ℕ, Bool, true, ◌&&◌, nat_lt, nat_le, ◌==◌, List, [], ◌∷◌, length}
use Rattle.std.specs.Prelude.{slice_range, Option, Some, None}
use Rattle.std.specs.Ordering.{is_lt}
use Rattle.icu_locale_core.specs.TextSet.{text_cmp}
use Rattle.icu_tables_flat.specs.Form.{group_of, row_of, is_group, is_row}

-- a text is above the one before it, if any
abbrev pub is_above : Option (List ℕ) → List ℕ → Bool
is_above None t = true
is_above (Some before) t = is_lt (text_cmp before t)

-- entries of names, after a name if any
abbrev pub groups_fit : ℕ → List ℕ → Option (List ℕ) → List (List ℕ) → Bool
groups_fit runs texts before [] = true
groups_fit runs texts before (e ∷ es) =
    is_group texts e && nat_lt (group_of texts e).1 runs && is_above before (group_of texts e).0
    && groups_fit runs texts (Some (group_of texts e).0) es

-- entries of rows, after a key if any
abbrev pub rows_fit : List ℕ → Option (List ℕ) → List (List ℕ) → Bool
rows_fit texts before [] = true
rows_fit texts before (e ∷ es) =
    is_row texts e && is_above before (row_of texts e).0
    && rows_fit texts (Some (row_of texts e).0) es

-- the rows of each run, from a row on
abbrev pub runs_fit : List ℕ → List (List ℕ) → ℕ → List ℕ → Bool
runs_fit texts rows start [] = start == length rows
runs_fit texts rows start (end ∷ later) =
    nat_le start end && nat_le end (length rows)
    && rows_fit texts None (slice_range rows start end)
    && runs_fit texts rows end later
