-- The flat form of texts by name and key: which bytes are in it, and what they say.
use Rattle.std.specs.Prelude.{ℕ, ◌+◌, ◌*◌, Bool, true, ◌&&◌, ◌||◌, ◌==◌, nat_lt, nat_le, codes}
use Rattle.std.specs.Prelude.{List, [], ◌∷◌, map, length, take, drop, slice_index, slice_range}
use Rattle.std.specs.Prelude.{Option, Some, None, if◌then◌else◌}
use Rattle.std.specs.List.{list_all}
use Rattle.std.specs.Map.{keys_of}
use Rattle.std.specs.Option.{option_and_then}
use Rattle.std.specs.Ordering.{is_lt}
use Rattle.std.specs.Simd.{first_chunks}
use Rattle.std.specs.Str.{is_utf8, bytes_eq}
use Rattle.icu_locale_core.specs.TextSet.{text_cmp}
use Rattle.icu_tables_flat.specs.Flat.{FlatRows}

-- ---- what the form is made of

-- the number of two bytes at a place, the lowest first
unfoldable pub number16 : List ℕ → ℕ → ℕ
number16 bytes at = slice_index bytes at + slice_index bytes (at + 1) * 256

-- the number of four bytes at a place, the lowest first
unfoldable pub number32 : List ℕ → ℕ → ℕ
number32 bytes at = slice_index bytes at + slice_index bytes (at + 1) * 256
    + slice_index bytes (at + 2) * 65536 + slice_index bytes (at + 3) * 16777216

-- entries of names, of ends of runs and of rows, and the texts that they name pieces of
pub record FlatParts : Type 0 where
  pub groups : List (List ℕ)
  pub runs : List (List ℕ)
  pub rows : List (List ℕ)
  pub texts : List ℕ

-- a head of 20 bytes, as many entries as it says, and the texts; nothing where bytes are missing
abbrev pub flat_parts : List ℕ → Option FlatParts
flat_parts bytes =
    let groups = number32 bytes 8 * 12 in
    let runs = number32 bytes 12 * 4 in
    let rows = number32 bytes 16 * 12 in
    if nat_le 20 (length bytes) && bytes_eq (take 8 bytes) (codes "ICUTEXT1")
    && nat_le (20 + groups + runs + rows) (length bytes)
    then Some (record {
      groups = first_chunks 12 (number32 bytes 8) (drop 20 bytes);
      runs = first_chunks 4 (number32 bytes 12) (drop (20 + groups) bytes);
      rows = first_chunks 12 (number32 bytes 16) (drop (20 + groups + runs) bytes);
      texts = drop (20 + groups + runs + rows) bytes;
    })
    else None

-- ---- what the parts say

-- the piece of the texts at a place, of a length
abbrev pub piece : List ℕ → ℕ → ℕ → List ℕ
piece texts place len = slice_range texts place (place + len)

-- a name's entry: the name, and the number of its run
abbrev pub group_of : List ℕ → List ℕ → List ℕ × ℕ
group_of texts entry = (piece texts (number32 entry 0) (number32 entry 4), number32 entry 8)

-- a row's entry: the key, and the text
abbrev pub row_of : List ℕ → List ℕ → List ℕ × List ℕ
row_of texts entry = (
  piece texts (number32 entry 0) (number16 entry 8),
  piece texts (number32 entry 4) (number16 entry 10),
)

-- the ends of the runs: how many rows stand before each
abbrev pub ends : List (List ℕ) → List ℕ
ends runs = map (λ entry. number32 entry 0) runs

-- the rows of each run: from a row on to the run's end, and those of the next run from there on
abbrev pub cut : {A : Type 0} → ℕ → List ℕ → List A → List (List A)
cut start [] rows = []
cut start (end ∷ later) rows = slice_range rows start end ∷ cut end later rows

-- the names and the rows of the runs
abbrev pub said : FlatParts → FlatRows
said p = record {
  groups = map (group_of p.texts) p.groups;
  runs = map (map (row_of p.texts)) (cut 0 (ends p.runs) p.rows);
}

-- ---- which parts are in the form

-- a character of the texts begins at a place, or the texts end there
unfoldable pub is_boundary : List ℕ → ℕ → Bool
is_boundary texts at =
    at == length texts
    || (nat_lt at (length texts)
    && (nat_lt (slice_index texts at) 128 || nat_le 192 (slice_index texts at)))

-- the piece at a place, of a length, lies in the texts and cuts no character
unfoldable pub is_piece : List ℕ → ℕ → ℕ → Bool
is_piece texts place len = is_boundary texts place && is_boundary texts (place + len)

-- the piece that a name's entry names is there
abbrev pub is_group : List ℕ → List ℕ → Bool
is_group texts entry = is_piece texts (number32 entry 0) (number32 entry 4)

-- the pieces that a row's entry names are there
abbrev pub is_row : List ℕ → List ℕ → Bool
is_row texts entry =
    is_piece texts (number32 entry 0) (number16 entry 8)
    && is_piece texts (number32 entry 4) (number16 entry 10)

-- each text is below the next one, and the first is above a given one
abbrev pub rises_after : List ℕ → List (List ℕ) → Bool
rises_after before [] = true
rises_after before (t ∷ ts) = is_lt (text_cmp before t) && rises_after t ts

-- each text is below the next one
abbrev pub rises : List (List ℕ) → Bool
rises [] = true
rises (t ∷ ts) = rises_after t ts

-- ends of runs do not fall from a start on, and the last is the number of rows
abbrev pub ends_at : ℕ → ℕ → List ℕ → Bool
ends_at count start [] = start == count
ends_at count start (end ∷ later) = nat_le start end && ends_at count end later

-- the texts are UTF-8 with each piece in them, names and keys rise, and the runs are there
unfoldable pub well_formed : FlatParts → Bool
well_formed p =
    is_utf8 p.texts
    && list_all (is_group p.texts) p.groups
    && list_all (is_row p.texts) p.rows
    && rises (keys_of (said p).groups)
    && list_all (λ group. nat_lt group.1 (length p.runs)) (said p).groups
    && ends_at (length p.rows) 0 (ends p.runs)
    && list_all (λ run. rises (keys_of run)) (said p).runs

-- what bytes in the form say, and nothing where they are not in it
unfoldable pub flat_rows : List ℕ → Option FlatRows
flat_rows bytes =
    option_and_then (λ p. if well_formed p then Some (said p) else None) (flat_parts bytes)
