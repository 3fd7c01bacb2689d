-- The rows of a table of the program.
use Rattle.std.specs.Prelude.{ℕ, List, map}
use denote.Ref.{Bor}

-- the texts of a row
abbrev pub row_of : Bor (List ℕ) × Bor (List ℕ) → List ℕ × List ℕ
row_of row = (row.0.now, row.1.now)

-- the texts of each row
abbrev pub rows_of : List (Bor (List ℕ) × Bor (List ℕ)) → List (List ℕ × List ℕ)
rows_of rows = map row_of rows
