-- Brackets inside brackets: round ones are square (UTS #35 Part 2, "Locale Display Name Algorithm").
use Rattle.std.specs.Prelude.{ℕ, List, map, chars, encode_utf8_all, ◌==◌, if◌then◌else◌}
use Rattle.icu_locale_names.specs.Pieces.{Piece}

-- a round bracket as a square one: `(`, `)`, and the wide ones U+FF08 and U+FF09
abbrev pub square : ℕ → ℕ
square c =
    if c == 40 then 91 else
    (if c == 41 then 93 else
    (if c == 65288 then 65339 else
    (if c == 65289 then 65341 else c)))

-- a text with square brackets
abbrev pub square_text : List ℕ → List ℕ
square_text t = encode_utf8_all (map square (chars t))

abbrev pub square_piece : Piece → Piece
square_piece p = record { text = square_text p.text; raw = p.raw }

-- pieces with square brackets
abbrev pub squared : List Piece → List Piece
squared pieces = map square_piece pieces
