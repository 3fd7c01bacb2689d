-- The status of subtags, and of what a key takes as its value (UTS #35 Part 1, sections 3.6, 3.7 and 3.11).
use Rattle.std.specs.Prelude.{ℕ, Bool, true, false, ◌&&◌, ◌||◌, ◌==◌, nat_eq, List, [], ◌∷◌, codes, length, Option, Some, None, if◌then◌else◌}
use Rattle.std.specs.Char.{is_ascii_hexdigit}
use Rattle.std.specs.Cmp.Lexicographic.{slice_cmp}
use Rattle.std.specs.List.{ends_with, list_all}
use Rattle.std.specs.Option.{option_and_then, option_or}
use Rattle.std.specs.Ordering.{is_le}
use Rattle.std.specs.declared.cmp.Ordering.{Ordering}
use Rattle.icu_locale_core.specs.Maps.{value_at}
use Rattle.icu_locale_core.specs.Subtag.{has_length, is_numeric, is_script, titlecase}
use Rattle.icu_locale_core.specs.TextSet.{text_cmp}
use Rattle.icu_locale_validity.specs.Statuses.{is_usable, is_valid_status}
use Rattle.icu_locale_validity.specs.declared.table.CodeKind.{CodeKind}
use Rattle.icu_locale_validity.specs.declared.table.CodeKind.TheVariants.{Script, Subdivision, RegionOverride, Currency, CodePoint, Date, Any}
use Rattle.icu_locale_validity.specs.declared.table.KeyTypes.{KeyTypes}
use Rattle.icu_locale_validity.specs.declared.table.Status.{Status}
use Rattle.icu_locale_validity.specs.declared.table.Status.TheVariants.{Regular, PrivateUse}
use Rattle.icu_locale_validity.specs.declared.table.Validity.{Validity}

-- values in the order of their pieces
abbrev pub value_cmp : List (List ℕ) → List (List ℕ) → Ordering
value_cmp = slice_cmp text_cmp

-- what a key of keywords or of fields takes
abbrev pub Types : Type 0
Types = KeyTypes (List (List ℕ))

-- ---- one piece

-- a code point in four to six hexadecimal digits: of six digits at most 10ffff
abbrev pub is_code_point : List ℕ → Bool
is_code_point p = list_all is_ascii_hexdigit p
    && (has_length 4 5 p || ((length p == 6) && is_le (text_cmp p (codes "10ffff"))))

-- a date: a year, a month or a day in 4, 6 or 8 digits (RFC 6497, section 2.2)
abbrev pub is_date : List ℕ → Bool
is_date p = is_numeric p && ((length p == 4) || ((length p == 6) || (length p == 8)))

-- a key takes dates
abbrev pub takes_dates : Option CodeKind → Bool
takes_dates None = false
takes_dates (Some Script) = false
takes_dates (Some Subdivision) = false
takes_dates (Some RegionOverride) = false
takes_dates (Some Currency) = false
takes_dates (Some CodePoint) = false
takes_dates (Some Date) = true
takes_dates (Some Any) = false

-- a region as a whole, as `uszzzz`, which is no subdivision of it (section 3.6.5)
abbrev pub is_whole_region : List ℕ → Bool
is_whole_region p = ends_with nat_eq p (codes "zzzz")

-- a code that no list has, but a form
abbrev pub of_form : Bool → Option Status
of_form true = Some Regular
of_form false = None

-- the status of a piece as a code of a kind; a script is listed in its written case
abbrev pub code_of_kind : Validity → Option CodeKind → List ℕ → Option Status
code_of_kind v None p = None
code_of_kind v (Some Script) p =
    if is_script p then value_at text_cmp v.scripts (titlecase p) else None
code_of_kind v (Some Subdivision) p =
    if is_whole_region p then None else value_at text_cmp v.subdivisions p
code_of_kind v (Some RegionOverride) p = value_at text_cmp v.subdivisions p
code_of_kind v (Some Currency) p = value_at text_cmp v.currencies p
code_of_kind v (Some CodePoint) p = of_form (is_code_point p)
code_of_kind v (Some Date) p = of_form (is_date p)
code_of_kind v (Some Any) p = Some PrivateUse

-- the kind of a code before these pieces: a date is the last of all (RFC 6497, section 2.2)
abbrev pub kind_before : Option CodeKind → List (List ℕ) → Option CodeKind
kind_before kind [] = kind
kind_before kind (p ∷ ps) = if takes_dates kind then None else kind

-- a piece before these is listed as a value of one piece, or it is a code of the key's kind
abbrev pub piece_status : Validity → Types → List ℕ → List (List ℕ) → Option Status
piece_status v row p ps =
    option_or (value_at value_cmp row.types (p ∷ [])) (code_of_kind v (kind_before row.kind ps) p)

-- ---- all pieces of a value

-- the first status that is not that of a valid code, and Regular where there is none
abbrev pub first_fault : List (Option Status) → Option Status
first_fault [] = Some Regular
first_fault (s ∷ ss) = if is_valid_status s then first_fault ss else s

-- the status of each piece
abbrev pub statuses : Validity → Types → List (List ℕ) → List (Option Status)
statuses v row [] = []
statuses v row (p ∷ ps) = piece_status v row p ps ∷ statuses v row ps

-- a piece before these is a date, and may be one
abbrev pub is_last_date : Option CodeKind → List ℕ → List (List ℕ) → Bool
is_last_date kind p ps = takes_dates (kind_before kind ps) && is_date p

-- a value is told by its pieces where it has one, or a date behind that, or more and the key takes more
abbrev pub is_told_by_pieces : Bool → Option CodeKind → List (List ℕ) → Bool
is_told_by_pieces many kind [] = false
is_told_by_pieces many kind (p ∷ []) = true
is_told_by_pieces many kind (p ∷ q ∷ ps) = many || is_last_date kind q ps

abbrev pub pieces_status : Validity → Types → List (List ℕ) → Option Status
pieces_status v row value =
    if is_told_by_pieces row.many row.kind value then first_fault (statuses v row value) else None

-- a value has its status where it is listed, and else that of its pieces
abbrev pub type_status : Validity → Types → List (List ℕ) → Option Status
type_status v row value =
    option_or (value_at value_cmp row.types value) (pieces_status v row value)

-- ---- a key and its value

-- a key that may not be used has its own status, and any other that of its value
abbrev pub row_status : Validity → List (List ℕ) → Types → Option Status
row_status v value row =
    if is_usable row.status then type_status v row value else Some row.status

abbrev pub keyword_status : Validity → List ℕ → List (List ℕ) → Option Status
keyword_status v key value =
    option_and_then (row_status v value) (value_at text_cmp v.keywords key)

abbrev pub field_status : Validity → List ℕ → List (List ℕ) → Option Status
field_status v key value =
    option_and_then (row_status v value) (value_at text_cmp v.fields key)
