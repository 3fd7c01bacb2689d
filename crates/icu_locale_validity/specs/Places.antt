-- Where a part lies in a text that spells a locale.
use Rattle.std.specs.Prelude.{◌≡◌, ◌⊎◌, ◌≤◌, ◌++◌, ℕ, ◌+◌, suc, Bool, true, false, ◌&&◌, not, List, [], ◌∷◌, length, take, drop, filter, ◌-◌, codes, nat_lt, Option, Some, None, if◌then◌else◌}
use Rattle.std.specs.Cmp.Lexicographic.{pointwise}
use Rattle.std.specs.List.{before_first, list_all}
use Rattle.std.specs.Option.{option_map}
use Rattle.icu_locale_core.specs.Identifier.{pieces}
use Rattle.icu_locale_core.specs.Subtag.{lowercase}
use Rattle.icu_locale_core.specs.laws.Identifiers.{same_text}
use Rattle.icu_locale_extensions.specs.Extensions.{any_piece}
use Rattle.icu_locale_extensions.specs.Syntaxes.{ends_base}
use Rattle.icu_locale_validity.specs.declared.part.PartKind.{PartKind}
use Rattle.icu_locale_validity.specs.declared.part.PartKind.TheVariants.{Language, Script, Region, Variant, Attribute, Keyword, Field, Extension}

-- two pieces are one, case aside
abbrev pub is_spelled : (p q : List ℕ) → Bool
is_spelled p q = same_text (lowercase p) (lowercase q)

-- ---- the pieces of a part

-- a part that has pieces behind its first, which is a key or a singleton
abbrev pub has_value : PartKind → Bool
has_value Language = false
has_value Script = false
has_value Region = false
has_value Variant = false
has_value Attribute = false
has_value Keyword = true
has_value Field = true
has_value Extension = true

-- a piece belongs to the part whose first piece is so long: the next key or singleton is no longer (section 3.2)
abbrev pub belongs : PartKind → ℕ → List ℕ → Bool
belongs kind long p = has_value kind && nat_lt long (length p)

-- the piece `true` of a keyword, which is not kept (section 3.2.1)
abbrev pub is_left_out : PartKind → List ℕ → Bool
is_left_out Language p = false
is_left_out Script p = false
is_left_out Region p = false
is_left_out Variant p = false
is_left_out Attribute p = false
is_left_out Keyword p = is_spelled p (codes "true")
is_left_out Field p = false
is_left_out Extension p = false

-- the first of these is spelled by a piece
abbrev pub is_first : List ℕ → List (List ℕ) → Bool
is_first p [] = false
is_first p (w ∷ ws) = is_spelled p w

abbrev pub behind_first : List (List ℕ) → List (List ℕ)
behind_first [] = []
behind_first (w ∷ ws) = ws

-- the pieces that belong to a part spell these
abbrev pub spells_value : PartKind → ℕ → (wanted ps : List (List ℕ)) → Bool
spells_value kind long ws [] = not (any_piece ws)
spells_value kind long ws (p ∷ ps) = if belongs kind long p
    then (if is_left_out kind p then spells_value kind long ws ps
    else is_first p ws && spells_value kind long (behind_first ws) ps)
    else not (any_piece ws)

-- a part of these pieces is at the front of others
abbrev pub begins : PartKind → (wanted ps : List (List ℕ)) → Bool
begins kind [] ps = false
begins kind (w ∷ ws) [] = false
begins kind (w ∷ ws) (p ∷ ps) = is_spelled p w && spells_value kind (length p) ws ps

-- all of these pieces spell a part: but for what is left out, each is one of it
abbrev pub spells_part : PartKind → (wanted ps : List (List ℕ)) → Bool
spells_part kind [] ps = false
spells_part kind (w ∷ ws) [] = false
spells_part kind (w ∷ ws) (p ∷ ps) =
    is_spelled p w && pointwise is_spelled (filter (λ q. not (is_left_out kind q)) ps) ws

-- the bytes of the pieces that belong to a part, each with the separator before it
abbrev pub value_bytes : PartKind → ℕ → List (List ℕ) → ℕ
value_bytes kind long [] = 0
value_bytes kind long (p ∷ ps) =
    if belongs kind long p then suc (length p + value_bytes kind long ps) else 0

-- the bytes of the part at the front of pieces
abbrev pub part_bytes : PartKind → List (List ℕ) → ℕ
part_bytes kind [] = 0
part_bytes kind (p ∷ ps) = length p + value_bytes kind (length p) ps

-- ---- its place

-- the marks that are still to be passed behind a piece: all but the first, if the piece is that one
abbrev pub marks_behind : List ℕ → List (List ℕ) → List (List ℕ)
marks_behind p [] = []
marks_behind p (m ∷ ms) = if is_spelled p m then ms else m ∷ ms

-- a byte counted from a piece, and not from what is behind it and its separator
abbrev pub behind : List ℕ → Option ℕ → Option ℕ
behind p place = option_map (λ n. suc (length p) + n) place

-- the first byte of a part: the first place behind all marks where it is at the front
abbrev pub stand : PartKind → (marks wanted ps : List (List ℕ)) → Option ℕ
stand kind marks wanted [] = None
stand kind marks wanted (p ∷ ps) =
    if not (any_piece marks) && begins kind wanted (p ∷ ps) then Some 0
    else behind p (stand kind (marks_behind p marks) wanted ps)

-- what of a text the parts lie in: it ends before the codeset and the modifier of a POSIX locale
abbrev pub base_of : List ℕ → List ℕ
base_of t = before_first ends_base t

-- the bytes from a place of t on that are those of the part there; all of t where it has no place, as where t is a
-- legacy tag
abbrev pub span_of : PartKind → List ℕ → Option ℕ → ℕ × ℕ
span_of kind t None = (0, length t)
span_of kind t (Some n) = (n, n + part_bytes kind (pieces (drop n (base_of t))))

-- the bytes of t at which a part of this kind and with the pieces of a text lies behind the marks: the first, and the one
-- after the last
abbrev pub place_of : (t : List ℕ) → PartKind → (marks : List (List ℕ)) (wanted : List ℕ) → ℕ × ℕ
place_of t kind marks wanted =
    span_of kind t (stand kind marks (pieces wanted) (pieces (base_of t)))

-- the bytes of a text at a place
abbrev pub bytes_at : List ℕ → ℕ × ℕ → List ℕ
bytes_at t place = take (place.1 - place.0) (drop place.0 t)

-- ---- its place, told by the pieces of the text

-- pieces pass marks: one of them spells the first mark, and those behind it pass the other marks
abbrev pub PassMarks : (ps marks : List (List ℕ)) → Type 0
PassMarks ps [] = Unit {0}
PassMarks ps (m ∷ ms) =
    (front : List (List ℕ)) × (p : List ℕ) × (others : List (List ℕ))
    × (ps ≡ front ++ (p ∷ others)) × (is_spelled p m ≡ true) × PassMarks others ms

-- how many bytes pieces have, with a separator after each
abbrev pub spaced : List (List ℕ) → ℕ
spaced [] = 0
spaced (p ∷ ps) = suc (length p + spaced ps)

-- a part lies among pieces: its first and its value stand between those before and those after
pub record LiesAmong (kind : PartKind) (marks wanted ps : List (List ℕ))
    (before : List (List ℕ)) (first : List ℕ) (value after : List (List ℕ)) : Type 0 where
  -- these are all of the pieces, in this order
  pub split : ps ≡ before ++ ((first ∷ value) ++ after)
  -- the pieces before it pass all marks
  pub passed : PassMarks before marks
  -- its own pieces spell the part
  pub spelled : spells_part kind wanted (first ∷ value) ≡ true
  -- each of them behind its first belongs to it
  pub belong : list_all (belongs kind (length first)) value ≡ true
  -- the piece after it does not belong to it, if there is one
  pub ended : (p : List ℕ) (ps : List (List ℕ)) → after ≡ p ∷ ps
      → belongs kind (length first) p ≡ false

-- a part lies at the bytes of its own pieces, and nowhere sooner among all pieces
pub record LiesFirstAt (kind : PartKind) (marks wanted ps : List (List ℕ)) (place : ℕ × ℕ)
    : Type 0 where
  pub before : List (List ℕ)
  pub first : List ℕ
  pub value : List (List ℕ)
  pub after : List (List ℕ)
  pub lies : LiesAmong kind marks wanted ps before first value after
  -- it begins behind the pieces before it and their separators
  pub begins_at : place.0 ≡ spaced before
  -- it ends with its last piece, before the separator of that
  pub ends_at : suc place.1 ≡ spaced (before ++ (first ∷ value))
  -- wherever else it lies, as many bytes are before it or more
  pub soonest : (others : List (List ℕ)) (p : List ℕ) (vs qs : List (List ℕ))
      → LiesAmong kind marks wanted ps others p vs qs → place.0 ≤ spaced others

-- a part lies nowhere among pieces
abbrev pub LiesNowhere : PartKind → (marks wanted ps : List (List ℕ)) → Type 0
LiesNowhere kind marks wanted ps =
    (before : List (List ℕ)) (first : List ℕ) (value after : List (List ℕ))
    → ¬ (LiesAmong kind marks wanted ps before first value after)

-- the place of a part in t: where it lies first, and all of t where it lies nowhere
abbrev pub IsPlaceOf : (t : List ℕ) → PartKind → (marks : List (List ℕ)) (wanted : List ℕ)
    → ℕ × ℕ → Type 0
IsPlaceOf t kind marks wanted place =
    LiesFirstAt kind marks (pieces wanted) (pieces (base_of t)) place
    ⊎ (LiesNowhere kind marks (pieces wanted) (pieces (base_of t)) × (place ≡ (0, length t)))
