-- The header Accept-Language (RFC 9110, section 12.5.4).
use Rattle.std.specs.Prelude.{◌≡◌, ◌≤◌, ℕ, Bool, ◌==◌, ◌||◌, ◌&&◌, not, List, [], ◌∷◌, filter, take, length, codes, nat_lt, Option, Some, None, if◌then◌else◌, AllPairs}
use Rattle.std.specs.List.{slice_split, filter_map, list_any, before_first, after_first}
use Rattle.std.specs.Option.{option_map}
use Rattle.std.specs.Str.{bytes_eq}
use Rattle.icu_locale_core.specs.Subtag.{lowercase}
use Rattle.icu_locale_matching.specs.Weights.{qvalue}
use Rattle.icu_locale_matching.specs.declared.header.LentWish.{LentWish}

-- a language range, and its weight in thousandths
abbrev pub Wish : Type 0
Wish = List ℕ × ℕ

-- a wish behind its reference
abbrev pub shown : LentWish → Wish
shown w = (w.range.now, w.weight)

-- OWS of section 5.6.3: a space or a tab
abbrev pub is_space : ℕ → Bool
is_space c = (c == 32) || (c == 9)

-- a text without the white space before it
abbrev pub trim_start : List ℕ → List ℕ
trim_start [] = []
trim_start (c ∷ cs) = if is_space c then trim_start cs else c ∷ cs

-- a character before a text, left out where that is empty and this a space
abbrev pub before_trimmed : ℕ → List ℕ → List ℕ
before_trimmed c cs = if is_space c && (length cs == 0) then [] else c ∷ cs

-- a text without the white space after it
abbrev pub trim_end : List ℕ → List ℕ
trim_end [] = []
trim_end (c ∷ cs) = before_trimmed c (trim_end cs)

abbrev pub trim : List ℕ → List ℕ
trim t = trim_end (trim_start t)

-- `=`, which is 61
abbrev pub is_equals : ℕ → Bool
is_equals c = c == 61

-- a parameter is the weight: its name is `q`, in any case
abbrev pub is_weight : List ℕ → Bool
is_weight p = bytes_eq (lowercase (trim (before_first is_equals p))) (codes "q")

-- the weight of the first parameter that is one, 1 where none is; none where that cannot be read
abbrev pub weight : List (List ℕ) → Option ℕ
weight [] = Some 1000
weight (p ∷ ps) = if is_weight p then qvalue (trim (after_first is_equals p)) else weight ps

-- a range and parameters, apart by `;`, as a wish, if there is a range and its weight can be read
abbrev pub wish_of : List (List ℕ) → Option Wish
wish_of [] = None
wish_of (r ∷ ps) = if length (trim r) == 0 then None else option_map (λ w. (trim r, w)) (weight ps)

-- an element as a wish, if it can be read; `;` is 59. Parameters that are no weight are passed over
abbrev pub read_element : List ℕ → Option Wish
read_element e = wish_of (slice_split (λ b. b == 59) e)

-- the parts of a header, apart by `,`, which is 44
abbrev pub parts_of : List ℕ → List (List ℕ)
parts_of header = slice_split (λ b. b == 44) header

-- a part is empty, white space aside
abbrev pub is_blank : List ℕ → Bool
is_blank part = length (trim part) == 0

-- of some parts those that are elements: an empty one is none (section 5.6.1.2)
abbrev pub elements_among : List (List ℕ) → List (List ℕ)
elements_among parts = filter (λ p. not (is_blank p)) parts

-- the elements of a header
abbrev pub elements_of : List ℕ → List (List ℕ)
elements_of header = elements_among (parts_of header)

-- the wishes of the first hundred elements
abbrev pub wishes_of : List ℕ → List Wish
wishes_of header = filter_map read_element (take 100 (elements_of header))

-- of a weight
abbrev pub has_weight : ℕ → Wish → Bool
has_weight n w = w.1 == n

-- the same wishes by falling weight, those of equal weight in their order
pub record AreByWeight (wishes sorted : List Wish) : Type 0 where
  pub falls : AllPairs (λ v w. w.1 ≤ v.1) sorted
  pub same : (n : ℕ) → filter (has_weight n) sorted ≡ filter (has_weight n) wishes

-- those that are wanted: their weight is above 0
abbrev pub wanted : List Wish → List Wish
wanted wishes = filter (λ w. nat_lt 0 w.1) wishes

-- those that are refused: their weight is 0
abbrev pub refused : List Wish → List Wish
refused wishes = filter (has_weight 0) wishes

-- `*`, which is 42
abbrev pub is_any : Wish → Bool
is_any w = bytes_eq w.0 (codes "*")

-- `*` is refused: what is served is to be named
abbrev pub refuses_any : List Wish → Bool
refuses_any wishes = list_any is_any (refused wishes)

-- any language is wanted
abbrev pub wants_any : List Wish → Bool
wants_any wishes = list_any is_any (wanted wishes)
