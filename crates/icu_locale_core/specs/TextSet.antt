-- Finite sets of texts: what a contract sees of the variants of an identifier.
use Rattle.std.specs.Prelude.{ℕ, Bool, not, List, [], ◌∷◌, ◌++◌, length, map, is_some}
use Rattle.std.specs.List.{filter, list_all}
use Rattle.std.specs.Coded.{Coded, coded_ℕ, coded_list}
use base.Stored.{coded_unit}
use Rattle.std.specs.Cmp.Lexicographic.{slice_cmp}
use Rattle.std.specs.Ordering.{nat_cmp}
use Rattle.std.specs.declared.cmp.Ordering.{Ordering}
use Rattle.std.specs.FinMap as fin

-- texts in the order of their bytes
abbrev pub text_cmp : List ℕ → List ℕ → Ordering
text_cmp = slice_cmp nat_cmp

-- a finite set of texts: two are equal where they have the same members
abbrev pub TextSet : Type 0
TextSet = fin.FinMap text_cmp (Unit {0})

-- how a set is stored as a value
abbrev pub text_set_code : Coded TextSet
text_set_code = fin.code (coded_list coded_ℕ) coded_unit

-- the set without members
abbrev pub empty : TextSet
empty = fin.empty

-- whether a text is a member
abbrev pub contains : TextSet → List ℕ → Bool
contains s t = is_some (fin.get s t)

-- the set of the texts of a list
abbrev pub from_list : List (List ℕ) → TextSet
from_list [] = fin.empty
from_list (t ∷ ts) = fin.insert (from_list ts) t tt

-- the members, each once, in rising order
abbrev pub rising : TextSet → List (List ℕ)
rising s = fin.keys s

-- how many members there are
abbrev pub len : TextSet → ℕ
len s = length (rising s)

-- every member of s is one of u
abbrev pub is_subset : TextSet → TextSet → Bool
is_subset s u = list_all (contains u) (rising s)

-- the members of either
abbrev pub union : TextSet → TextSet → TextSet
union s u = from_list (rising s ++ rising u)

-- the members of s that u does not have
abbrev pub difference : TextSet → TextSet → TextSet
difference s u = from_list (filter (λ t. not (contains u t)) (rising s))

-- what f makes of the members
abbrev pub image : (List ℕ → List ℕ) → TextSet → TextSet
image f s = from_list (map f (rising s))
