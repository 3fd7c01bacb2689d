-- A finite map as the list of its rows, a key and its value each.
use Rattle.std.specs.Prelude.{◌≡◌, ◌↔◌, List, Option, Some, is_some, if◌then◌else◌}
use Rattle.std.specs.declared.cmp.Ordering.{Ordering}
use Rattle.std.specs.declared.cmp.Ordering.TheVariants.{Equal}
use Rattle.std.specs.List.Sorted.{IsStrictlySortedBy}
use Rattle.std.specs.Map.{keys_of, lookup}
use Rattle.std.specs.BTreeMap.{is_at, insert_entry}

-- the keys rise, so no key comes twice
abbrev pub IsSortedMap : {K V : Type 0} → (K → K → Ordering) → List (K × V) → Type 0
IsSortedMap compare rows = IsStrictlySortedBy compare (keys_of rows)

-- the value at a key, if any
abbrev pub value_at : {K V : Type 0} → (K → K → Ordering) → List (K × V) → K → Option V
value_at compare rows key = lookup (is_at (compare key)) rows

-- new has the answer at the key, and at each other key what old has
abbrev pub SetsOnly : {K V : Type 0} → (K → K → Ordering) → (old new : List (K × V)) → K
    → Option V → Type 0
SetsOnly {K} compare old new key answer =
    (other : K) → value_at compare new other
    ≡ (if is_at (compare key) other then answer else value_at compare old other)

-- at each key both find the same: of rows with one key the first counts
abbrev pub FindsAlike : {K V : Type 0} → (K → K → Ordering) → (rows others : List (K × V)) → Type 0
FindsAlike {K} compare rows others =
    (key : K) → value_at compare rows key ≡ value_at compare others key

-- a row more, unless there is one with its key
abbrev pub add_first : {K V : Type 0} → (K → K → Ordering) → List (K × V) → K → V → List (K × V)
add_first compare rows key value =
    if is_some (value_at compare rows key) then rows else insert_entry compare rows key value

-- an order ties equal keys alone
abbrev pub TiesEqualAlone : {K : Type 0} → (K → K → Ordering) → Type 0
TiesEqualAlone {K} compare = (x y : K) → (compare x y ≡ Equal) ↔ (x ≡ y)
