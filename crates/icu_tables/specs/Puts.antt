-- Objects whose members put rows into a map, one after another.
use Rattle.std.specs.Prelude.{ℕ, List, [], ◌∷◌, ◌++◌, Option, Some, option_map, option_and_then}
use Rattle.std.specs.declared.cmp.Ordering.{Ordering}
use Rattle.std.specs.BTreeMap.{insert_entry}
use Rattle.serde_json.specs.Data.{Members, no_members, member}
use Rattle.serde_json.specs.Find.{as_object}
use Rattle.icu_tables.specs.Shape.{Shape, applied}

-- a map with each of these rows put into it
abbrev pub put_all : {K V : Type 0} → (K → K → Ordering) → List (K × V) → List (K × V)
    → List (K × V)
put_all compare old [] = old
put_all compare old (row ∷ rows) = put_all compare (insert_entry compare old row.0 row.1) rows

-- the rows of members, by their names and values
abbrev pub each_put : {R : Type 0} → (List ℕ → Shape (List R)) → Members → Option (List R)
each_put says no_members = Some []
each_put says (member name value members) =
    applied (option_map (λ rows more. rows ++ more) (says name value)) (each_put says members)

-- the rows of an object, member by member
abbrev pub rows_by : {R : Type 0} → (List ℕ → Shape (List R)) → Shape (List R)
rows_by says value = option_and_then (each_put says) (as_object value)

-- the map of the rows of an object
abbrev pub map_by : {K V : Type 0} → (K → K → Ordering) → (List ℕ → Shape (List (K × V)))
    → Shape (List (K × V))
map_by compare says value = option_map (put_all compare []) (rows_by says value)
