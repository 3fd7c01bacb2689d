-- Shapes of JSON values. A shape is a reader: what a value of the shape says, and none elsewhere.
use Rattle.std.specs.Prelude.{ℕ, List, [], ◌∷◌, Option, Some, None, option_map, option_and_then, nat_le, if◌then◌else◌}
use Rattle.icu_locale_core.specs.TextSet.{from_list, rising}
use Rattle.serde_json.specs.Data.{Data, Items, no_items, item, Members, no_members, member}
use Rattle.serde_json.specs.Find.{as_str, as_array, as_object, as_number, as_u64}

-- what a value says, if it has the shape
abbrev pub Shape : Type 0 → Type 0
Shape A = Data → Option A

-- f at x, where both are there
abbrev pub applied : {A B : Type 0} → Option (A → B) → Option A → Option B
applied None x = None
applied (Some f) x = option_map f x

-- two values, where both are there
abbrev pub both : {A B : Type 0} → Option A → Option B → Option (A × B)
both x y = applied (option_map (λ a b. (a, b)) x) y

-- a text of any content
abbrev pub text : Shape (List ℕ)
text value = as_str value

-- a text that says something
abbrev pub text_as : {A : Type 0} → (List ℕ → Option A) → Shape A
text_as says value = option_and_then says (as_str value)

-- the items, if there are exactly two
abbrev pub two_items : Items → Option (Data × Data)
two_items (item a (item b no_items)) = Some (a, b)
two_items _ = None

-- an array of exactly these two
abbrev pub pair_of : {A B : Type 0} → Shape A → Shape B → Shape (A × B)
pair_of first second value =
    option_and_then (λ two. both (first two.0) (second two.1))
    (option_and_then two_items (as_array value))

-- the items, if there are exactly three
abbrev pub three_items : Items → Option (Data × Data × Data)
three_items (item a (item b (item c no_items))) = Some (a, b, c)
three_items _ = None

-- an array of exactly these three
abbrev pub triple_of : {A B C : Type 0} → Shape A → Shape B → Shape C → Shape (A × B × C)
triple_of first second third value =
    option_and_then (λ three. applied (applied (option_map (λ x y z. (x, y, z))
    (first three.0)) (second three.1)) (third three.2))
    (option_and_then three_items (as_array value))

-- what each item says, in order
abbrev pub each_item : {A : Type 0} → Shape A → Items → Option (List A)
each_item shape no_items = Some []
each_item shape (item value items) =
    applied (option_map (λ x xs. x ∷ xs) (shape value)) (each_item shape items)

-- an array of any number of these
abbrev pub array_of : {A : Type 0} → Shape A → Shape (List A)
array_of shape value = option_and_then (each_item shape) (as_array value)

-- an array of texts as a set: each once, in rising order
abbrev pub set_of : Shape (List ℕ) → Shape (List (List ℕ))
set_of shape value = option_map (λ texts. rising (from_list texts)) (array_of shape value)

-- a row before other rows; a member whose name is no key has none
abbrev pub with_row : {K V : Type 0} → Option K → V → List (K × V) → List (K × V)
with_row None value rows = rows
with_row (Some key) value rows = (key, value) ∷ rows

-- the rows of members; each value has the shape, also where the name is no key
abbrev pub each_row : {K V : Type 0} → (List ℕ → Option K) → Shape V
    → Members → Option (List (K × V))
each_row key shape no_members = Some []
each_row key shape (member name value members) =
    applied (option_map (with_row (key name)) (shape value)) (each_row key shape members)

-- an object whose members are rows: a map, whose keys rise as the names do
abbrev pub map_of : {K V : Type 0} → (List ℕ → Option K) → Shape V → Shape (List (K × V))
map_of key shape value = option_and_then (each_row key shape) (as_object value)

-- a number, where it is none above 0x110000
abbrev pub if_bound : ℕ → Option ℕ
if_bound n = if nat_le n 1114112 then Some n else None

-- a bound of characters: a whole number up to 0x110000
abbrev pub bound : Shape ℕ
bound value = option_and_then if_bound (option_and_then as_u64 (as_number value))
