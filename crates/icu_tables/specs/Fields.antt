-- Objects of fixed members.
use Rattle.std.specs.Prelude.{ℕ, Bool, true, false, ◌&&◌, List, [], ◌∷◌, ◌++◌, if◌then◌else◌, Option, Some, None, option_map, unwrap_or, nat_eq}
use Rattle.std.specs.Cmp.Lexicographic.{pointwise}
use Rattle.std.specs.List.{list_any}
use Rattle.serde_json.specs.Data.{Data, Members, no_members, member}
use Rattle.serde_json.specs.Find.{as_object, get}
use Rattle.icu_tables.specs.Shape.{Shape, applied}

-- the members that an object may have, by name, and what the object says
pub record Fields (A : Type 0) : Type 0 where
  pub names : List (List ℕ)
  pub say : Shape A

-- what a member says, and what stands for one that is absent
abbrev pub said_or : {A : Type 0} → Option A → Shape A → Option Data → Option A
said_or absent shape None = absent
said_or absent shape (Some value) = shape value

-- one member, and what stands for it where it is absent
abbrev pub field : {A : Type 0} → List ℕ → Option A → Shape A → Fields A
field name absent shape = record {
  names = name ∷ [];
  say = λ object. said_or absent shape (get name object);
}

-- a member that has to be there
abbrev pub required : {A : Type 0} → List ℕ → Shape A → Fields A
required name shape = field name None shape

-- a member of rows, of which there are none where it is absent
abbrev pub rows : {A : Type 0} → List ℕ → Shape (List A) → Fields (List A)
rows name shape = field name (Some []) shape

-- a value that is there
abbrev pub present : {A : Type 0} → Shape A → Shape (Option A)
present shape value = option_map (λ x. Some x) (shape value)

-- a member that may be left out
abbrev pub optional : {A : Type 0} → List ℕ → Shape A → Fields (Option A)
optional name shape = field name (Some None) (present shape)

-- no member yet, and what those to come are put together by
abbrev pub fields : {A : Type 0} → A → Fields A
fields make = record { names = []; say = λ object. Some make }

infixl 5 ◌and◌
-- these members, and one more
abbrev pub ◌and◌ : {A B : Type 0} → Fields (A → B) → Fields A → Fields B
these and more = record {
  names = these.names ++ more.names;
  say = λ object. applied (these.say object) (more.say object);
}

-- a name is one of these
abbrev pub is_name_listed : List (List ℕ) → List ℕ → Bool
is_name_listed names name = list_any (λ known. pointwise nat_eq known name) names

-- each member has one of these names
abbrev pub are_listed : List (List ℕ) → Members → Bool
are_listed names no_members = true
are_listed names (member name value members) = is_name_listed names name && are_listed names members

-- an object with no member but those of these names
abbrev pub has_only : List (List ℕ) → Data → Bool
has_only names value = unwrap_or (option_map (are_listed names) (as_object value)) false

-- an object of these members and no other
abbrev pub object_of : {A : Type 0} → Fields A → Shape A
object_of known value = if has_only known.names value then known.say value else None
