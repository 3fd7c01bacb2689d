-- Own names and lent ones as one list: what is found, and which keys have a name.
use Rattle.std.proofs.Common.{◌≡◌, ◌↔◌, ◌⊎◌, ◌++◌, Bool, true, false, cond, List, [], ◌∷◌, Option, Some, None, is_eq, is_some, refl, sym, ap, ◌∙◌, inl, inr}
use Rattle.std.specs.Prelude.{IsTrue}
use Rattle.std.specs.List.{Contains}
use Rattle.std.specs.Option.{option_or}
use Rattle.std.specs.declared.cmp.Ordering.{Ordering}
use Rattle.std.proofs.lemmas.Bool.{false≢true}
use Rattle.std.proofs.lemmas.List.Elements.{Contains-append_left, Contains-append_right, Contains-append_cases}
use Rattle.icu_locale_core.specs.Maps.{value_at}
use Rattle.icu_provider.specs.Requests.{name_cmp}
use Rattle.icu_provider.specs.declared.names.NameKey.{NameKey}
use Rattle.icu_tables.specs.Groups.{NameGroup, request_of}
use Rattle.icu_tables.proofs.NamedKeys.{Rows}

-- in one list after another the first is asked first
pub found_in_both : {K V : Type 0} (compare : K → K → Ordering) (rows more : List (K × V)) (key : K)
    → value_at compare (rows ++ more) key ≡ option_or (value_at compare rows key) (value_at compare more key)
found_in_both compare [] more key = refl
found_in_both {K} {V} compare (row ∷ rows) more key =
    ap (λ found. cond (is_eq (compare key row.0)) (Some row.1) found) (found_in_both compare rows more key)
    ∙ turned (is_eq (compare key row.0)) (value_at compare rows key)
  where
    turned : (tied : Bool) (found : Option V) → cond tied (Some row.1) (option_or found (value_at compare more key))
        ≡ option_or (cond tied (Some row.1) found) (value_at compare more key)
    turned true found = refl
    turned false found = refl

either_there : {T : Type 0} (a b : Option T) → is_some (option_or a b) ≡ true → (is_some a ≡ true) ⊎ (is_some b ≡ true)
either_there None b there = inr there
either_there (Some x) b there = inl refl

first_there : {T : Type 0} (a b : Option T) → is_some a ≡ true → is_some (option_or a b) ≡ true
first_there None b there = absurd (false≢true there)
first_there (Some x) b there = refl

second_there : {T : Type 0} (a b : Option T) → is_some b ≡ true → is_some (option_or a b) ≡ true
second_there None b there = there
second_there (Some x) b there = refl

-- which keys have a name in a group
abbrev pub AreKeysOf : Rows → NameGroup → List NameKey → Type 0
AreKeysOf rows group keys = (key : NameKey) → Contains keys key ↔ IsTrue (is_some (value_at name_cmp rows (request_of group key)))

-- those of two lists are those of the one list
pub keys_of_both : (own more : Rows) (g : NameGroup) (xs ys : List NameKey) → AreKeysOf own g xs → AreKeysOf more g ys → AreKeysOf (own ++ more) g (xs ++ ys)
keys_of_both own more g xs ys first second = λ key. (
  λ c. found key ∙ there key (Contains-append_cases xs ys key c),
  λ h. back key (either_there (value_at name_cmp own (request_of g key)) (value_at name_cmp more (request_of g key)) (sym (found key) ∙ h)),
)
  where
    found : (key : NameKey) → is_some (value_at name_cmp (own ++ more) (request_of g key))
        ≡ is_some (option_or (value_at name_cmp own (request_of g key)) (value_at name_cmp more (request_of g key)))
    found key = ap is_some (found_in_both name_cmp own more (request_of g key))

    there : (key : NameKey) → Contains xs key ⊎ Contains ys key
        → is_some (option_or (value_at name_cmp own (request_of g key)) (value_at name_cmp more (request_of g key))) ≡ true
    there key (inl c) = first_there _ _ ((first key).0 c)
    there key (inr c) = second_there (value_at name_cmp own (request_of g key)) _ ((second key).0 c)

    back : (key : NameKey) → (is_some (value_at name_cmp own (request_of g key)) ≡ true) ⊎ (is_some (value_at name_cmp more (request_of g key)) ≡ true)
        → Contains (xs ++ ys) key
    back key (inl h) = Contains-append_left xs ys key ((first key).1 h)
    back key (inr h) = Contains-append_right xs ys key ((second key).1 h)
