-- Arrays: how many items there are, and what each that was read or refused says of the whole; texts as a set.
use Rattle.std.proofs.Common.{◌≡◌, Option, Some, None, refl, ap, ◌∙◌, ℕ, List, [], ◌∷◌, ◌++◌, length, drop, map, option_map, sym, append_assoc}
use Rattle.std.proofs.Common.{nat_eq, subst, get_or, ◌+◌, ◌<◌, ◌≤◌}
use Rattle.std.specs.Cmp.Lexicographic.{pointwise, texts_ties}
use Rattle.std.specs.List.{dedup}
use Rattle.std.specs.List.Sorted.{IsStrictlySortedBy, IsSorted, IsPermutation}
use Rattle.std.proofs.lemmas.List.{append-nil, at_drop_more, drop_all, map-append}
use Rattle.std.proofs.lemmas.List.Kept.{IsStrictlySortedBy-dedup}
use Rattle.serde_json.specs.View.{view}
use Rattle.icu_tables.specs.declared.error.TableError.{TableError}
use Rattle.icu_tables.specs.inner.Reads.{Refuses}
use Rattle.icu_tables.specs.Shape.{applied, Shape, two_items, three_items, each_item}
use Rattle.serde_json.specs.View.{items_view}
use Rattle.serde_json.specs.declared.value.Value.{Value}
use Rattle.icu_locale_core.specs.TextSet.{text_cmp, from_list, rising}
use Rattle.icu_locale_core.specs.laws.TextSets.{text_total}
use Rattle.icu_locale_core.specs.laws.RisingLists.{rising-from_list, from_list-dedup}
use Rattle.icu_tables.specs.declared.error.TableError.TheVariants as refusal

applied-none : {A B : Type 0} (made : Option (A → B)) → applied made None ≡ None
applied-none None = refl
applied-none (Some f) = refl

-- the last member is refused
pub refused_last : {A B : Type 0} (e : TableError) (made : Option (A → B)) (said : Option A) → Refuses e said → Refuses e (applied made said)
refused_last refusal.Json made said h = h
refused_last refusal.Shape made said h = ap (applied made) h ∙ applied-none made
refused_last refusal.Memory made said h = tt

-- one before it is
pub refused_before : {A B : Type 0} (e : TableError) (made : Option (A → B)) (said : Option A) → Refuses e made → Refuses e (applied made said)
refused_before refusal.Json made said h = h
refused_before refusal.Shape made said h = ap (λ f. applied f said) h
refused_before refusal.Memory made said h = tt

-- no two items where there are others than two
pub two_items-other : (values : List Value) → (length values ≡ 2 → ⊥) → two_items (items_view values) ≡ None
two_items-other [] other = refl
two_items-other (a ∷ []) other = refl
two_items-other (a ∷ b ∷ []) other = absurd (other refl)
two_items-other (a ∷ b ∷ c ∷ values) other = refl

-- no three items where there are others than three
pub three_items-other : (values : List Value) → (length values ≡ 3 → ⊥) → three_items (items_view values) ≡ None
three_items-other [] other = refl
three_items-other (a ∷ []) other = refl
three_items-other (a ∷ b ∷ []) other = refl
three_items-other (a ∷ b ∷ c ∷ []) other = absurd (other refl)
three_items-other (a ∷ b ∷ c ∷ d ∷ values) other = refl

-- a list before what follows, if that is there
abbrev pub prefixed : {A : Type 0} → List A → Option (List A) → Option (List A)
prefixed done rest = option_map (λ more. done ++ more) rest

-- one more of those that follow
pub prefixed-more : {A : Type 0} (done : List A) (x : A) (rest : Option (List A))
    → prefixed done (applied (Some (λ xs. x ∷ xs)) rest) ≡ prefixed (done ++ x ∷ []) rest
prefixed-more done x None = refl
prefixed-more done x (Some more) = ap (λ all. Some all) (sym (append_assoc done (x ∷ []) more))

module _ {T A : Type 0} (seen : T → A) (shape : Shape A) (values : List Value) where
  -- the items that were read, before those from a place on, are what the array says
  abbrev pub IsReadUpTo : ℕ → List T → Type 0
  IsReadUpTo at done = each_item shape (items_view values) ≡ prefixed (map seen done) (each_item shape (items_view (drop at values)))

  next_item : (at : ℕ) (done : List T) (value : Value) → at < length values → value ≡ get_or values at value → IsReadUpTo at done
      → each_item shape (items_view values) ≡ prefixed (map seen done) (applied (option_map (λ x xs. x ∷ xs) (shape (view value)))
      (each_item shape (items_view (drop (at + 1) values))))
  next_item at done value within is so_far =
      so_far ∙ at_drop_more (λ left. prefixed (map seen done) (each_item shape (items_view left))) values at value within
      ∙ ap (λ item. prefixed (map seen done) (applied (option_map (λ x xs. x ∷ xs) (shape (view item)))
      (each_item shape (items_view (drop (at + 1) values))))) (sym is)

  -- one item more was read
  pub read_more : (at : ℕ) (done : List T) (value : Value) (x : T) → at < length values → value ≡ get_or values at value
      → shape (view value) ≡ Some (seen x) → IsReadUpTo at done → IsReadUpTo (at + 1) (done ++ x ∷ [])
  read_more at done value x within is said so_far =
      let rest = each_item shape (items_view (drop (at + 1) values)) in
      next_item at done value within is so_far
      ∙ ap (λ read. prefixed (map seen done) (applied (option_map (λ x xs. x ∷ xs) read) rest)) said
      ∙ prefixed-more (map seen done) (seen x) rest
      ∙ ap (λ all. prefixed all rest) (sym (map-append seen done (x ∷ [])))

  -- an item is refused, so the array is
  pub read_refused : (e : TableError) (at : ℕ) (done : List T) (value : Value) → at < length values → value ≡ get_or values at value
      → Refuses e (shape (view value)) → IsReadUpTo at done → Refuses e (each_item shape (items_view values))
  read_refused refusal.Json at done value within is refused so_far = refused
  read_refused refusal.Shape at done value within is refused so_far =
      next_item at done value within is so_far
      ∙ ap (λ read. prefixed (map seen done) (applied (option_map (λ x xs. x ∷ xs) read)
      (each_item shape (items_view (drop (at + 1) values))))) refused
  read_refused refusal.Memory at done value within is refused so_far = tt

  -- all items were read
  pub read_all : (at : ℕ) (done : List T) → length values ≤ at → IsReadUpTo at done
      → each_item shape (items_view values) ≡ Some (map seen done)
  read_all at done past so_far =
      so_far ∙ ap (λ left. prefixed (map seen done) (each_item shape (items_view left))) (drop_all at values past)
      ∙ ap (λ all. Some all) (append-nil (map seen done))

-- what is left rises
pub unique_rises : (sorted left : List (List ℕ)) → left ≡ dedup (pointwise nat_eq) sorted → IsSorted text_cmp sorted → IsStrictlySortedBy text_cmp left
unique_rises sorted left is order = subst (IsStrictlySortedBy text_cmp) (sym is) (IsStrictlySortedBy-dedup text_total texts_ties sorted order)

-- and it is the set of the list
pub unique_is_set : (list sorted left : List (List ℕ)) → left ≡ dedup (pointwise nat_eq) sorted → IsPermutation list sorted
    → IsSorted text_cmp sorted → left ≡ rising (from_list list)
unique_is_set list sorted left is moved order =
    sym (rising-from_list left (unique_rises sorted left is order)) ∙ ap (λ texts. rising (from_list texts)) is ∙ ap rising (from_list-dedup list sorted moved)
