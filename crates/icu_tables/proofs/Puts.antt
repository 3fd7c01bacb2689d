-- Rows that members add to a list, one after another, and the map of them.
use Rattle.std.proofs.Common.{◌≡◌, ℕ, List, [], ◌∷◌, ◌++◌, Option, Some, None, option_map, Ok, refl, sym, ap, ◌∙◌, string_bytes, append_assoc}
use Rattle.std.proofs.lemmas.List.{append-nil, map-append}
use Rattle.std.proofs.lemmas.Iterator.Adapters.{option_map_id}
use Rattle.std.proofs.lemmas.Option.{none-some, same_Some}
use Rattle.std.specs.declared.cmp.Ordering.{Ordering}
use Rattle.std.specs.declared.cmp.Ordering.TheVariants.{Less, Equal, Greater}
use Rattle.std.specs.Ordering.{match_ordering}
use Rattle.std.specs.BTreeMap.{insert_entry}
use Rattle.serde_json.specs.Data.{Data}
use Rattle.serde_json.specs.Find.{as_str}
use Rattle.serde_json.specs.View.{view, members_view}
use Rattle.serde_json.proofs.Views.{Entry}
use Rattle.icu_tables.specs.Puts.{put_all, each_put}
use Rattle.icu_tables.specs.inner.Reads.{Appends, Refuses}
use Rattle.icu_tables.specs.Rows.{seen_rows}
use Rattle.icu_tables.specs.Shape.{Shape, applied}
use Rattle.icu_tables.specs.Supplement.{alias_row}
use Rattle.icu_tables.specs.declared.error.TableError.{TableError}
use Rattle.icu_tables.specs.declared.error.TableError.TheVariants as refusal

module _ {R : Type 0} where
  -- what is left of the members decides what the list becomes
  abbrev pub becomes : (List ℕ → Shape (List R)) → List R → List Entry → Option (List R)
  becomes says list left = option_map (λ rows. list ++ rows) (each_put says (members_view left))

  after : (now next : List R) (said more : Option (List R)) → option_map (λ rows. now ++ rows) said ≡ Some next
      → option_map (λ rows. now ++ rows) (applied (option_map (λ rows more. rows ++ more) said) more) ≡ option_map (λ rows. next ++ rows) more
  after now next None more added = absurd (none-some next added)
  after now next (Some rows) None added = refl
  after now next (Some rows) (Some more) added =
      ap (λ list. Some list) (sym (append_assoc now rows more) ∙ ap (λ list. list ++ more) (same_Some (now ++ rows) next added))

  -- a member has added its rows
  pub becomes-more : (says : List ℕ → Shape (List R)) (now next : List R) (e : Entry) (left : List Entry)
      → option_map (λ rows. now ++ rows) (says (string_bytes e.0) (view e.1)) ≡ Some next → becomes says now (e ∷ left) ≡ becomes says next left
  becomes-more says now next e left added = after now next (says (string_bytes e.0) (view e.1)) (each_put says (members_view left)) added

  -- no member is left
  pub becomes-end : (says : List ℕ → Shape (List R)) (now : List R) → becomes says now [] ≡ Some now
  becomes-end says now = ap (λ list. Some list) (append-nil now)

  -- nothing was added
  pub none_added : (old : List R) (said : Option (List R)) → said ≡ Some [] → Appends (Ok tt) old old said
  none_added old said is = ap (option_map (λ rows. old ++ rows)) is ∙ ap (λ list. Some list) (append-nil old)

module _ {K V W : Type 0} (seen : V → W) where
  -- one row is added
  pub row_added : (old new : List (K × V)) (key : K) (value : V) (said : Option (List (K × W))) → new ≡ old ++ (key, value) ∷ []
      → said ≡ Some ((key, seen value) ∷ []) → Appends (Ok tt) (seen_rows seen old) (seen_rows seen new) said
  row_added old new key value said adds is =
      ap (option_map (λ rows. seen_rows seen old ++ rows)) is
      ∙ ap (λ rows. Some rows) (sym (map-append (λ row. (row.0, seen row.1)) old ((key, value) ∷ [])))
      ∙ ap (λ rows. Some (seen_rows seen rows)) (sym adds)

module _ {K V W : Type 0} (compare : K → K → Ordering) (seen : V → W) where
  -- a row is seen where it was put
  pub seen_rows-insert_entry : (rows : List (K × V)) (key : K) (value : V) → seen_rows seen
      (insert_entry compare rows key value) ≡ insert_entry compare (seen_rows seen rows) key (seen value)
  seen_rows-insert_entry [] key value = refl
  seen_rows-insert_entry (row ∷ rows) key value = by (compare key row.0) (seen_rows-insert_entry rows key value)
    where
      by : (answer : Ordering) → seen_rows seen (insert_entry compare rows key value) ≡ insert_entry compare (seen_rows seen rows) key
          (seen value) → seen_rows seen (match_ordering answer ((key, value) ∷ row ∷ rows) ((row.0, value) ∷ rows)
          (row ∷ insert_entry compare rows key value)) ≡ match_ordering answer
          ((key, seen value) ∷ (row.0, seen row.1) ∷ seen_rows seen rows) ((row.0, seen value) ∷ seen_rows seen rows)
          ((row.0, seen row.1) ∷ insert_entry compare (seen_rows seen rows) key (seen value))
      by Less later = refl
      by Equal later = refl
      by Greater later = ap (λ rest. (row.0, seen row.1) ∷ rest) later

  -- the map of what is said
  seen_rows-put_all : (old rows : List (K × V)) → seen_rows seen (put_all compare old rows) ≡ put_all compare (seen_rows seen old) (seen_rows seen rows)
  seen_rows-put_all old [] = refl
  seen_rows-put_all old (row ∷ rows) =
      seen_rows-put_all (insert_entry compare old row.0 row.1) rows
      ∙ ap (λ now. put_all compare now (seen_rows seen rows)) (seen_rows-insert_entry old row.0 row.1)

  -- rows that were read and then settled are the map of what is said
  pub map_settled : (said : Option (List (K × W))) (rows map : List (K × V)) → said ≡ Some (seen_rows seen rows) → map ≡ put_all compare [] rows
      → option_map (put_all compare []) said ≡ Some (seen_rows seen map)
  map_settled said rows map is settles =
      ap (option_map (put_all compare [])) is ∙ ap (λ rows. Some rows) (sym (seen_rows-put_all [] rows))
      ∙ ap (λ rows. Some (seen_rows seen rows)) (sym settles)

-- what was added to no rows is what is said
pub added_to_none : {R : Type 0} (old new : List R) (said : Option (List R)) → old ≡ [] → Appends (Ok tt) old new said → said ≡ Some new
added_to_none old new said empty adds = sym (option_map_id said) ∙ ap (λ list. option_map (λ rows. list ++ rows) said) (sym empty) ∙ adds

-- what refuses a change of what is said refuses that itself
pub refused_said : {A B : Type 0} (e : TableError) (f : A → B) (said : Option A) → Refuses e (option_map f said) → Refuses e said
refused_said refusal.Json f said none = none
refused_said refusal.Shape f None none = refl
refused_said refusal.Shape f (Some x) none = absurd (none-some (f x) (sym none))
refused_said refusal.Memory f said none = tt

-- where no rows are said, no map is
pub map_refused : {K W : Type 0} (compare : K → K → Ordering) (e : TableError) (said : Option (List (K × W))) → Refuses e said
    → Refuses e (option_map (put_all compare []) said)
map_refused compare refusal.Json said none = none
map_refused compare refusal.Shape said none = ap (option_map (put_all compare [])) none
map_refused compare refusal.Memory said none = tt

-- the row of an alias, where its name and its text are values
pub alias_said : {V : Type 0} (reads : List ℕ → Option V) (name : List ℕ) (value : Data) (t : List ℕ) (key preferred : V)
    → as_str value ≡ Some t → reads t ≡ Some preferred → reads name ≡ Some key → alias_row reads name value ≡ Some ((key, preferred) ∷ [])
alias_said reads name value t key preferred text says named = rw (text, says, named) refl
