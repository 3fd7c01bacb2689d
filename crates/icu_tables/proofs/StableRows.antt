-- Rows in another order, where those with one key stay in their order, become the same map.
use Rattle.std.proofs.Common.{◌≡◌, Bool, true, false, cond, List, [], ◌∷◌, Option, Some, None, refl, sym, ap, ◌∙◌}
use Rattle.std.proofs.lemmas.Bool.{false≢true}
use Rattle.std.proofs.lemmas.Cmp.{alike_right, tied_itself}
use Rattle.std.proofs.lemmas.Map.Keys.{sorted_head, sorted_tail}
use Rattle.std.proofs.lemmas.Option.{none-some, same_Some}
use Rattle.std.specs.declared.cmp.Ordering.{Ordering}
use Rattle.std.specs.declared.cmp.Ordering.TheVariants.{Less, Equal, Greater}
use Rattle.std.specs.BTreeMap.{insert_entry}
use Rattle.std.specs.Prelude.{not, ◌&&◌}
use Rattle.std.specs.Cmp.{IsTotalOrder, Equal-is}
use Rattle.std.specs.List.{AllByRecursion, filter}
use Rattle.std.specs.List.Sorted.{IsStableBy, ties}
use Rattle.std.specs.Map.{keys_of}
use Rattle.std.specs.Ordering.{is_eq, is_lt, ordering_reverse}
use Rattle.icu_locale_core.specs.Maps.{IsSortedMap}
use Rattle.icu_provider.specs.laws.SortedMaps.{by_answer, IsSortedMap-from_empty, IsSortedMap-insert_entry, insert_entry-step}
use Rattle.icu_tables.specs.Puts.{put_all}
use Rattle.icu_tables.proofs.Rising.{all_above}

-- what a row makes of the one that is there, if there is one: its key stays
abbrev with_value : {K V : Type 0} → Option (K × V) → K × V → K × V
with_value None row = row
with_value (Some old) row = (old.0, row.1)

-- what rows make of the one that is there, one after another
abbrev together : {K V : Type 0} → Option (K × V) → List (K × V) → Option (K × V)
together old [] = old
together old (row ∷ rows) = together (Some (with_value old row)) rows

one_more : {K V : Type 0} (b : Bool) (old : Option (K × V)) (row : K × V) (rows : List (K × V))
    → together (cond b (Some (with_value old row)) old) rows ≡ together old (cond b (row ∷ rows) rows)
one_more true old row rows = refl
one_more false old row rows = refl

-- a key that is not there yet
new_key : {K V : Type 0} (b : Bool) (old : Option (K × V)) (row : K × V) → (b ≡ true → old ≡ None)
    → cond b (Some row) old ≡ cond b (Some (with_value old row)) old
new_key true old row none = ap (λ before. Some (with_value before row)) (sym (none refl))
new_key false old row none = refl

-- the key of the first row
first_key : {K V : Type 0} (a b : Bool) (later : Option (K × V)) (first row : K × V) → a ≡ b
    → cond b (Some (first.0, row.1)) later ≡ cond a (Some (with_value (cond b (Some first) later) row)) (cond b (Some first) later)
first_key true true later first row same = refl
first_key false false later first row same = refl
first_key true false later first row same = absurd (false≢true (sym same))
first_key false true later first row same = absurd (false≢true same)

-- the key of a later row
later_key : {K V : Type 0} (a b : Bool) (later : Option (K × V)) (first row : K × V) → (a ≡ true → b ≡ false)
    → cond b (Some first) (cond a (Some (with_value later row)) later)
    ≡ cond a (Some (with_value (cond b (Some first) later) row)) (cond b (Some first) later)
later_key true true later first row apart = absurd (false≢true (sym (apart refl)))
later_key true false later first row apart = refl
later_key false b later first row apart = refl

-- neither of two is less where they tie
tied_back : (o : Ordering) → (not (is_lt o) && not (is_lt (ordering_reverse o))) ≡ is_eq o
tied_back Less = refl
tied_back Equal = refl
tied_back Greater = refl

module _ {K V : Type 0} (compare : K → K → Ordering) where
  -- the row at a key, if there is one
  abbrev row_at : List (K × V) → K → Option (K × V)
  row_at [] key = None
  row_at (row ∷ rows) key = cond (is_eq (compare key row.0)) (Some row) (row_at rows key)

  -- by how the key compares to the first
  row_at-step : (row : K × V) (rows : List (K × V)) (key : K) (o : Ordering) → compare key row.0 ≡ o
      → row_at (row ∷ rows) key ≡ cond (is_eq o) (Some row) (row_at rows key)
  row_at-step row rows key o is = ap (λ o. cond (is_eq o) (Some row) (row_at rows key)) is

  -- below all keys there is none
  row_at-below : (rows : List (K × V)) (key : K) → AllByRecursion (λ y. compare key y ≡ Less) (keys_of rows) → row_at rows key ≡ None
  row_at-below [] key below = refl
  row_at-below (row ∷ rows) key below = row_at-step row rows key Less below.0 ∙ row_at-below rows key below.1

module _ {K : Type 0} {compare : K → K → Ordering} (total : IsTotalOrder compare) where
  -- keys above a key are above one that ties with it
  above_tied : (low high : K) (keys : List K) → compare low high ≡ Equal → AllByRecursion (λ y. compare high y ≡ Less) keys
      → AllByRecursion (λ y. compare low y ≡ Less) keys
  above_tied low high [] tied above = tt
  above_tied low high (key ∷ keys) tied above = (total.congr low high key tied ∙ above.0, above_tied low high keys tied above.1)

  -- keys that tie tie with the same keys
  tied_alike : (k other key : K) → compare k other ≡ Equal → is_eq (compare key k) ≡ is_eq (compare key other)
  tied_alike k other key tied = ap is_eq (alike_right total k other key tied)

module _ {K V : Type 0} {compare : K → K → Ordering} (total : IsTotalOrder compare) where
  -- what an insert makes of the row at a key
  row_at-insert : (rows : List (K × V)) (row : K × V) (key : K) → IsSortedMap compare rows
      → row_at compare (insert_entry compare rows row.0 row.1) key
      ≡ cond (is_eq (compare key row.0)) (Some (with_value (row_at compare rows key) row)) (row_at compare rows key)
  row_at-insert [] row key sorted = refl
  row_at-insert (first ∷ rows) row key sorted =
      let step = insert_entry-step compare row.0 row.1 first rows in
      let found = λ (new : List (K × V)). row_at compare new key in
      by_answer (compare row.0 first.0)
      (λ less. ap found (step Less less) ∙ new_key (is_eq (compare key row.0)) (found (first ∷ rows)) row
      (λ at. row_at-below compare (first ∷ rows) key (above_tied total key row.0 (first.0 ∷ keys_of rows) ((Equal-is (compare key row.0)).0 at)
      (less, all_above compare total row.0 first.0 (keys_of rows) less (sorted_head compare first.0 (keys_of rows) sorted)))))
      (λ equal. ap found (step Equal equal)
      ∙ first_key (is_eq (compare key row.0)) (is_eq (compare key first.0)) (found rows) first row (tied_alike total row.0 first.0 key equal))
      (λ greater. ap found (step Greater greater)
      ∙ ap (λ later. cond (is_eq (compare key first.0)) (Some first) later) (row_at-insert rows row key (sorted_tail compare first.0 (keys_of rows) sorted))
      ∙ later_key (is_eq (compare key row.0)) (is_eq (compare key first.0)) (found rows) first row
      (λ at. ap is_eq (total.congr key row.0 first.0 ((Equal-is (compare key row.0)).0 at) ∙ greater)))

  -- a map is told by its rows
  told_by_rows : (xs ys : List (K × V)) → IsSortedMap compare xs → IsSortedMap compare ys
      → ((row : K × V) → row_at compare xs row.0 ≡ row_at compare ys row.0) → xs ≡ ys
  told_by_rows [] [] xs_rise ys_rise alike = refl
  told_by_rows [] (y ∷ ys) xs_rise ys_rise alike =
      absurd (none-some y (alike y ∙ row_at-step compare y ys y.0 Equal (tied_itself total y.0)))
  told_by_rows (x ∷ xs) [] xs_rise ys_rise alike =
      absurd (none-some x (sym (alike x) ∙ row_at-step compare x xs x.0 Equal (tied_itself total x.0)))
  told_by_rows (x ∷ xs) (y ∷ ys) xs_rise ys_rise alike =
      let above_x = sorted_head compare x.0 (keys_of xs) xs_rise in
      let above_y = sorted_head compare y.0 (keys_of ys) ys_rise in
      let has_x = row_at-step compare x xs x.0 Equal (tied_itself total x.0) in
      let has_y = row_at-step compare y ys y.0 Equal (tied_itself total y.0) in
      by_answer (compare x.0 y.0)
      (λ less. absurd (none-some x (sym (row_at-below compare (y ∷ ys) x.0 (less, all_above compare total x.0 y.0 (keys_of ys) less above_y))
      ∙ sym (alike x) ∙ has_x)))
      (λ equal.
      let same : (row : K × V) → compare row.0 x.0 ≡ compare row.0 y.0 = λ row. alike_right total x.0 y.0 row.0 equal in
      let apart = λ (row : K × V) (o : Ordering) (none : is_eq o ≡ false) (is : compare row.0 x.0 ≡ o).
      sym (ap (λ b. cond b (Some x) (row_at compare xs row.0)) none)
      ∙ sym (row_at-step compare x xs row.0 o is) ∙ alike row ∙ row_at-step compare y ys row.0 o (sym (same row) ∙ is)
      ∙ ap (λ b. cond b (Some y) (row_at compare ys row.0)) none in
      let first : x ≡ y = same_Some x y (sym has_x ∙ alike x ∙ row_at-step compare y ys x.0 Equal equal) in
      ap (λ row. row ∷ xs) first
      ∙ ap (λ rest. y ∷ rest) (told_by_rows xs ys (sorted_tail compare x.0 (keys_of xs) xs_rise) (sorted_tail compare y.0 (keys_of ys) ys_rise)
      (λ row. by_answer (compare row.0 x.0)
      (apart row Less refl)
      (λ tied. row_at-below compare xs row.0 (above_tied total row.0 x.0 (keys_of xs) tied above_x)
      ∙ sym (row_at-below compare ys row.0 (above_tied total row.0 y.0 (keys_of ys) (sym (same row) ∙ tied) above_y)))
      (apart row Greater refl))))
      (λ greater. absurd (none-some y (sym (row_at-below compare (x ∷ xs) y.0
      (let less = total.antisymm y.0 x.0 ∙ ap ordering_reverse greater in (less, all_above compare total y.0 x.0 (keys_of xs) less above_x)))
      ∙ alike y ∙ has_y)))

  -- rows that are put leave the keys in order
  put_all-sorted : (old rows : List (K × V)) → IsSortedMap compare old → IsSortedMap compare (put_all compare old rows)
  put_all-sorted old [] sorted = sorted
  put_all-sorted old (row ∷ rows) sorted =
      put_all-sorted (insert_entry compare old row.0 row.1) rows (IsSortedMap-insert_entry total old row.0 row.1 sorted)

  -- those with a key decide the row at it
  row_at-put_all : (old rows : List (K × V)) (key : K) → IsSortedMap compare old
      → row_at compare (put_all compare old rows) key ≡ together (row_at compare old key) (filter (λ row. is_eq (compare key row.0)) rows)
  row_at-put_all old [] key sorted = refl
  row_at-put_all old (row ∷ rows) key sorted =
      let later = filter (λ row. is_eq (compare key row.0)) rows in
      row_at-put_all (insert_entry compare old row.0 row.1) rows key (IsSortedMap-insert_entry total old row.0 row.1 sorted)
      ∙ ap (λ found. together found later) (row_at-insert old row key sorted)
      ∙ one_more (is_eq (compare key row.0)) (row_at compare old key) row later

  -- those that tie with a row are those with its key
  tied_with : (row : K × V) (rows : List (K × V))
      → filter (ties (λ x y. is_lt (compare x.0 y.0)) row) rows ≡ filter (λ other. is_eq (compare row.0 other.0)) rows
  tied_with row [] = refl
  tied_with row (other ∷ rows) =
      let test = ties (λ (x y : K × V). is_lt (compare x.0 y.0)) row in
      let tied : test other ≡ is_eq (compare row.0 other.0) =
      ap (λ o. not (is_lt (compare row.0 other.0)) && not (is_lt o)) (total.antisymm other.0 row.0) ∙ tied_back (compare row.0 other.0) in
      ap (λ b. cond b (other ∷ filter test rows) (filter test rows)) tied
      ∙ ap (λ later. cond (is_eq (compare row.0 other.0)) (other ∷ later) later) (tied_with row rows)

  -- a sort that is stable changes nothing of the map
  pub put_all-stable : (rows ordered : List (K × V)) → IsStableBy (λ x y. is_lt (compare x.0 y.0)) rows ordered
      → put_all compare [] ordered ≡ put_all compare [] rows
  put_all-stable rows ordered stable =
      let none : List (K × V) = [] in
      let empty = IsSortedMap-from_empty compare none refl in
      told_by_rows (put_all compare [] ordered) (put_all compare [] rows) (put_all-sorted [] ordered empty) (put_all-sorted [] rows empty)
      (λ row. row_at-put_all [] ordered row.0 empty
      ∙ ap (together None) (sym (tied_with row ordered) ∙ stable row ∙ tied_with row rows)
      ∙ sym (row_at-put_all [] rows row.0 empty))
