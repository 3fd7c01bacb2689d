-- What look-ups find in rows whose keys rise, what a search finds, and what an edit at that place does.
use Rattle.std.proofs.Common.{◌≡◌, List, [], ◌∷◌, slice_get, Some, refl, sym, ap, ◌∙◌, subst, ◌≢◌, false, if◌then◌else◌, ℕ, zero, suc, ◌+◌, ◌<◌}
use Rattle.std.proofs.Common.{Bool, true, is_some, cond, length, get_or, set, None, Result, Ok, Err, MatchResult, ⊎_elim, arith}
use Rattle.std.specs.declared.cmp.Ordering.{Ordering}
use Rattle.std.specs.declared.cmp.Ordering.TheVariants.{Less, Equal, Greater}
use Rattle.std.specs.Ordering.{match_ordering, ordering_reverse, is_eq, is_lt}
use Rattle.std.specs.List.{All, AllByRecursion, Contains, AllWithin, HoldsAt, insert, remove}
use Rattle.std.proofs.Math.Nat.{eq-or-lt_of_le}
use Rattle.std.specs.List.Sorted.{IsStrictlySortedBy, IsSearchInRange, IsBinarySearchResult}
use Rattle.std.specs.Map.{keys_of, lookup, remove_entry}
use Rattle.std.specs.BTreeMap.{is_at, insert_entry}
use Rattle.std.specs.Cmp.{IsTotalOrder, Equal-is}
use Rattle.std.proofs.lemmas.Cmp.{eq_by_cmp_equiv, tied_back, alike_right}
use Rattle.std.proofs.lemmas.List.Elements.{Contains-get_or, All-from_recursion, recursion_from_All, All-weaker, All-head, All-tail, All-cons}
use Rattle.std.proofs.lemmas.Option.{slice_get-get_or, none-some, same_Some}
use Rattle.std.proofs.lemmas.Map.Keys.{IsDistinct-from_sorted, sorted_tail, Less-from_sorted}
use Rattle.std.proofs.lemmas.Map.{lookup-none, lookup-remove_entry}
use Rattle.std.proofs.lemmas.Map.Entries.{lookup_from_place, length-keys_of, none_below_head}
use Rattle.std.proofs.lemmas.Map.Views.{All-keys-insert_entry, All-map-remove_entry}
use Rattle.std.proofs.lemmas.List.{get_or-map, get_or_default}
use Rattle.std.proofs.lemmas.List.Sorted.{searchable_from_sorted}
use Rattle.icu_locale_core.specs.Maps.{IsSortedMap, SetsOnly, add_first, value_at}
use Rattle.icu_locale_core.specs.Places.{IsAt, IsGapFor, IsNearest}
use Rattle.icu_locale_core.specs.laws.Maps.{SetsOnly-insert_entry, found_at_key}

-- what follows where new is old with the value inserted at the key
pub record Inserted {K V : Type 0} (compare : K → K → Ordering) (old new : List (K × V)) (key : K) (value : V) : Type 0 where
  pub rows : new ≡ insert_entry compare old key value
  pub sets : SetsOnly compare old new key (Some value)
  pub sorted : IsSortedMap compare new

-- a fact holds where it holds at each answer of a comparison
pub by_answer : {P : Type 0} (answer : Ordering) → (answer ≡ Less → P) → (answer ≡ Equal → P) → (answer ≡ Greater → P) → P
by_answer Less less equal greater = less refl
by_answer Equal less equal greater = equal refl
by_answer Greater less equal greater = greater refl

module _ {K V : Type 0} (compare : K → K → Ordering) where
  -- a map with no rows is in order
  pub IsSortedMap-from_empty : (rows : List (K × V)) → rows ≡ [] → IsSortedMap compare rows
  unfolding IsStrictlySortedBy
  IsSortedMap-from_empty rows is = subst (IsSortedMap compare) (sym is) tt

  -- an insert goes on by how the key compares to the first
  pub insert_entry-step : (key : K) (value : V) (row : K × V) (rows : List (K × V)) (answer : Ordering) → compare key row.0 ≡ answer
      → insert_entry compare (row ∷ rows) key value ≡ match_ordering answer ((key, value) ∷ row ∷ rows) ((row.0, value) ∷ rows)
      (row ∷ insert_entry compare rows key value)
  insert_entry-step key value row rows answer is = ap (λ o. match_ordering o ((key, value) ∷ row ∷ rows) ((row.0, value) ∷ rows)
      (row ∷ insert_entry compare rows key value)) is

module _ {K V : Type 0} {compare : K → K → Ordering} (total : IsTotalOrder compare) where
  -- a key below the first of rising rows is below each
  below_all : (key : K) (row : K × V) (rows : List (K × V)) → compare key row.0 ≡ Less
      → AllByRecursion (λ later. compare row.0 later ≡ Less) (keys_of rows) → AllByRecursion (λ later. compare key later ≡ Less) (keys_of rows)
  below_all key row rows below rise = recursion_from_All _ _ (All-weaker (λ later. compare row.0 later ≡ Less)
      (λ later. compare key later ≡ Less) (λ later. total.trans key row.0 later below) _ (All-from_recursion _ _ rise))

  -- an insert keeps the order
  pub IsSortedMap-insert_entry : (rows : List (K × V)) (key : K) (value : V) → IsSortedMap compare rows
      → IsSortedMap compare (insert_entry compare rows key value)
  unfolding IsStrictlySortedBy
  IsSortedMap-insert_entry [] key value sorted = (tt, tt)
  IsSortedMap-insert_entry (row ∷ rows) key value sorted =
      let step = insert_entry-step compare key value row rows in
      by_answer (compare key row.0)
      (λ is. subst (IsSortedMap compare) (sym (step Less is)) ((is, below_all key row rows is sorted.0), sorted))
      (λ is. subst (IsSortedMap compare) (sym (step Equal is)) sorted)
      (λ is. subst (IsSortedMap compare) (sym (step Greater is)) (
        recursion_from_All _ _
            (All-keys-insert_entry compare key value (λ later. compare row.0 later ≡ Less) rows (All-from_recursion _ _ sorted.0)
            (total.antisymm row.0 key ∙ ap ordering_reverse is)),
        IsSortedMap-insert_entry rows key value sorted.1,
      ))

  -- a row of the map is found at its own key
  pub lookup_own_key : (rows : List (K × V)) (row : K × V) → IsSortedMap compare rows → Contains rows row → lookup (is_at (compare row.0)) rows ≡ Some row.1
  lookup_own_key rows row sorted among =
      let place : slice_get rows among.0 ≡ Some (row.0, row.1) = slice_get-get_or rows among.0 row among.1 ∙ ap Some among.2 in
      lookup_from_place (eq_by_cmp_equiv total) rows among.0 row.0 row.1 (IsDistinct-from_sorted compare _ sorted) place

  -- so each row is
  pub All-lookup_own_key : (rows : List (K × V)) → IsSortedMap compare rows → All (λ row. lookup (is_at (compare row.0)) rows ≡ Some row.1) rows
  All-lookup_own_key rows sorted k default in_range = lookup_own_key rows _ sorted (Contains-get_or rows k default in_range)

pub not_tied : (o : Ordering) → o ≢ Equal → is_eq o ≡ false
not_tied Less apart = refl
not_tied Equal apart = absurd (apart refl)
not_tied Greater apart = refl

module _ {K V : Type 0} {compare : K → K → Ordering} (total : IsTotalOrder compare) where
  -- each row's key is below that of a later row
  pub keys_rise : (rows : List (K × V)) (i j : ℕ) (default : K × V) → IsSortedMap compare rows → i < j → j < length rows
      → compare (get_or rows i default).0 (get_or rows j default).0 ≡ Less
  keys_rise rows i j default sorted lt in_range =
      let at = λ (k : ℕ) (h : k < length rows). get_or-map (λ (row : K × V). row.0) rows k default default.0 h in
      rw (← at i (omega arith), ← at j in_range) (Less-from_sorted compare (keys_of rows) i j default.0 sorted lt (omega (arith, length-keys_of rows)))

  -- a binary search ends at the key, or at the gap for it
  pub searched : (rows : List (K × V)) (key : K) (place : Result ℕ ℕ) → IsSortedMap compare rows → IsSearchInRange place (length rows)
      → IsBinarySearchResult (λ row. compare row.0 key) rows place → MatchResult place (IsAt compare rows key) (IsGapFor compare rows key)
  searched rows key (Ok at) sorted in_range equal = record { in_range = in_range; has_key = λ d. tied_back total _ _ (equal d) }
  searched rows key (Err at) sorted in_range parted =
      let rise = searchable_from_sorted total (λ (row : K × V). row.0) rows key
      (λ k d low high. ap is_lt (total.antisymm _ _ ∙ ap ordering_reverse (keys_rise rows k (k + 1) d sorted (omega arith) high))) in
      record {
        in_range = in_range;
        above_before = λ k d low high. total.antisymm _ _ ∙ ap ordering_reverse ((parted rise).0 k d low high);
        below_after = λ k d low high. total.antisymm _ _ ∙ ap ordering_reverse ((parted rise).1 k d low high);
      }

  -- a key in a later row is above the first
  above_first : (row : K × V) (rows : List (K × V)) (key : K) (at : ℕ) → IsSortedMap compare (row ∷ rows) → IsAt compare rows key at
      → compare key row.0 ≡ Greater
  above_first row rows key at sorted is =
      let rise = keys_rise (row ∷ rows) 0 (suc at) row sorted (omega arith) (omega (arith, is.in_range)) in
      total.antisymm key row.0 ∙ ap ordering_reverse (alike_right total key (get_or rows at row).0 row.0 (is.has_key row) ∙ rise)

  -- in the tail, a key's place is one lower
  is_at_tail : (row : K × V) (rows : List (K × V)) (key : K) (at : ℕ) → IsAt compare (row ∷ rows) key (suc at) → IsAt compare rows key at
  is_at_tail row rows key at is = record { in_range = omega (arith, is.in_range); has_key = is.has_key }

  -- so is a gap
  gap_tail : (row : K × V) (rows : List (K × V)) (key : K) (at : ℕ) → IsGapFor compare (row ∷ rows) key (suc at) → IsGapFor compare rows key at
  gap_tail row rows key at gap = record {
    in_range = omega (arith, gap.in_range);
    above_before = λ k d low high. gap.above_before (suc k) d (omega arith) (omega arith);
    below_after = λ k d low high. gap.below_after (suc k) d (omega arith) (omega arith);
  }

  -- the value at the key's place is found
  pub lookup_at : (rows : List (K × V)) (key : K) (at : ℕ) (default : K × V) → IsSortedMap compare rows → IsAt compare rows key at
      → lookup (is_at (compare key)) rows ≡ Some (get_or rows at default).1
  lookup_at [] key at default sorted is = absurd (omega (arith, is.in_range))
  lookup_at (row ∷ rows) key zero default sorted is = grind (arith, is.has_key row)
  lookup_at (row ∷ rows) key (suc at) default sorted is =
      let later = is_at_tail row rows key at is in
      grind (arith, above_first row rows key at sorted later, lookup_at rows key at default (sorted_tail compare _ _ sorted) later)

  -- below the first key nothing is found
  lookup_below : (rows : List (K × V)) (key : K) → AllWithin (λ row. compare key row.0 ≡ Less) rows 0 (length rows) → lookup (is_at (compare key)) rows ≡ None
  lookup_below [] key below = refl
  lookup_below (row ∷ rows) key below = grind (
    arith,
    below 0 row (omega arith) (omega arith),
    lookup_below rows key
        (λ k d low high. below (suc k) d (omega arith) (omega arith)),
  )

  -- in a gap nothing is found
  pub lookup_in_gap : (rows : List (K × V)) (key : K) (at : ℕ) → IsGapFor compare rows key at → lookup (is_at (compare key)) rows ≡ None
  lookup_in_gap rows key zero gap = lookup_below rows key gap.below_after
  lookup_in_gap [] key (suc at) gap = refl
  lookup_in_gap (row ∷ rows) key (suc at) gap = grind (
    arith,
    gap.above_before 0 row (omega arith) (omega arith),
    lookup_in_gap rows key at
        (gap_tail row rows key at gap),
  )

  -- writing over the key's row inserts the value
  pub insert_entry-at : (rows : List (K × V)) (key : K) (value : V) (at : ℕ) (row : K × V) → IsSortedMap compare rows
      → IsAt compare rows key at → row ≡ get_or rows at row → set rows at (row.0, value) ≡ insert_entry compare rows key value
  insert_entry-at [] key value at row sorted is here = absurd (omega (arith, is.in_range))
  insert_entry-at (first ∷ rows) key value zero row sorted is here = grind (arith, insert_entry-step compare key value first rows Equal (is.has_key row))
  insert_entry-at (first ∷ rows) key value (suc at) row sorted is here =
      let later = is_at_tail first rows key at is in
      let step = insert_entry-step compare key value first rows Greater (above_first first rows key at sorted later) in
      ap (λ rest. first ∷ rest) (insert_entry-at rows key value at row (sorted_tail compare _ _ sorted) later here) ∙ sym step

  -- a new row in the gap inserts it
  pub insert_entry-in_gap : (rows : List (K × V)) (key : K) (value : V) (at : ℕ) → IsGapFor compare rows key at
      → insert rows at (key, value) ≡ insert_entry compare rows key value
  insert_entry-in_gap [] key value zero gap = refl
  insert_entry-in_gap [] key value (suc at) gap = absurd (omega (arith, gap.in_range))
  insert_entry-in_gap (row ∷ rows) key value zero gap = sym (insert_entry-step compare key value row rows Less
      (gap.below_after 0 row (omega arith) (omega arith)))
  insert_entry-in_gap (row ∷ rows) key value (suc at) gap =
      let step = insert_entry-step compare key value row rows Greater (gap.above_before 0 row (omega arith) (omega arith)) in
      ap (λ rest. row ∷ rest) (insert_entry-in_gap rows key value at (gap_tail row rows key at gap)) ∙ sym step

  -- a value that is there already changes nothing
  pub insert_entry-same : (rows : List (K × V)) (key : K) (value : V) → IsSortedMap compare rows
      → value_at compare rows key ≡ Some value → insert_entry compare rows key value ≡ rows
  insert_entry-same [] key value sorted found = absurd (none-some value found)
  insert_entry-same (row ∷ rows) key value sorted found =
      let step = insert_entry-step compare key value row rows in
      let first = λ (o : Ordering) (is : compare key row.0 ≡ o).
      ap (λ (p : Ordering). if is_eq p then Some row.1 else value_at compare rows key) (sym is) ∙ found in
      by_answer (compare key row.0)
      (λ is. absurd (none-some value (sym (lookup-none _ (row ∷ rows) (none_below_head total key row rows sorted is)) ∙ found)))
      (λ is. step Equal is ∙ ap (λ (v : V). (row.0, v) ∷ rows) (sym (same_Some row.1 value (first Equal is))))
      (λ is. step Greater is ∙ ap (λ rest. row ∷ rest) (insert_entry-same rows key value (sorted_tail compare _ _ sorted) (first Greater is)))

  -- a look-up at the key finds the value
  pub found_inserted : (old new : List (K × V)) (key : K) (value : V) → new ≡ insert_entry compare old key value
      → value_at compare new key ≡ Some value
  found_inserted old new key value rows = rw rows (found_at_key total old key value)

  -- and at another key what it found before
  pub others_inserted : (old new : List (K × V)) (key : K) (value : V) → new ≡ insert_entry compare old key value
      → (other : K) → compare key other ≢ Equal → value_at compare new other ≡ value_at compare old other
  others_inserted old new key value rows other apart =
      let sets : SetsOnly compare old new key (Some value) = λ q. rw rows (SetsOnly-insert_entry total old key value q) in
      sets other ∙ ap (λ tied. if tied then Some value else value_at compare old other) (not_tied (compare key other) apart)

  -- rows with the value inserted stay in order, and find it
  pub inserts_from_rows : (old new : List (K × V)) (key : K) (value : V) → IsSortedMap compare old
      → new ≡ insert_entry compare old key value → Inserted compare old new key value
  inserts_from_rows old new key value sorted rows = record {
    rows = rows;
    sets = λ q. rw rows (SetsOnly-insert_entry total old key value q);
    sorted = rw rows (IsSortedMap-insert_entry total old key value sorted);
  }

  -- a value that is written over the key's row
  pub inserts_at : (rows : List (K × V)) (key : K) (value : V) (at : ℕ) (row : K × V) → IsSortedMap compare rows → IsAt compare rows key at
      → row ≡ get_or rows at row → Inserted compare rows (set rows at (row.0, value)) key value
  inserts_at rows key value at row sorted is here = inserts_from_rows rows _ key value sorted (insert_entry-at rows key value at row sorted is here)

  -- a new row in the gap
  pub inserts_in_gap : (rows : List (K × V)) (key : K) (value : V) (at : ℕ) → IsSortedMap compare rows → IsGapFor compare rows key at
      → Inserted compare rows (insert rows at (key, value)) key value
  inserts_in_gap rows key value at sorted gap = inserts_from_rows rows _ key value sorted (insert_entry-in_gap rows key value at gap)

module _ {K V : Type 0} {compare : K → K → Ordering} (total : IsTotalOrder compare) where
  -- where a row is not above the key, those before it are below
  pub below_before : (rows : List (K × V)) (key : K) (at : ℕ) → IsSortedMap compare rows → at < length rows
      → HoldsAt (λ row. compare key row.0 ≢ Less) rows at → AllWithin (λ row. compare key row.0 ≡ Greater) rows 0 at
  below_before rows key at sorted in_range reached k d low high =
      let rise = keys_rise total rows k at d sorted high in_range in
      total.antisymm key (get_or rows k d).0
      ∙ ap ordering_reverse (by_answer (compare key (get_or rows at d).0)
      (λ less. absurd (reached d less))
      (λ equal. alike_right total key (get_or rows at d).0 (get_or rows k d).0 equal ∙ rise)
      (λ greater. total.trans (get_or rows k d).0 (get_or rows at d).0 key rise (total.antisymm (get_or rows at d).0 key ∙ ap ordering_reverse greater)))

  -- where a row is above the key, those after it are too
  pub above_behind : (rows : List (K × V)) (key : K) (at : ℕ) → IsSortedMap compare rows → HoldsAt (λ row. compare key row.0 ≡ Less) rows at
      → AllWithin (λ row. compare key row.0 ≡ Less) rows at (length rows)
  above_behind rows key at sorted above k d low high = ⊎_elim
      (λ (same : at ≡ k). subst (λ n. compare key (get_or rows n d).0 ≡ Less) same (above d))
      (λ (later : at < k). total.trans key (get_or rows at d).0 (get_or rows k d).0 (above d) (keys_rise total rows at k d sorted later high))
      (eq-or-lt_of_le low)

  -- a row that was read is the one at its place, whatever is past the end
  pub at_row : (P : K → Type 0) (rows : List (K × V)) (at : ℕ) (row : K × V) → at < length rows → row ≡ get_or rows at row → P row.0
      → HoldsAt (λ row. P row.0) rows at
  at_row P rows at row in_range here holds d = subst (λ (r : K × V). P r.0) (here ∙ get_or_default rows at row d in_range) holds

  -- a look-up answers by the nearest row, if it has the key
  pub lookup_nearest : (rows : List (K × V)) (key : K) (at : ℕ) (row : K × V) → IsSortedMap compare rows → at < length rows
      → row ≡ get_or rows at row → compare key row.0 ≡ Equal → lookup (is_at (compare key)) rows ≡ Some row.1
  lookup_nearest rows key at row sorted in_range here equal =
      let is : IsAt compare rows key at = record { in_range = in_range; has_key = at_row (λ k. compare key k ≡ Equal) rows at row in_range here equal } in
      lookup_at total rows key at row sorted is ∙ ap (λ (r : K × V). Some r.1) (sym here)

  -- and else finds nothing
  pub lookup_apart : (rows : List (K × V)) (key : K) (at : ℕ) (row : K × V) → IsNearest compare rows key at → at < length rows
      → row ≡ get_or rows at row → compare key row.0 ≢ Equal → lookup (is_at (compare key)) rows ≡ None
  lookup_apart rows key at row nearest in_range here apart = by_answer (compare key row.0)
      (λ less. lookup_in_gap total rows key at (record {
        in_range = omega (arith, in_range);
        above_before = nearest.above_before;
        below_after = λ k d low high. ⊎_elim
            (λ (same : at ≡ k). subst (λ n. compare key (get_or rows n d).0 ≡ Less) same (at_row (λ k. compare key k ≡ Less) rows at row in_range here less d))
            (λ (later : at < k). nearest.below_behind k d (omega arith) high)
            (eq-or-lt_of_le low);
      }))
      (λ equal. absurd (apart equal))
      (λ greater. lookup_in_gap total rows key (at + 1) (record {
        in_range = omega (arith, in_range);
        above_before = λ k d low high. ⊎_elim
            (λ (same : k ≡ at). subst (λ n. compare key (get_or rows n d).0 ≡ Greater) (sym same)
            (at_row (λ k. compare key k ≡ Greater) rows at row in_range here greater d))
            (λ (earlier : k < at). nearest.above_before k d low earlier)
            (eq-or-lt_of_le (omega arith));
        below_after = nearest.below_behind;
      }))

module _ {K V : Type 0} {compare : K → K → Ordering} (total : IsTotalOrder compare) where
  -- taking out the key's row removes the key
  pub remove_entry-at : (rows : List (K × V)) (key : K) (at : ℕ) → IsSortedMap compare rows → IsAt compare rows key at
      → remove rows at ≡ remove_entry (is_at (compare key)) rows
  remove_entry-at [] key at sorted is = absurd (omega (arith, is.in_range))
  remove_entry-at (row ∷ rows) key zero sorted is =
      sym (ap (λ o. cond (is_eq o) rows (row ∷ remove_entry (is_at (compare key)) rows)) (is.has_key row))
  remove_entry-at (row ∷ rows) key (suc at) sorted is =
      let later = is_at_tail total row rows key at is in
      ap (λ rest. row ∷ rest) (remove_entry-at rows key at (sorted_tail compare _ _ sorted) later)
      ∙ sym (ap (λ o. cond (is_eq o) rows (row ∷ remove_entry (is_at (compare key)) rows)) (above_first total row rows key at sorted later))

-- a fact holds where it holds at each answer of a test
by_test : {P : Type 0} (b : Bool) → (b ≡ true → P) → (b ≡ false → P) → P
by_test true passes fails = passes refl
by_test false passes fails = fails refl

module _ {K V : Type 0} (test : K → Bool) where
  -- what is left of rows goes by whether the first key passes
  removed : (row : K × V) (rows : List (K × V)) (b : Bool) → test row.0 ≡ b
      → remove_entry test (row ∷ rows) ≡ cond b rows (row ∷ remove_entry test rows)
  removed row rows b is = ap (λ passes. cond passes rows (row ∷ remove_entry test rows)) is

  -- so does what is found
  found_first : (row : K × V) (rows : List (K × V)) (b : Bool) → test row.0 ≡ b
      → lookup test (row ∷ rows) ≡ cond b (Some row.1) (lookup test rows)
  found_first row rows b is = ap (λ passes. cond passes (Some row.1) (lookup test rows)) is

  -- where no key passes, nothing is taken out
  pub remove_entry-absent : (rows : List (K × V)) → lookup test rows ≡ None → remove_entry test rows ≡ rows
  remove_entry-absent [] absent = refl
  remove_entry-absent (row ∷ rows) absent = by_test (test row.0)
      (λ is. absurd (none-some row.1 (sym absent ∙ found_first row rows true is)))
      (λ is. removed row rows false is
      ∙ ap (λ rest. row ∷ rest) (remove_entry-absent rows (sym (found_first row rows false is) ∙ absent)))

  -- what holds of each row holds of those that are left
  pub All-remove_entry : (P : K × V → Type 0) (rows : List (K × V)) → All P rows → All P (remove_entry test rows)
  All-remove_entry P [] all = all
  All-remove_entry P (row ∷ rows) all = by_test (test row.0)
      (λ is. subst (All P) (sym (removed row rows true is)) (All-tail P row rows all))
      (λ is. subst (All P) (sym (removed row rows false is))
      (All-cons P row (remove_entry test rows) (All-head P row rows all) (All-remove_entry P rows (All-tail P row rows all))))

module _ {K V : Type 0} (compare : K → K → Ordering) where
  -- taking a key out keeps the order
  pub IsSortedMap-remove_entry : (test : K → Bool) (rows : List (K × V)) → IsSortedMap compare rows → IsSortedMap compare (remove_entry test rows)
  unfolding IsStrictlySortedBy
  IsSortedMap-remove_entry test [] sorted = sorted
  IsSortedMap-remove_entry test (row ∷ rows) sorted = by_test (test row.0)
      (λ is. subst (IsSortedMap compare) (sym (removed test row rows true is)) sorted.1)
      (λ is. subst (IsSortedMap compare) (sym (removed test row rows false is)) (
        recursion_from_All _ _ (All-map-remove_entry test (λ (e : K × V). e.0) (λ later. compare row.0 later ≡ Less) rows (All-from_recursion _ _ sorted.0)),
        IsSortedMap-remove_entry test rows sorted.1,
      ))

  -- what holds of each row, and of a row with the new value, holds after an insert
  pub All-insert_entry : (P : K × V → Type 0) (key : K) (value : V) → P (key, value) → ((k : K) (v : V) → P (k, v) → P (k, value))
      → (rows : List (K × V)) → All P rows → All P (insert_entry compare rows key value)
  All-insert_entry P key value new kept [] all = All-cons P (key, value) [] new all
  All-insert_entry P key value new kept (row ∷ rows) all =
      let step = insert_entry-step compare key value row rows in
      let first = All-head P row rows all in
      let later = All-tail P row rows all in
      by_answer (compare key row.0)
      (λ is. subst (All P) (sym (step Less is)) (All-cons P (key, value) (row ∷ rows) new all))
      (λ is. subst (All P) (sym (step Equal is)) (All-cons P (row.0, value) rows (kept row.0 row.1 first) later))
      (λ is. subst (All P) (sym (step Greater is)) (All-cons P row _ first (All-insert_entry P key value new kept rows later)))

  -- so it does where rows may have stayed as they were
  pub All-added : (P : K × V → Type 0) (key : K) (value : V) → P (key, value) → ((k : K) (v : V) → P (k, v) → P (k, value))
      → (old : List (K × V)) → All P old → All P (add_first compare old key value)
  All-added P key value new_row kept old all =
      elim (is_some (value_at compare old key)) as (λ b. All P (if b then old else insert_entry compare old key value))
      [ true ↦ all | false ↦ All-insert_entry P key value new_row kept old all ]

module _ {K V : Type 0} {compare : K → K → Ordering} (total : IsTotalOrder compare) where
  -- a key that is taken out is found no more, and others stay
  pub SetsOnly-remove_entry : (rows : List (K × V)) (key : K) → IsSortedMap compare rows
      → SetsOnly compare rows (remove_entry (is_at (compare key)) rows) key None
  SetsOnly-remove_entry rows key sorted other = lookup-remove_entry (eq_by_cmp_equiv total) (is_at (compare key))
      (λ x y at. ap is_eq (total.congr key x y ((Equal-is (compare key x)).0 at))) other rows (IsDistinct-from_sorted compare _ sorted)
