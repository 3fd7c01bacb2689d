-- Rows whose keys rise, and what becomes of rows that are put into a map.
use Rattle.std.proofs.Common.{◌≡◌, Bor, List, [], ◌∷◌, ◌++◌, Option, Some, None, Result, Ok, Err, IfOk, IfSome, refl, sym, ap, ◌∙◌, subst, append_assoc}
use Rattle.std.proofs.lemmas.List.{append-nil}
use Rattle.std.specs.declared.cmp.Ordering.{Ordering}
use Rattle.std.specs.declared.cmp.Ordering.TheVariants.{Less}
use Rattle.std.specs.BTreeMap.{insert_entry}
use Rattle.std.specs.Cmp.{IsTotalOrder}
use Rattle.std.specs.List.{AllByRecursion}
use Rattle.std.specs.List.Sorted.{IsStrictlySortedBy}
use Rattle.std.specs.Map.{keys_of}
use Rattle.std.specs.Ordering.{match_ordering, ordering_reverse}
use Rattle.icu_locale_core.specs.Maps.{IsSortedMap}
use Rattle.icu_tables.specs.Puts.{put_all}

module _ {K : Type 0} (compare : K → K → Ordering) where
  -- keys above a key are above those below it
  pub all_above : (total : IsTotalOrder compare) (low high : K) (keys : List K) → compare low high ≡ Less → AllByRecursion (λ y. compare high y ≡ Less) keys
      → AllByRecursion (λ y. compare low y ≡ Less) keys
  all_above total low high [] less above = tt
  all_above total low high (key ∷ keys) less above = (total.trans low high key less above.0, all_above total low high keys less above.1)

module _ {K V : Type 0} (compare : K → K → Ordering) where
  -- what holds of all keys holds of one
  all_at : (P : K → Type 0) (old : List (K × V)) (row : K × V) (rest : List (K × V)) → AllByRecursion P (keys_of (old ++ row ∷ rest)) → P row.0
  all_at P [] row rest all = all.0
  all_at P (first ∷ old) row rest all = all_at P old row rest all.1

  -- a row is put at the end where its key is above all others
  put_last : (total : IsTotalOrder compare) (old : List (K × V)) (row : K × V) (rest : List (K × V)) → IsSortedMap compare (old ++ row ∷ rest)
      → insert_entry compare old row.0 row.1 ≡ old ++ row ∷ []
  unfolding IsStrictlySortedBy
  put_last total [] row rest sorted = refl
  put_last total (first ∷ old) row rest sorted =
      let below = all_at (λ y. compare first.0 y ≡ Less) old row rest sorted.0 in
      ap (λ o. match_ordering o (row ∷ first ∷ old) ((first.0, row.1) ∷ old) (first ∷ insert_entry compare old row.0 row.1))
      (total.antisymm row.0 first.0 ∙ ap ordering_reverse below)
      ∙ ap (λ rows. first ∷ rows) (put_last total old row rest sorted.1)

  put_after : (total : IsTotalOrder compare) (old rows : List (K × V)) → IsSortedMap compare (old ++ rows) → put_all compare old rows ≡ old ++ rows
  put_after total old [] sorted = sym (append-nil old)
  put_after total old (row ∷ rows) sorted =
      ap (λ now. put_all compare now rows) (put_last total old row rows sorted)
      ∙ put_after total (old ++ row ∷ []) rows (subst (IsSortedMap compare) (sym (append_assoc old (row ∷ []) rows)) sorted)
      ∙ append_assoc old (row ∷ []) rows

  -- rows whose keys rise are the map that they are put into
  pub put_rising : (total : IsTotalOrder compare) (rows : List (K × V)) → IsSortedMap compare rows → put_all compare [] rows ≡ rows
  put_rising total rows sorted = put_after total [] rows sorted

  -- the keys of rows rise, and are above one before them, if there is one
  abbrev pub RiseAfter : Option (Bor K) → List (K × V) → Type 0
  RiseAfter None rows = IsSortedMap compare rows
  RiseAfter (Some before) rows = IsStrictlySortedBy compare (before.now ∷ keys_of rows)

  -- one row more before them
  pub rise_before : (total : IsTotalOrder compare) (before : Option (Bor K)) (row : K × V) (rows : List (K × V))
      → IfSome before (λ before. compare before.now row.0 ≡ Less) → IsStrictlySortedBy compare (row.0 ∷ keys_of rows) → RiseAfter before (row ∷ rows)
  unfolding IsStrictlySortedBy
  rise_before total None row rows above rise = rise
  rise_before total (Some before) row rows above rise = ((above, all_above compare total before.now row.0 (keys_of rows) above rise.0), rise)

  -- no rows
  pub rise_none : (before : Option (Bor K)) (rows : List (K × V)) → rows ≡ [] → RiseAfter before rows
  unfolding IsStrictlySortedBy
  rise_none None rows empty = subst (IsSortedMap compare) (sym empty) tt
  rise_none (Some before) rows empty = subst (λ rows. IsStrictlySortedBy compare (before.now ∷ keys_of rows)) (sym empty) (tt, tt)

-- a map that was made of rows is that of equal rows
pub kept_as : {M E A : Type 0} (made : Result M E) (holds : M → A) (rows all : A) → rows ≡ all → IfOk made (λ map. holds map ≡ rows)
    → IfOk made (λ map. holds map ≡ all)
kept_as (Ok map) holds rows all same keeps = keeps ∙ same
kept_as (Err e) holds rows all same keeps = tt
