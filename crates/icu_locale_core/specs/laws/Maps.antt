-- What putting a value into a finite map changes, that a sorted map is told by its answers.
use Rattle.std.specs.Prelude.{◌≡◌, Bool, true, false, ◌&&◌, cond, T, if◌then◌else◌, List, [], ◌∷◌, Some}
use Rattle.std.proofs.Common.{refl, ap, sym, ◌∙◌, subst}
use Rattle.std.specs.FinMap.{find, is_sorted}
use Rattle.std.specs.FinMap.Entries.{below_all, same_entries}
use Rattle.std.specs.List.{AllByRecursion}
use Rattle.std.specs.Map.{keys_of, remove_entry}
use Rattle.std.proofs.lemmas.Map.{lookup-none}
use Rattle.std.proofs.lemmas.Map.Entries.{none_below_head}
use Rattle.std.proofs.lemmas.Map.Keys.{sorted_head, sorted_tail}
use Rattle.std.proofs.lemmas.Option.{none-some, same_Some}
use Rattle.std.specs.declared.cmp.Ordering.{Ordering}
use Rattle.std.specs.declared.cmp.Ordering.TheVariants.{Less, Equal, Greater}
use Rattle.std.specs.Ordering.{match_ordering, is_eq, is_lt, eq_by_cmp}
use Rattle.std.specs.BTreeMap.{is_at, insert_entry}
use Rattle.std.specs.Cmp.{IsTotalOrder, Equal-is}
use Rattle.std.proofs.lemmas.Bool.{false≢true}
use Rattle.std.proofs.lemmas.Cmp.{alike_right, eq_by_cmp_equiv, tied_itself}
use Rattle.icu_locale_core.specs.Maps.{IsSortedMap, value_at, SetsOnly}

same_test : {X : Type 0} (a b : Bool) (x y z : X) → a ≡ b → cond b x z ≡ cond a x (cond b y z)
same_test true true x y z e = refl
same_test false false x y z e = refl
same_test true false x y z e = absurd (false≢true (sym e))
same_test false true x y z e = absurd (false≢true e)

other_test : {X : Type 0} (a b : Bool) (x y z : X) → (a ≡ true → b ≡ false)
    → cond b y (cond a x z) ≡ cond a x (cond b y z)
other_test true true x y z apart = absurd (false≢true (sym (apart refl)))
other_test true false x y z apart = refl
other_test false b x y z apart = refl

lt_from_less : (o : Ordering) → o ≡ Less → T (is_lt o)
lt_from_less o less = subst (λ r. T (is_lt r)) (sym less) tt

both_true : (a b : Bool) → T a → T b → T (a && b)
both_true true b p q = q
both_true false b p q = absurd p

-- what std's finite maps find is the value at the key
pub as_find : {K V : Type 0} (compare : K → K → Ordering) (rows : List (K × V)) (q : K)
    → find compare q rows ≡ value_at compare rows q
as_find compare [] q = refl
as_find compare (row ∷ rows) q =
    ap (λ found. cond (eq_by_cmp compare q row.0) (Some row.1) found) (as_find compare rows q)

module _ {K V : Type 0} {compare : K → K → Ordering} (total : IsTotalOrder compare) where
  -- a look-up finds the value at its key, and at another key what was there
  found_after : (rows : List (K × V)) (key : K) (value : V) (q : K)
      → value_at compare (insert_entry compare rows key value) q
      ≡ (if is_at (compare q) key then Some value else value_at compare rows q)
  found_after [] key value q = refl
  found_after (row ∷ rows) key value q = by (compare key row.0) refl (found_after rows key value q)
    where
      by : (answer : Ordering) → compare key row.0 ≡ answer
          → value_at compare (insert_entry compare rows key value) q
          ≡ (if is_at (compare q) key then Some value else value_at compare rows q)
          → value_at compare (match_ordering answer ((key, value) ∷ row ∷ rows)
          ((row.0, value) ∷ rows)
          (row ∷ insert_entry compare rows key value)) q
          ≡ (if is_at (compare q) key then Some value else value_at compare (row ∷ rows) q)
      by Less is later = refl
      by Equal is later =
          same_test (is_at (compare q) key) (is_at (compare q) row.0) (Some value) (Some row.1)
          (value_at compare rows q) (ap is_eq (alike_right total key row.0 q is))
      by Greater is later =
          ap (λ found. cond (is_at (compare q) row.0) (Some row.1) found) later
          ∙ other_test (is_at (compare q) key) (is_at (compare q) row.0) (Some value) (Some row.1)
          (value_at compare rows q)
          (λ at. ap is_eq (total.congr q key row.0 ((Equal-is (compare q key)).0 at) ∙ is))

  -- a value that is put at a key changes nothing else
  pub SetsOnly-insert_entry : (rows : List (K × V)) (key : K) (value : V)
      → SetsOnly compare rows (insert_entry compare rows key value) key (Some value)
  SetsOnly-insert_entry rows key value q =
      subst
      (λ alike. value_at compare (insert_entry compare rows key value) q
      ≡ (if alike then Some value else value_at compare rows q))
      ((eq_by_cmp_equiv total).symm q key) (found_after rows key value q)

  -- it is found at its key
  pub found_at_key : (rows : List (K × V)) (key : K) (value : V)
      → value_at compare (insert_entry compare rows key value) key ≡ Some value
  found_at_key rows key value =
      found_after rows key value key
      ∙ ap (λ tied. if is_eq tied then Some value else value_at compare rows key)
      (tied_itself total key)

  -- ---- keys that tie are equal

  module _ (same : (x y : K) → compare x y ≡ Equal → x ≡ y) where
    below : (key : K) (rows : List (K × V))
        → AllByRecursion (λ other. compare key other ≡ Less) (keys_of rows)
        → T (below_all compare key rows)
    below key [] each = tt
    below key (row ∷ rows) each =
        both_true (is_lt (compare key row.0)) (below_all compare key rows)
        (lt_from_less (compare key row.0) each.0) (below key rows each.1)

    sorted : (rows : List (K × V)) → IsSortedMap compare rows → T (is_sorted compare rows)
    sorted [] rises = tt
    sorted (row ∷ rows) rises =
        both_true (below_all compare row.0 rows) (is_sorted compare rows)
        (below row.0 rows (sorted_head compare row.0 (keys_of rows) rises))
        (sorted rows (sorted_tail compare row.0 (keys_of rows) rises))

    -- sorted maps with the same answers are equal
    pub same_sorted_map : (rows others : List (K × V)) → IsSortedMap compare rows
        → IsSortedMap compare others
        → ((q : K) → value_at compare rows q ≡ value_at compare others q) → rows ≡ others
    same_sorted_map rows others rises others_rise alike =
        same_entries compare total same rows others (sorted rows rises)
        (sorted others others_rise)
        (λ q. as_find compare rows q ∙ alike q ∙ sym (as_find compare others q))

    -- below all keys a row goes before them
    before_all : (rows : List (K × V)) (key : K) (value : V)
        → AllByRecursion (λ other. compare key other ≡ Less) (keys_of rows)
        → insert_entry compare rows key value ≡ (key, value) ∷ rows
    before_all [] key value each = refl
    before_all (row ∷ rows) key value each = rw each.0

    -- a value that is taken out and put back leaves what was there
    pub put_back : (rows : List (K × V)) (key : K) (value : V) → IsSortedMap compare rows
        → value_at compare rows key ≡ Some value
        → insert_entry compare (remove_entry (is_at (compare key)) rows) key value ≡ rows
    put_back [] key value rises is = absurd (none-some value is)
    put_back (row ∷ rows) key value rises is =
        by (compare key row.0) refl
        (put_back rows key value (sorted_tail compare row.0 (keys_of rows) rises))
      where
        head : AllByRecursion (λ other. compare row.0 other ≡ Less) (keys_of rows)
        head = sorted_head compare row.0 (keys_of rows) rises

        by : (answer : Ordering) → compare key row.0 ≡ answer
            → (value_at compare rows key ≡ Some value
            → insert_entry compare (remove_entry (is_at (compare key)) rows) key value ≡ rows)
            → insert_entry compare (remove_entry (is_at (compare key)) (row ∷ rows)) key value
            ≡ row ∷ rows
        by Less less behind =
            let none = lookup-none _ (row ∷ rows) (none_below_head total key row rows rises less) in
            absurd (none-some value (sym none ∙ is))
        by Equal tied behind =
            let here : key ≡ row.0 = same key row.0 tied in
            let found : value_at compare (row ∷ rows) key ≡ Some row.1 = rw tied in
            let held : row.1 ≡ value = same_Some row.1 value (sym found ∙ is) in
            let each = subst (λ k. AllByRecursion (λ other. compare k other ≡ Less) (keys_of rows))
            (sym here) head in
            rw tied (before_all rows key value each ∙ (λ i. (here i, sym held i) ∷ rows))
        by Greater greater behind =
            let later : value_at compare rows key ≡ Some value =
            subst (λ o. cond (is_eq o) (Some row.1) (value_at compare rows key) ≡ Some value)
            greater is in
            let rest = remove_entry (is_at (compare key)) rows in
            let removed : remove_entry (is_at (compare key)) (row ∷ rows) ≡ row ∷ rest =
            rw greater in
            let step : insert_entry compare (row ∷ rest) key value
            ≡ row ∷ insert_entry compare rest key value = rw greater in
            ap (λ r. insert_entry compare r key value) removed ∙ step
            ∙ ap (λ r. row ∷ r) (behind later)
