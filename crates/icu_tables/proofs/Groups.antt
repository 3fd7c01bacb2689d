-- Rows in groups: what a look-up finds in their one list, that it rises, and what an insert does.
use Rattle.std.proofs.Common.{◌≡◌, Bool, true, false, List, [], ◌∷◌, ◌++◌, cond, unwrap_or, Option, Some, None, option_and_then, refl, sym, ap, ◌∙◌, subst}
use Rattle.std.specs.declared.cmp.Ordering.{Ordering}
use Rattle.std.specs.declared.cmp.Ordering.TheVariants.{Less, Equal, Greater}
use Rattle.std.specs.Ordering.{is_eq, match_ordering, ordering_then}
use Rattle.std.specs.Cmp.{IsTotalOrder}
use Rattle.std.specs.List.{AllByRecursion}
use Rattle.std.specs.List.Sorted.{IsStrictlySortedBy}
use Rattle.std.specs.Map.{keys_of}
use Rattle.std.specs.Option.{option_or}
use Rattle.std.specs.BTreeMap.{insert_entry}
use Rattle.std.proofs.lemmas.Cmp.{tied_itself}
use Rattle.std.proofs.lemmas.Map.{lookup-none}
use Rattle.std.proofs.lemmas.Map.Entries.{none_below_head}
use Rattle.icu_locale_core.specs.Maps.{IsSortedMap, value_at}
use Rattle.icu_provider.specs.laws.SortedMaps.{by_answer}
use Rattle.icu_tables.specs.Groups.{group_rows, flat, rows_at}

-- where the first comparison is not a tie, it decides
first_decides : (o p : Ordering) → is_eq o ≡ false → is_eq (ordering_then o p) ≡ false
first_decides Less p apart = refl
first_decides Equal p apart = absurd (subst (λ b. cond b (Unit {0}) ⊥) apart tt)
first_decides Greater p apart = refl

pub or_none : {X : Type 0} (o : Option X) (p : Option X) → p ≡ None → option_or o p ≡ o
or_none None p none = none
or_none (Some x) p none = refl

module _ {G : Type 0} {by_group : G → G → Ordering} (total : IsTotalOrder by_group) where
  -- what ties with a group is below the groups above it
  below_each : (g h : G) (groups : List G) → by_group g h ≡ Equal → AllByRecursion (λ other. by_group h other ≡ Less) groups
      → AllByRecursion (λ other. by_group g other ≡ Less) groups
  below_each g h [] tied above = tt
  below_each g h (other ∷ groups) tied above = (total.congr g h other tied ∙ above.0, below_each g h groups tied above.1)

  -- so is what is below the group
  below_later : (g h : G) (groups : List G) → by_group g h ≡ Less → AllByRecursion (λ other. by_group h other ≡ Less) groups
      → AllByRecursion (λ other. by_group g other ≡ Less) groups
  below_later g h [] less above = tt
  below_later g h (other ∷ groups) less above = (total.trans g h other less above.0, below_later g h groups less above.1)

module _ {G K V : Type 0} (by_group : G → G → Ordering) (P : List (K × V) → Type 0) where
  -- what holds of each group's rows still does
  pub each-insert_entry : (groups : List (G × List (K × V))) (g : G) (rows : List (K × V)) → AllByRecursion (λ group. P group.1) groups
      → P rows → AllByRecursion (λ group. P group.1) (insert_entry by_group groups g rows)
  each-insert_entry [] g rows each one = (one, tt)
  each-insert_entry (group ∷ groups) g rows each one = by (by_group g group.0) (each-insert_entry groups g rows each.1 one)
    where
      by : (answer : Ordering) → AllByRecursion (λ group. P group.1) (insert_entry by_group groups g rows)
          → AllByRecursion (λ group. P group.1) (match_ordering answer ((g, rows) ∷ group ∷ groups) ((group.0, rows) ∷ groups)
          (group ∷ insert_entry by_group groups g rows))
      by Less later = (one, each)
      by Equal later = (one, each.1)
      by Greater later = (each.0, later)

module _ {G K R V : Type 0} (whole : G → K → R) {by_group : G → G → Ordering} (by_key : K → K → Ordering) (by_whole : R → R → Ordering)
    (total_group : IsTotalOrder by_group) (parts : (g h : G) (k l : K) → by_whole (whole g k) (whole h l) ≡ ordering_then (by_group g h) (by_key k l)) where
  -- ---- look-ups

  -- the rows of another group are passed over
  pub passed : (g h : G) (k : K) (rows : List (K × V)) (more : List (R × V)) → is_eq (by_group g h) ≡ false
      → value_at by_whole (group_rows whole h rows ++ more) (whole g k) ≡ value_at by_whole more (whole g k)
  passed g h k [] more apart = refl
  passed g h k (row ∷ rows) more apart =
      let other : is_eq (by_whole (whole g k) (whole h row.0)) ≡ false = ap is_eq (parts g h k row.0) ∙ first_decides (by_group g h) (by_key k row.0) apart in
      ap (λ tied. cond tied (Some row.1) (value_at by_whole (group_rows whole h rows ++ more) (whole g k))) other ∙ passed g h k rows more apart

  -- the rows of the group are looked up by their keys, and then the others
  pub looked_up : (g h : G) (k : K) (rows : List (K × V)) (more : List (R × V)) → by_group g h ≡ Equal
      → value_at by_whole (group_rows whole h rows ++ more) (whole g k) ≡ option_or (value_at by_key rows k) (value_at by_whole more (whole g k))
  looked_up g h k [] more tied = refl
  looked_up g h k (row ∷ rows) more tied =
      let here : by_whole (whole g k) (whole h row.0) ≡ by_key k row.0 = parts g h k row.0 ∙ ap (λ o. ordering_then o (by_key k row.0)) tied in
      ap (λ o. cond (is_eq o) (Some row.1) (value_at by_whole (group_rows whole h rows ++ more) (whole g k))) here
      ∙ ap (λ found. cond (is_eq (by_key k row.0)) (Some row.1) found) (looked_up g h k rows more tied)
      ∙ turned (is_eq (by_key k row.0)) (value_at by_key rows k)
    where
      turned : (test : Bool) (found : Option V) → cond test (Some row.1) (option_or found (value_at by_whole more (whole g k))) ≡ option_or
          (cond test (Some row.1) found) (value_at by_whole more (whole g k))
      turned true found = refl
      turned false found = refl

  -- below all groups nothing is found
  none_above : (g : G) (k : K) (groups : List (G × List (K × V))) → AllByRecursion (λ h. by_group g h ≡ Less) (keys_of groups)
      → value_at by_whole (flat whole groups) (whole g k) ≡ None
  none_above g k [] above = refl
  none_above g k (group ∷ groups) above = passed g group.0 k group.1 (flat whole groups) (ap is_eq above.0) ∙ none_above g k groups above.1

  -- a look-up in the one list is one of the group, and then one of the key
  pub value_at-flat : (groups : List (G × List (K × V))) (g : G) (k : K) → IsSortedMap by_group groups
      → value_at by_whole (flat whole groups) (whole g k) ≡ option_and_then (λ rows. value_at by_key rows k) (value_at by_group groups g)
  unfolding IsStrictlySortedBy
  value_at-flat [] g k rises = refl
  value_at-flat (group ∷ groups) g k rises =
      let later = value_at-flat groups g k rises.1 in
      let other = λ (apart : is_eq (by_group g group.0) ≡ false).
      passed g group.0 k group.1 (flat whole groups) apart
      ∙ later
      ∙ ap (λ tied. option_and_then (λ rows. value_at by_key rows k) (cond tied (Some group.1) (value_at by_group groups g))) (sym apart) in
      by_answer (by_group g group.0)
      (λ is. other (ap is_eq is))
      (λ is.
      looked_up g group.0 k group.1 (flat whole groups) is
      ∙ or_none (value_at by_key group.1 k) _ (none_above g k groups (below_each total_group g group.0 (keys_of groups) is rises.0))
      ∙ ap (λ o. option_and_then (λ rows. value_at by_key rows k) (cond (is_eq o) (Some group.1) (value_at by_group groups g))) (sym is))
      (λ is. other (ap is_eq is))

  -- ---- the order

  -- a group's keys are below those of the groups above it
  group_below : (g h : G) (k : K) (rows : List (K × V)) (more : List (R × V)) → by_group g h ≡ Less
      → AllByRecursion (λ r. by_whole (whole g k) r ≡ Less) (keys_of more) → AllByRecursion (λ r. by_whole (whole g k) r ≡ Less)
      (keys_of (group_rows whole h rows ++ more))
  group_below g h k [] more less above = above
  group_below g h k (row ∷ rows) more less above = (parts g h k row.0 ∙ ap (λ o. ordering_then o (by_key k row.0)) less, group_below g h k rows more less above)

  below_flat : (g : G) (k : K) (groups : List (G × List (K × V))) → AllByRecursion (λ h. by_group g h ≡ Less) (keys_of groups)
      → AllByRecursion (λ r. by_whole (whole g k) r ≡ Less) (keys_of (flat whole groups))
  below_flat g k [] above = tt
  below_flat g k (group ∷ groups) above = group_below g group.0 k group.1 (flat whole groups) above.0 (below_flat g k groups above.1)

  -- a key is below the later ones of its group, and what is above the group
  key_below : (g : G) (k : K) (rows : List (K × V)) (more : List (R × V)) → AllByRecursion (λ l. by_key k l ≡ Less) (keys_of rows)
      → AllByRecursion (λ r. by_whole (whole g k) r ≡ Less) (keys_of more) → AllByRecursion (λ r. by_whole (whole g k) r ≡ Less)
      (keys_of (group_rows whole g rows ++ more))
  key_below g k [] more below above = above
  key_below g k (row ∷ rows) more below above =
      let here = parts g g k row.0 ∙ ap (λ o. ordering_then o (by_key k row.0)) (tied_itself total_group g) ∙ below.0 in
      (here, key_below g k rows more below.1 above)

  group_rises : (g : G) (rows : List (K × V)) (more : List (R × V)) → IsSortedMap by_key rows → IsSortedMap by_whole more
      → ((k : K) → AllByRecursion (λ r. by_whole (whole g k) r ≡ Less) (keys_of more)) → IsSortedMap by_whole (group_rows whole g rows ++ more)
  unfolding IsStrictlySortedBy
  group_rises g [] more rises rest above = rest
  group_rises g (row ∷ rows) more rises rest above = (key_below g row.0 rows more rises.0 (above row.0), group_rises g rows more rises.1 rest above)

  -- the one list rises
  pub flat_rises : (groups : List (G × List (K × V))) → IsSortedMap by_group groups
      → AllByRecursion (λ group. IsSortedMap by_key group.1) groups → IsSortedMap by_whole (flat whole groups)
  unfolding IsStrictlySortedBy
  flat_rises [] rises each = tt
  flat_rises (group ∷ groups) rises each = group_rises group.0 group.1 (flat whole groups) each.0 (flat_rises groups rises.1 each.1)
      (λ k. below_flat group.0 k groups rises.0)

  -- ---- an insert

  -- below all rows a row goes before them
  before_all : (rows : List (R × V)) (key : R) (value : V) → AllByRecursion (λ r. by_whole key r ≡ Less) (keys_of rows)
      → insert_entry by_whole rows key value ≡ (key, value) ∷ rows
  before_all [] key value each = refl
  before_all (row ∷ rows) key value each = ap (λ o. match_ordering o ((key, value) ∷ row ∷ rows) ((row.0, value) ∷ rows)
      (row ∷ insert_entry by_whole rows key value)) each.0

  -- past a group that is below, the row goes among the others
  past_group : (g h : G) (k : K) (value : V) (rows : List (K × V)) (more : List (R × V)) → by_group g h ≡ Greater
      → insert_entry by_whole (group_rows whole h rows ++ more) (whole g k) value ≡ group_rows whole h rows ++ insert_entry by_whole more (whole g k) value
  past_group g h k value [] more greater = refl
  past_group g h k value (row ∷ rows) more greater =
      let here : by_whole (whole g k) (whole h row.0) ≡ Greater = parts g h k row.0 ∙ ap (λ o. ordering_then o (by_key k row.0)) greater in
      let first : R × V = (whole h row.0, row.1) in
      let rest = group_rows whole h rows ++ more in
      ap (λ o. match_ordering o ((whole g k, value) ∷ first ∷ rest) ((first.0, value) ∷ rest) (first ∷ insert_entry by_whole rest (whole g k) value)) here
      ∙ ap (λ later. first ∷ later) (past_group g h k value rows more greater)

  -- in its own group the row goes to its key
  in_group : (g : G) (k : K) (value : V) (rows : List (K × V)) (more : List (R × V))
      → AllByRecursion (λ r. by_whole (whole g k) r ≡ Less) (keys_of more) → insert_entry by_whole (group_rows whole g rows ++ more)
      (whole g k) value ≡ group_rows whole g (insert_entry by_key rows k value) ++ more
  in_group g k value [] more above = before_all more (whole g k) value above
  in_group g k value (row ∷ rows) more above =
      let here : by_whole (whole g k) (whole g row.0) ≡ by_key k row.0 = parts g g k row.0
      ∙ ap (λ o. ordering_then o (by_key k row.0)) (tied_itself total_group g) in
      let first : R × V = (whole g row.0, row.1) in
      let rest = group_rows whole g rows ++ more in
      ap (λ o. match_ordering o ((whole g k, value) ∷ first ∷ rest) ((first.0, value) ∷ rest) (first ∷ insert_entry by_whole rest (whole g k) value)) here
      ∙ by (by_key k row.0) (in_group g k value rows more above)
    where
      by : (answer : Ordering) → insert_entry by_whole (group_rows whole g rows ++ more) (whole g k) value ≡ group_rows whole g
          (insert_entry by_key rows k value) ++ more → match_ordering answer
          ((whole g k, value) ∷ (whole g row.0, row.1) ∷ (group_rows whole g rows ++ more))
          ((whole g row.0, value) ∷ (group_rows whole g rows ++ more)) ((whole g row.0, row.1) ∷ insert_entry by_whole
          (group_rows whole g rows ++ more) (whole g k) value) ≡ group_rows whole g
          (match_ordering answer ((k, value) ∷ row ∷ rows) ((row.0, value) ∷ rows) (row ∷ insert_entry by_key rows k value)) ++ more
      by Less later = refl
      by Equal later = refl
      by Greater later = ap (λ rest. (whole g row.0, row.1) ∷ rest) later

  -- an insert into the one list is one into the group, which is made where it is not there
  pub insert_entry-flat : ((g h : G) → by_group g h ≡ Equal → g ≡ h) → (groups : List (G × List (K × V))) (g : G) (k : K) (value : V)
      → IsSortedMap by_group groups → insert_entry by_whole (flat whole groups) (whole g k) value ≡ flat whole
      (insert_entry by_group groups g (insert_entry by_key (rows_at by_group groups g) k value))
  unfolding IsStrictlySortedBy
  insert_entry-flat same [] g k value rises = refl
  insert_entry-flat same (group ∷ groups) g k value rises =
      let all = group ∷ groups in
      let made = λ (o : Ordering) (rows : List (K × V)). flat whole (match_ordering o ((g, insert_entry by_key rows k value) ∷ all)
      ((group.0, insert_entry by_key rows k value) ∷ groups) (group ∷ insert_entry by_group groups g (insert_entry by_key rows k value))) in
      let later = λ (apart : is_eq (by_group g group.0) ≡ false). ap (λ tied. unwrap_or (cond tied (Some group.1) (value_at by_group groups g)) []) apart in
      by_answer (by_group g group.0)
      (λ is.
      let above : AllByRecursion (λ h. by_group g h ≡ Less) (keys_of all) = (is, below_later total_group g group.0 (keys_of groups) is rises.0) in
      let none : rows_at by_group all g ≡ [] = ap (λ found. unwrap_or found []) (lookup-none _ all (none_below_head total_group g group groups rises is)) in
      before_all (flat whole all) (whole g k) value (below_flat g k all above)
      ∙ sym (λ i. made (is i) (none i)))
      (λ is.
      let here : rows_at by_group all g ≡ group.1 = ap (λ o. unwrap_or (cond (is_eq o) (Some group.1) (value_at by_group groups g)) []) is in
      let above = below_flat group.0 k groups rises.0 in
      ap (λ h. insert_entry by_whole (flat whole all) (whole h k) value) (same g group.0 is)
      ∙ in_group group.0 k value group.1 (flat whole groups) above
      ∙ sym (λ i. made (is i) (here i)))
      (λ is.
      past_group g group.0 k value group.1 (flat whole groups) is
      ∙ ap (λ rest. group_rows whole group.0 group.1 ++ rest) (insert_entry-flat same groups g k value rises.1)
      ∙ sym (λ i. made (is i) (later (ap is_eq is) i)))
