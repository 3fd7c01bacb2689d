-- Names in groups: what a look-up finds, and what a row that is put into its group does to the one list.
use Rattle.std.proofs.Common.{◌≡◌, ◌≢◌, nat_eq, length, List, [], ◌∷◌, unwrap_or, Option, Some, None, option_and_then, Result, Ok, Err, IsSome, IfSome, refl, sym}
use Rattle.std.proofs.Common.{ap, ◌∙◌, subst, arith, ℕ, ◌<◌}
use Rattle.std.proofs.lemmas.Bool.Decides.{nat_tests}
use Rattle.std.specs.Cmp.{IsTotalOrder}
use Rattle.std.specs.List.{AllByRecursion}
use Rattle.std.specs.List.Sorted.{IsStrictlySortedBy}
use Rattle.std.specs.BTreeMap.{insert_entry}
use Rattle.std.specs.Ordering.{ordering_then}
use Rattle.std.specs.declared.cmp.Ordering.TheVariants.{Equal}
use Rattle.std.proofs.lemmas.Cmp.{on_total, then_total, tied_itself}
use Rattle.std.proofs.lemmas.Bool.{false≢true}
use Rattle.std.proofs.lemmas.Option.{none-some}
use Rattle.std.proofs.lemmas.Map.Entries.{All-lookup}
use Rattle.std.proofs.lemmas.List.Elements.{All-from_recursion}
use Rattle.icu_locale_core.specs.Maps.{IsSortedMap, value_at}
use Rattle.icu_provider.specs.SortedMaps.{Inserts, TiesEqualAlone}
use Rattle.icu_provider.specs.Requests.{name_cmp}
use Rattle.icu_provider.specs.contracts.data_locale.DataLocaleOrd.TheImpl.Laws as data_locale
use Rattle.icu_provider.specs.contracts.names.NameKeyOrd.TheImpl.Laws as name_key
use Rattle.icu_provider.specs.contracts.names.NameMarkerOrd.TheImpl.Laws as name_marker
use Rattle.icu_provider.specs.declared.data_locale.DataLocale.{DataLocale}
use Rattle.icu_provider.specs.declared.error.DataError.{DataError}
use Rattle.icu_provider.specs.declared.names.NameKey.{NameKey}
use Rattle.icu_provider.specs.declared.names.NameMarker.{NameMarker}
use Rattle.icu_tables.specs.Groups.{NameGroup, RiseInGroups, flat_names, group_cmp, key_cmp, request_of}
use Rattle.icu_provider.specs.laws.SortedMaps.{IsSortedMap-insert_entry, insert_entry-same, inserts_from_rows, found_inserted}
use Rattle.icu_tables.proofs.Groups.{each-insert_entry, flat_rises, insert_entry-flat, value_at-flat}

abbrev Names : Type 0
Names = List (NameKey × List ℕ)

abbrev Groups : Type 0
Groups = List (NameGroup × Names)

pub key_total : IsTotalOrder key_cmp
key_total = name_key.total-law

pub group_total : IsTotalOrder group_cmp
group_total = then_total (on_total (λ (p : NameGroup). p.0) name_marker.total-law) (on_total (λ (p : NameGroup). p.1) data_locale.total-law)

pub name_total : IsTotalOrder name_cmp
name_total = then_total (on_total (λ (p : NameMarker × DataLocale × NameKey). (p.0, p.1)) group_total)
    (on_total (λ (p : NameMarker × DataLocale × NameKey). p.2) key_total)

-- groups that tie are the same, as requests are
pub same_group : TiesEqualAlone name_cmp → NameKey → (g h : NameGroup) → group_cmp g h ≡ Equal → g ≡ h
same_group ties key g h tied =
    let whole : name_cmp (request_of g key) (request_of h key) ≡ Equal = ap (λ o. ordering_then o (key_cmp key key)) tied ∙ tied_itself key_total key in
    ap (λ r. (r.0, r.1)) ((ties (request_of g key) (request_of h key)).0 whole)

-- the names of groups rise in each
abbrev Rise : Groups → Type 0
Rise groups = RiseInGroups group_cmp key_cmp groups

-- the names of a group rise, and there is one
abbrev IsGroup : Names → Type 0
IsGroup names = IsSortedMap key_cmp names × (names ≢ [])

-- no groups
pub rise_where_none : (groups : Groups) → groups ≡ [] → Rise groups
unfolding IsStrictlySortedBy
rise_where_none groups is = subst Rise (sym is) (record { groups_rise = tt; keys_rise = tt; none_empty = tt })

-- where a name is found there is one
some_found : (names : Names) (key : NameKey) (name : List ℕ) → value_at key_cmp names key ≡ Some name → names ≢ []
some_found names key name found empty = absurd (none-some name (ap (λ rows. value_at key_cmp rows key) (sym empty) ∙ found))

-- one name is in order
pub one_rises : (key : NameKey) (name : List ℕ) → IsSortedMap key_cmp ((key, name) ∷ [])
unfolding IsStrictlySortedBy
one_rises key name = (tt, tt)

-- the one list rises
pub names_rise : (groups : Groups) → Rise groups → IsSortedMap name_cmp (flat_names groups)
names_rise groups rise = flat_rises request_of key_cmp name_cmp group_total (λ g h k l. refl) groups rise.groups_rise rise.keys_rise

-- groups with the names of one replaced still rise
pub rise_after : (groups : Groups) (g : NameGroup) (names : Names) → Rise groups → IsGroup names → Rise (insert_entry group_cmp groups g names)
rise_after groups g names rise is = record {
  groups_rise = IsSortedMap-insert_entry group_total groups g names rise.groups_rise;
  keys_rise = each-insert_entry group_cmp (IsSortedMap key_cmp) groups g names rise.keys_rise is.0;
  none_empty = each-insert_entry group_cmp (λ rows. rows ≢ []) groups g names rise.none_empty is.1;
}

both_some : (m n : ℕ) → 0 < m → 0 < n → nat_eq m 0 ≡ nat_eq n 0
both_some m n p q = grind (arith, nat_tests, p, q)

-- there is no name exactly where there is no group
pub none_without_groups : (groups : Groups) → Rise groups → nat_eq (length groups) 0 ≡ nat_eq (length (flat_names groups)) 0
none_without_groups [] rise = refl
none_without_groups ((g, []) ∷ groups) rise = absurd (rise.none_empty.0 refl)
none_without_groups ((g, name ∷ names) ∷ groups) rise = both_some _ _ (omega arith) (omega arith)

-- a group that stays as it was changes no group
pub same_groups : (groups : Groups) (g : NameGroup) (old new : Names) → Rise groups → value_at group_cmp groups g ≡ Some old → new ≡ old
    → insert_entry group_cmp groups g new ≡ groups
same_groups groups g old new rise there same =
    ap (insert_entry group_cmp groups g) same ∙ insert_entry-same group_total groups g old rise.groups_rise there

module _ (groups : Groups) (g : NameGroup) (key : NameKey) (rise : Rise groups) where
  -- what each group has, one that is found has
  of_group : (P : Names → Type 0) (names : Names) → AllByRecursion (λ group. P group.1) groups → value_at group_cmp groups g ≡ Some names → P names
  of_group P names each there = subst (λ held. IfSome held P) there (All-lookup P _ groups (All-from_recursion _ _ each))

  -- a look-up in the one list is one among the groups, and then one among the names
  pub name_in_groups : value_at name_cmp (flat_names groups) (request_of g key) ≡ option_and_then (λ names. value_at key_cmp names key)
      (value_at group_cmp groups g)
  name_in_groups = value_at-flat request_of key_cmp name_cmp group_total (λ g h k l. refl) groups g key rise.groups_rise

  -- where no group is there it finds nothing
  pub name_missing : value_at group_cmp groups g ≡ None → value_at name_cmp (flat_names groups) (request_of g key) ≡ None
  name_missing none = name_in_groups ∙ ap (option_and_then (λ names. value_at key_cmp names key)) none

  module _ (name : List ℕ) where
    -- after an insert into a group that is there, its names still rise
    pub names_after : (old names : Names) (result : Result (Unit {0}) DataError) → value_at group_cmp groups g ≡ Some old
        → Inserts key_cmp old names key name result → IsGroup names
    names_after old names (Ok done) there inserts = (
      (inserts_from_rows key_total old names key name (of_group (IsSortedMap key_cmp) old rise.keys_rise there) inserts.rows).sorted,
      some_found names key name (found_inserted key_total old names key name inserts.rows),
    )
    names_after old names (Err e) there inserts =
        subst IsGroup (sym inserts.refuses.unchanged)
        (of_group (IsSortedMap key_cmp) old rise.keys_rise there, of_group (λ rows. rows ≢ []) old rise.none_empty there)

    -- a group of one name is put among groups that rise
    pub rise_new : (new : Groups) (result : Result (Unit {0}) DataError) → Inserts group_cmp groups new g ((key, name) ∷ []) result → Rise new
    rise_new new (Ok done) inserts = subst Rise (sym inserts.rows) (rise_after groups g _ rise (one_rises key name, λ empty. absurd (omega (arith, ap length empty))))
    rise_new new (Err e) inserts = subst Rise (sym inserts.refuses.unchanged) rise

    -- what an insert into the one list says
    abbrev Put : Groups → Result (Unit {0}) DataError → Type 0
    Put new result = Inserts name_cmp (flat_names groups) (flat_names new) (request_of g key) name result

    module _ (ties : TiesEqualAlone name_cmp) where
      -- a row that is put into its group, which is empty where it is new, is put into the one list
      put : (new : Groups) (found : Option Names) → value_at group_cmp groups g ≡ found
          → new ≡ insert_entry group_cmp groups g (insert_entry key_cmp (unwrap_or found []) key name) → Put new (Ok tt)
      put new found there is =
          let here = ap (λ held. insert_entry group_cmp groups g (insert_entry key_cmp (unwrap_or held []) key name)) (sym there) in
          let flat = insert_entry-flat request_of key_cmp name_cmp group_total (λ g h k l. refl) (same_group ties key) groups g key name rise.groups_rise in
          record {
            rows = ap flat_names (is ∙ here) ∙ sym flat;
            refuses = record { memory = tt; unchanged = tt };
            present = λ found. refl;
          }

      -- an insert into a group that is there
      pub inserts_there : (old names : Names) (result : Result (Unit {0}) DataError) → value_at group_cmp groups g ≡ Some old
          → Inserts key_cmp old names key name result → Put (insert_entry group_cmp groups g names) result
      inserts_there old names (Ok done) there inserts = put _ (Some old) there (ap (insert_entry group_cmp groups g) inserts.rows)
      inserts_there old names (Err e) there inserts =
          let same = same_groups groups g old names rise there inserts.refuses.unchanged in
          let whole = name_in_groups ∙ ap (option_and_then (λ rows. value_at key_cmp rows key)) there in
          record {
            rows = tt;
            refuses = record { memory = inserts.refuses.memory; unchanged = ap flat_names same };
            present = λ found. inserts.present (subst IsSome whole found);
          }

      -- an insert of a group of one name
      pub inserts_new : (new : Groups) (result : Result (Unit {0}) DataError) → value_at group_cmp groups g ≡ None
          → Inserts group_cmp groups new g ((key, name) ∷ []) result → Put new result
      inserts_new new (Ok done) none inserts = put new None none inserts.rows
      inserts_new new (Err e) none inserts = record {
        rows = tt;
        refuses = record { memory = inserts.refuses.memory; unchanged = ap flat_names inserts.refuses.unchanged };
        present = λ found. absurd (false≢true (subst IsSome (name_missing none) found));
      }
