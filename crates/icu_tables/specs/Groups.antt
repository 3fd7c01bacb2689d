-- Names in groups, one for each marker and locale, and the one list that a contract sees.
use Rattle.std.specs.Prelude.{◌≡◌, ◌≢◌, ℕ, List, [], ◌∷◌, ◌++◌, map, get_or, unwrap_or, Option, None, option_and_then, option_copied}
use Rattle.std.specs.Borrow.{Bor}
use Rattle.std.specs.List.{AllByRecursion}
use Rattle.std.specs.Ordering.{ordering_then}
use Rattle.std.specs.declared.cmp.Ordering.{Ordering}
use Rattle.icu_locale_core.specs.Maps.{IsSortedMap, value_at}
use Rattle.icu_provider.specs.Requests.{name_cmp, name_place}
use Rattle.icu_provider.specs.contracts.data_locale.DataLocaleOrd.TheImpl as data_locale
use Rattle.icu_provider.specs.contracts.names.NameKeyOrd.TheImpl as name_key
use Rattle.icu_provider.specs.contracts.names.NameMarkerOrd.TheImpl as name_marker
use Rattle.icu_provider.specs.declared.data_locale.DataLocale.{DataLocale}
use Rattle.icu_provider.specs.declared.names.NameKey.{NameKey}
use Rattle.icu_provider.specs.declared.names.NameMarker.{NameMarker}

-- the rows of a group, each with its whole key
abbrev pub group_rows : {G K R V : Type 0} → (G → K → R) → G → List (K × V) → List (R × V)
group_rows whole group rows = map (λ row. (whole group row.0, row.1)) rows

-- the rows of groups in one list, one group after another
abbrev pub flat : {G K R V : Type 0} → (G → K → R) → List (G × List (K × V)) → List (R × V)
flat whole [] = []
flat whole (group ∷ groups) = group_rows whole group.0 group.1 ++ flat whole groups

-- the rows of one group, none where it is not there
abbrev pub rows_at : {G T : Type 0} → (G → G → Ordering) → List (G × List T) → G → List T
rows_at by_group groups group = unwrap_or (value_at by_group groups group) []

-- the groups rise, the keys in each rise, and no group is empty
pub record RiseInGroups {G K V : Type 0} (by_group : G → G → Ordering) (by_key : K → K → Ordering)
    (groups : List (G × List (K × V))) : Type 0 where
  pub groups_rise : IsSortedMap by_group groups
  pub keys_rise : AllByRecursion (λ group. IsSortedMap by_key group.1) groups
  pub none_empty : AllByRecursion (λ group. group.1 ≢ []) groups

-- a marker and a locale
abbrev pub NameGroup : Type 0
NameGroup = NameMarker × DataLocale

-- the request for a key in a group
abbrev pub request_of : NameGroup → NameKey → NameMarker × DataLocale × NameKey
request_of group key = (group.0, group.1, key)

-- groups by marker, and then by locale
abbrev pub group_cmp : NameGroup → NameGroup → Ordering
group_cmp a b =
    ordering_then (name_marker.ghosts.cmp a.0 b.0) (data_locale.ghosts.cmp a.1 b.1)

-- the order of the keys in a group
abbrev pub key_cmp : NameKey → NameKey → Ordering
key_cmp a b = name_key.ghosts.cmp a b

-- groups of names as one list
abbrev pub flat_names : List (NameGroup × List (NameKey × List ℕ))
    → List ((NameMarker × DataLocale × NameKey) × List ℕ)
flat_names groups = flat request_of groups

-- the names of a group that is lent, by key
abbrev pub Names : Type 0
Names = List (NameKey × List ℕ)

-- the name at a key in a group, if both are there
abbrev pub name_in_group : Option (Bor Names) → NameKey → Option (List ℕ)
name_in_group group key = option_and_then (λ names. value_at key_cmp names key) (option_copied group)

-- the groups of a locale, each at the place of its marker
abbrev pub AreGroupsIn : List ((NameMarker × DataLocale × NameKey) × List ℕ) → DataLocale
    → List (Option (Bor Names)) → Type 0
AreGroupsIn rows locale groups = (marker : NameMarker) (key : NameKey)
    → name_in_group (get_or groups (name_place marker) None) key
    ≡ value_at name_cmp rows (marker, locale, key)
