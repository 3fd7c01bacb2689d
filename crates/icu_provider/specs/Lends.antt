-- What a sorted map ends as, once a value of its rows that was lent is given back.
use Rattle.std.specs.Prelude.{Bool, List, Option}
use Rattle.std.specs.BTreeMap.{insert_entry}
use Rattle.std.specs.Borrow.{Fml, LendsIf, MutBor, RattleType}
use Rattle.std.specs.declared.cmp.Ordering.{Ordering}
use Rattle.icu_provider.specs.contracts.sorted_map.SortedMap.{the_row}

-- what a clause has as K.Ord
abbrev pub OrdMembers : Type 0 → Type 0
OrdMembers K = record {
  partial_cmp : K → K → Option Ordering;
  eq : K → K → Bool;
  cmp : K → K → Ordering;
}

-- a sorted map's type
abbrev pub map_row : (K V : RattleType) → OrdMembers K.Denot → RattleType
map_row K V g =
    the_row K V (record { cmp = g.cmp }) (record { eq = g.eq })
    (record { partial_cmp = g.partial_cmp })

-- the map ends with the last value after the result at the key, or as it was if there is none
abbrev pub LendsValue : (K V : RattleType) (g : OrdMembers K.Denot)
    → MutBor (List (K.Denot × V.Denot)) → K.Denot → Option (MutBor V.Denot) → Fml
LendsValue K V g map key result =
    LendsIf (map_row K V g) V map result (λ value. insert_entry g.cmp map.now key value) map.now
