-- A binary search over rows whose keys rise.
use Rattle.std.proofs.Common.{◌≡◌, ℕ, ◌+◌, ◌<◌, ◌≤◌, List, [], map, length, get_or, Some, None, sym, ap, ◌∙◌, subst, ⊎_elim, arith}
use Rattle.std.specs.declared.cmp.Ordering.{Ordering}
use Rattle.std.specs.declared.cmp.Ordering.TheVariants.{Less, Equal, Greater}
use Rattle.std.specs.Ordering.{ordering_reverse}
use Rattle.std.specs.Cmp.{IsTotalOrder}
use Rattle.std.specs.List.{AllWithin}
use Rattle.std.proofs.Math.Nat.{eq-or-lt_of_le}
use Rattle.std.proofs.lemmas.List.{get_or_default, get_or-map, length-map}
use Rattle.icu_locale_core.specs.Maps.{IsSortedMap, value_at}
use Rattle.icu_locale_core.specs.laws.SortedMaps.{keys_rise, lookup_at, lookup_in_gap}

-- the key is in no row before low, and in none from high on
pub record IsBetween {K V : Type 0} (compare : K → K → Ordering) (rows : List (K × V)) (key : K) (low high : ℕ) : Type 0 where
  pub within : high ≤ length rows
  pub order : low ≤ high
  pub above_before : AllWithin (λ row. compare key row.0 ≡ Greater) rows 0 low
  pub below_after : AllWithin (λ row. compare key row.0 ≡ Less) rows high (length rows)

module _ {K V : Type 0} {compare : K → K → Ordering} (total : IsTotalOrder compare) (rows : List (K × V)) (key : K) where
  turned : (x : K) (answer : Ordering) → compare x key ≡ answer → compare key x ≡ ordering_reverse answer
  turned x answer is = total.antisymm key x ∙ ap ordering_reverse is

  pub starts : IsBetween compare rows key 0 (length rows)
  starts = record {
    within = omega arith;
    order = omega arith;
    above_before = λ k d low high. absurd (omega arith);
    below_after = λ k d low high. absurd (omega arith);
  }

  pub goes_up : (low middle high : ℕ) (row : K × V) → IsSortedMap compare rows → IsBetween compare rows key low high
      → middle < high → get_or rows middle row ≡ row → compare row.0 key ≡ Less → IsBetween compare rows key (middle + 1) high
  goes_up low middle high row sorted between below here less = record {
    within = between.within;
    order = omega arith;
    below_after = between.below_after;
    above_before = λ k d from to. ⊎_elim
        (λ (same : k ≡ middle). subst (λ n. compare key (get_or rows n d).0 ≡ Greater) (sym same)
        (ap (λ r. compare key r.0) (get_or_default rows middle d row (omega (arith, between.within)) ∙ here) ∙ turned row.0 Less less))
        (λ (under : k < middle). turned (get_or rows k d).0 Less
        (total.trans (get_or rows k d).0 row.0 key
        (ap (λ r. compare (get_or rows k d).0 r.0) (sym here ∙ get_or_default rows middle row d (omega (arith, between.within)))
        ∙ keys_rise total rows k middle d sorted under (omega (arith, between.within))) less))
        (let le : k ≤ middle = omega arith in eq-or-lt_of_le le);
  }

  pub goes_down : (low middle high : ℕ) (row : K × V) → IsSortedMap compare rows → IsBetween compare rows key low high
      → low ≤ middle → middle < high → get_or rows middle row ≡ row → compare row.0 key ≡ Greater → IsBetween compare rows key low middle
  goes_down low middle high row sorted between above below here greater = record {
    within = omega (arith, between.within);
    order = above;
    above_before = between.above_before;
    below_after = λ k d from to. ⊎_elim
        (λ (same : middle ≡ k). subst (λ n. compare key (get_or rows n d).0 ≡ Less) same
        (ap (λ r. compare key r.0) (get_or_default rows middle d row (omega (arith, between.within)) ∙ here) ∙ turned row.0 Greater greater))
        (λ (over : middle < k). total.trans key row.0 (get_or rows k d).0 (turned row.0 Greater greater)
        (ap (λ r. compare r.0 (get_or rows k d).0) (sym here ∙ get_or_default rows middle row d (omega (arith, between.within)))
        ∙ keys_rise total rows middle k d sorted over to))
        (eq-or-lt_of_le from);
  }

  pub finds : (middle : ℕ) (row : K × V) → IsSortedMap compare rows → middle < length rows → get_or rows middle row ≡ row
      → compare row.0 key ≡ Equal → value_at compare rows key ≡ Some row.1
  finds middle row sorted within here equal =
      lookup_at total rows key middle row sorted (record {
        in_range = within;
        has_key = λ d. ap (λ r. compare key r.0) (get_or_default rows middle d row within ∙ here) ∙ turned row.0 Equal equal;
      })
      ∙ ap (λ r. Some r.1) here

  pub misses : (low high : ℕ) → IsBetween compare rows key low high → high ≤ low → value_at compare rows key ≡ None
  misses low high between met = lookup_in_gap total rows key low (record {
    in_range = omega (arith, between.within, between.order);
    above_before = between.above_before;
    below_after = λ k d from to. between.below_after k d (omega arith) to;
  })

-- the same over entries that say rows
module _ {K V : Type 0} {compare : K → K → Ordering} (total : IsTotalOrder compare) (row_of : List ℕ → K × V)
    (entries : List (List ℕ)) (key : K) where
  there : (middle : ℕ) → middle < length (map row_of entries)
      → get_or (map row_of entries) middle (row_of (get_or entries middle [])) ≡ row_of (get_or entries middle [])
  there middle within = get_or-map row_of entries middle [] _ (omega (arith, length-map entries row_of))

  pub up : (low middle high : ℕ) → IsSortedMap compare (map row_of entries)
      → IsBetween compare (map row_of entries) key low high → middle < high
      → compare (row_of (get_or entries middle [])).0 key ≡ Less → IsBetween compare (map row_of entries) key (middle + 1) high
  up low middle high sorted between below less =
      goes_up total (map row_of entries) key low middle high _ sorted between below
      (there middle (omega (arith, between.within))) less

  pub down : (low middle high : ℕ) → IsSortedMap compare (map row_of entries)
      → IsBetween compare (map row_of entries) key low high → low ≤ middle → middle < high
      → compare (row_of (get_or entries middle [])).0 key ≡ Greater → IsBetween compare (map row_of entries) key low middle
  down low middle high sorted between above below greater =
      goes_down total (map row_of entries) key low middle high _ sorted between above below
      (there middle (omega (arith, between.within))) greater

  pub found : (middle : ℕ) → IsSortedMap compare (map row_of entries) → middle < length (map row_of entries)
      → compare (row_of (get_or entries middle [])).0 key ≡ Equal
      → value_at compare (map row_of entries) key ≡ Some (row_of (get_or entries middle [])).1
  found middle sorted within equal =
      finds total (map row_of entries) key middle _ sorted within (there middle within) equal
