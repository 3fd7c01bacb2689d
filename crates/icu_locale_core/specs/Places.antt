-- Where a key is among rows whose keys rise, or would go.
use Rattle.std.specs.Prelude.{ℕ, ◌≤◌, ◌<◌, ◌+◌, List, length, ◌≡◌}
use Rattle.std.specs.List.{AllWithin, HoldsAt}
use Rattle.std.specs.declared.cmp.Ordering.{Ordering}
use Rattle.std.specs.declared.cmp.Ordering.TheVariants.{Less, Equal, Greater}

-- the row at this place has the key
pub record IsAt {K V : Type 0} (compare : K → K → Ordering) (rows : List (K × V)) (key : K) (at : ℕ)
    : Type 0 where
  pub in_range : at < length rows
  pub has_key : HoldsAt (λ row. compare key row.0 ≡ Equal) rows at

-- the key would go to this place: the keys before it are below, and those from it on are above
pub record IsGapFor {K V : Type 0} (compare : K → K → Ordering) (rows : List (K × V)) (key : K)
    (at : ℕ) : Type 0 where
  pub in_range : at ≤ length rows
  pub above_before : AllWithin (λ row. compare key row.0 ≡ Greater) rows 0 at
  pub below_after : AllWithin (λ row. compare key row.0 ≡ Less) rows at (length rows)

-- the keys before this place are below, and those after it are above
pub record IsNearest {K V : Type 0} (compare : K → K → Ordering) (rows : List (K × V)) (key : K)
    (at : ℕ) : Type 0 where
  pub above_before : AllWithin (λ row. compare key row.0 ≡ Greater) rows 0 at
  pub below_behind : AllWithin (λ row. compare key row.0 ≡ Less) rows (at + 1) (length rows)
