-- Where a character is among bounds, and a key among rows.
use Rattle.std.specs.Prelude.{◌≡◌, ℕ, ◌+◌, ◌≤◌, ◌<◌, List, length}
use Rattle.std.specs.List.{AllWithin}
use Rattle.std.specs.declared.cmp.Ordering.{Ordering}
use Rattle.std.specs.declared.cmp.Ordering.TheVariants.{Less, Greater}

-- this many bounds are not above the character, and all others are
pub record IsPlace (character : ℕ) (bounds : List ℕ) (place : ℕ) : Type 0 where
  pub in_range : place ≤ length bounds
  pub passed : AllWithin (λ bound. bound ≤ character) bounds 0 place
  pub ahead : AllWithin (λ bound. character < bound) bounds place (length bounds)

-- the keys before these rows are below, and those after them are above
pub record IsSpan {K V : Type 0} (compare : K → K → Ordering) (rows : List (K × V)) (key : K)
    (place size : ℕ) : Type 0 where
  pub within : place + size ≤ length rows
  pub above_before : AllWithin (λ row. compare key row.0 ≡ Greater) rows 0 place
  pub below_behind : AllWithin (λ row. compare key row.0 ≡ Less) rows (place + size) (length rows)
