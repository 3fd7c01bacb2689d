-- A row that comes after the others is inserted after them.
use Rattle.std.proofs.Common.{◌≡◌, List, [], ◌∷◌, ◌++◌, refl, ap, ◌∙◌}
use Rattle.std.specs.declared.cmp.Ordering.{Ordering}
use Rattle.std.specs.declared.cmp.Ordering.TheVariants.{Less, Greater}
use Rattle.std.specs.Ordering.{ordering_reverse}
use Rattle.std.specs.Cmp.{IsTotalOrder}
use Rattle.std.specs.List.{AllByRecursion}
use Rattle.std.specs.List.Sorted.{IsStrictlySortedBy}
use Rattle.std.specs.Map.{keys_of}
use Rattle.std.specs.BTreeMap.{insert_entry}
use Rattle.icu_locale_core.specs.Maps.{IsSortedMap}
use Rattle.icu_provider.specs.laws.SortedMaps.{insert_entry-step}

module _ {K V : Type 0} {compare : K → K → Ordering} (total : IsTotalOrder compare) where
  -- a key after rising rows is above the first
  above_behind : (key : K) (rows rest : List (K × V)) (last : K × V) → AllByRecursion (λ later. compare key later ≡ Less)
      (keys_of (rows ++ last ∷ rest)) → compare last.0 key ≡ Greater
  above_behind key [] rest last below = total.antisymm last.0 key ∙ ap ordering_reverse below.0
  above_behind key (row ∷ rows) rest last below = above_behind key rows rest last below.1

  -- a row that comes after the others is inserted after them
  pub insert_entry-behind : (rows rest : List (K × V)) (last : K × V) → IsSortedMap compare (rows ++ last ∷ rest)
      → insert_entry compare rows last.0 last.1 ≡ rows ++ last ∷ []
  unfolding IsStrictlySortedBy
  insert_entry-behind [] rest last sorted = refl
  insert_entry-behind (row ∷ rows) rest last sorted =
      insert_entry-step compare last.0 last.1 row rows Greater (above_behind row.0 rows rest last sorted.0)
      ∙ ap (λ later. row ∷ later) (insert_entry-behind rows rest last sorted.1)
