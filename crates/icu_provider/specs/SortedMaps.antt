-- Maps whose keys rise, as the lists of their rows, the orders of keys, what a look-up answers and what an insert does.
use Rattle.std.specs.Prelude.{◌≡◌, ℕ, List, Some, Option, String, Vec, Bool, is_some, [], ◌∷◌, ◌++◌, Result, IsOk, IfErr, IsSome, OnOk, OnErr}
use Rattle.std.specs.List.{All}
use Rattle.std.specs.declared.cmp.Ordering.{Ordering}
use Rattle.std.specs.Ordering.{ordering_then}
use Rattle.std.specs.Option.{option_map}
use Rattle.std.specs.BTreeMap.{insert_entry}
use Rattle.std.specs.Global.{Global}
use Rattle.std.specs.String.{string_bytes}
use Rattle.icu_locale_core.specs.TextSet.{text_cmp}
use Rattle.icu_locale_core.specs.Maps.{value_at}
use Rattle.icu_provider.specs.declared.error.DataError.{DataError}
use Rattle.icu_provider.specs.declared.error.DataErrorKind.TheVariants.{Memory}
pub use Rattle.icu_locale_core.specs.Maps.{IsSortedMap, TiesEqualAlone}

-- pairs of texts in the order of the first and then of the second
abbrev pub pair_cmp : (List ℕ × List ℕ) → (List ℕ × List ℕ) → Ordering
pair_cmp a b = ordering_then (text_cmp a.0 b.0) (text_cmp a.1 b.1)

-- each row is found at its own key
abbrev pub IsFoundEach : {K V : Type 0} → (K → K → Ordering) → List (K × V) → Type 0
IsFoundEach compare rows = All (λ row. value_at compare rows row.0 ≡ Some row.1) rows

-- the replacement text of a subtag, if there is a row
abbrev pub text_at : List (List ℕ × String Global) → List ℕ → Option (List ℕ)
text_at rows subtag = option_map string_bytes (value_at text_cmp rows subtag)

-- the regions of which one replaces a region, if there is a row
abbrev pub regions_at : List (List ℕ × Vec (List ℕ) Global) → List ℕ → Option (List (List ℕ))
regions_at rows region = option_map (λ regions. regions.items) (value_at text_cmp rows region)

-- whether a script is a member
abbrev pub is_listed : List (List ℕ × Unit {0}) → List ℕ → Bool
is_listed scripts script = is_some (value_at text_cmp scripts script)

-- a refusal is of memory alone, and leaves the rows as they were
pub record RefusesMemory {Rows : Type 0} (old new : Rows) (result : Result (Unit {0}) DataError)
    : Type 0 where
  pub memory : IfErr result (λ e. e.kind ≡ Memory)
  pub unchanged : OnErr result (new ≡ old)

-- the row is put among the others, in the place of one with its key, and memory is asked for only where
-- the key is new
pub record Inserts {K V : Type 0} (compare : K → K → Ordering) (old new : List (K × V)) (key : K)
    (value : V) (result : Result (Unit {0}) DataError) : Type 0 where
  pub rows : OnOk result (new ≡ insert_entry compare old key value)
  pub refuses : RefusesMemory old new result
  pub present : IsSome (value_at compare old key) → IsOk result

-- the row is appended to the others
pub record Pushes {T : Type 0} (old new : List T) (row : T) (result : Result (Unit {0}) DataError)
    : Type 0 where
  pub rows : OnOk result (new ≡ old ++ row ∷ [])
  pub refuses : RefusesMemory old new result
