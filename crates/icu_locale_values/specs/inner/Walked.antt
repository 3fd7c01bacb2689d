-- The walk over the rows of a map: what it has found so far, and what it refuses.
use Rattle.std.specs.Prelude.{◌≡◌, ◌++◌, ◌||◌, Bool, true, false, List, [], ◌∷◌, map, Option, Some, None, IsSome, IsSomeAnd, if◌then◌else◌}
use Rattle.std.specs.Option.{option_or}
use Rattle.std.specs.declared.cmp.Ordering.{Ordering}
use Rattle.icu_locale.specs.Kinds.{next}
use Rattle.icu_locale.specs.Refusals.{ComesAgainFirst, ValueComesAgainFirst}
use Rattle.icu_locale.specs.declared.canonicalizer.CanonicalizeError.{CanonicalizeError}
use Rattle.icu_locale.specs.declared.canonicalizer.CanonicalizeError.TheVariants as rules
use Rattle.icu_locale.specs.declared.expander.TransformResult.{TransformResult}
use Rattle.icu_locale.specs.declared.expander.TransformResult.TheVariants.{Modified}
use Rattle.icu_locale_core.specs.Maps.{IsSortedMap, value_at}
use Rattle.icu_locale_core.specs.declared.langid.LanguageIdentifier.{LanguageIdentifier}
use Rattle.icu_locale_core.specs.declared.locale.Locale.{Locale}
use Rattle.icu_locale_runs.specs.Run.{IsLaterEndOf, IsRepeat}
use Rattle.icu_locale_values.specs.Aliases.{preferred}
use Rattle.icu_locale_values.specs.Refusals.{IsFirstRepeat}
use Rattle.icu_locale_values.specs.Whole.{WholeRules, is_any_followed, without_language}
use Rattle.icu_locale_values.specs.declared.error.WholeError.{WholeError}
use Rattle.icu_locale_values.specs.declared.error.WholeError.TheVariants.{Memory, NoFixedPoint, NoSubdivisionFixedPoint}
use Rattle.icu_locale_values.specs.declared.walk.Refusal.{Refusal}
use Rattle.icu_locale_values.specs.declared.walk.Refusal.TheVariants as walk

-- the value that follows another at a key of a table, where the rules do not speak
abbrev pub next_at : {K V : Type 0} → (K → Bool) → (K → K → Ordering) → (V → V → Ordering)
    → List (K × List (V × V)) → K → V → Option V
next_at ruled order values table key =
    preferred values (if ruled key then None else value_at order table key)

-- a value, and those preferred by the rows
abbrev pub universe : {V : Type 0} → List (V × V) → V → List V
universe rows v = v ∷ map (λ row. row.1) rows

-- at each key the later end of the run of the value there, if there is one
abbrev pub AreLaterEnds : {K V : Type 0} → (K → K → Ordering) → (K → V → Option V)
    → (rows ends : List (K × V)) → Type 0
AreLaterEnds {K} order next rows ends =
    (key : K) → IsLaterEndOf (next key) (value_at order rows key) (value_at order ends key)

-- there is a row
abbrev pub has_row : {X : Type 0} → List X → Bool
has_row [] = false
has_row (row ∷ rows) = true

-- a value appended to the rows, if there is one
abbrev pub with_end : {K V : Type 0} → List (K × V) → K → Option V → List (K × V)
with_end ends key None = ends
with_end ends key (Some v) = ends ++ (key, v) ∷ []

-- so far: the later ends of what the walk has passed, and nothing of what is left
pub record IsWalked {K V : Type 0} (order : K → K → Ordering) (next : K → V → Option V)
    (rows left ends : List (K × V)) : Type 0 where
  pub sorted : IsSortedMap order left
  pub passed : (key : K) → value_at order left key ≡ None
      → IsLaterEndOf (next key) (value_at order rows key) (value_at order ends key)
  pub ahead : (key : K) (v : V) → value_at order left key ≡ Some v
      → (value_at order rows key ≡ Some v) × (value_at order ends key ≡ None)
  pub any : (has_row ends || is_any_followed next left) ≡ is_any_followed next rows

-- the run at a key is refused: its first value that comes again is named
abbrev pub IsRunRefusal : {K V : Type 0} → (V → Option V) → K → V → Refusal K V → Type 0
IsRunRefusal next key start walk.Memory = Unit {0}
IsRunRefusal next key start (walk.Repeats k v) = (k ≡ key) × IsRepeat next start v

-- the walk is refused at the first key whose run has no end
abbrev pub IsWalkRefusal : {K V : Type 0} → (K → K → Ordering) → (K → V → Option V)
    → List (K × V) → Refusal K V → Type 0
IsWalkRefusal order next rows walk.Memory = Unit {0}
IsWalkRefusal order next rows (walk.Repeats key v) = IsFirstRepeat order next rows key v

-- each key of the ends is one of the rows
abbrev pub AreThere : {K V : Type 0} → (K → K → Ordering) → (ends rows : List (K × V)) → Type 0
AreThere {K} order ends rows =
    (key : K) → IsSome (value_at order ends key) → IsSome (value_at order rows key)

-- the ends are at their keys, and all else is as it was
abbrev pub ArePut : {K V : Type 0} → (K → K → Ordering) → (ends old new : List (K × V)) → Type 0
ArePut {K} order ends old new =
    (key : K) → value_at order new key ≡ option_or (value_at order ends key) (value_at order old key)

-- a refusal by rules, as one of the whole
abbrev pub of_rules : CanonicalizeError → WholeError
of_rules rules.Memory = Memory
of_rules (rules.NoFixedPoint z) = NoFixedPoint z
of_rules (rules.NoSubdivisionFixedPoint v) = NoSubdivisionFixedPoint v

-- a refusal of the run of the transform language, if there is one, names the first that comes again
abbrev pub IsTransformRefusal : WholeRules → Option LanguageIdentifier → WholeError → Type 0
IsTransformRefusal by lang Memory = Unit {0}
IsTransformRefusal by lang (NoFixedPoint z) =
    IsSomeAnd lang (λ l. IsRepeat (next by.likely by.rules) l z)
IsTransformRefusal by lang e = ⊥

-- a refusal by the rules of all but the transform language
abbrev pub IsRestRefusal : WholeRules → Locale → WholeError → Type 0
IsRestRefusal by old Memory = Unit {0}
IsRestRefusal by old (NoFixedPoint z) = ComesAgainFirst by.likely by.rules (without_language old) z
IsRestRefusal by old (NoSubdivisionFixedPoint v) =
    ValueComesAgainFirst by.likely by.rules (without_language old) v
IsRestRefusal by old e = ⊥

-- so far: with what is left of the ends, the map is as it will be; and so is the answer
pub record IsPutting {K V : Type 0} (order : K → K → Ordering) (ends old left now : List (K × V))
    (answer told : TransformResult) : Type 0 where
  pub there : AreThere order left now
  pub same : (key : K) → option_or (value_at order left key) (value_at order now key)
      ≡ option_or (value_at order ends key) (value_at order old key)
  pub answered : (if has_row left then Modified else told)
      ≡ (if has_row ends then Modified else answer)
