-- Why a locale identifier is not brought to its whole canonical form (UTS #35 Part 1, Annex C).
use Rattle.std.specs.Prelude.{◌≡◌, ◌⊎◌, ℕ, List, codes, Option, IsSomeAnd, Result, Ok, Err}
use Rattle.std.specs.declared.cmp.Ordering.{Ordering}
use Rattle.std.specs.declared.cmp.Ordering.TheVariants.{Less}
use Rattle.icu_locale_core.specs.Maps.{value_at}
use Rattle.icu_locale_core.specs.TextSet.{text_cmp}
use Rattle.icu_locale_core.specs.declared.locale.Locale.{Locale}
use Rattle.icu_locale.specs.Kinds.{next}
use Rattle.icu_locale.specs.Refusals.{ComesAgainFirst, ValueComesAgainFirst}
use Rattle.icu_locale_extensions.specs.declared.identifier.LocaleIdentifier.{LocaleIdentifier}
use Rattle.icu_locale_runs.specs.Run.{EndsIfAny, IsRepeat}
use Rattle.icu_locale_values.specs.Aliases.{next_field, next_keyword}
use Rattle.icu_locale_values.specs.Whole.{WholeRules, AllEnd, without_language}
use Rattle.icu_locale_values.specs.declared.error.WholeError.{WholeError}
use Rattle.icu_locale_values.specs.declared.error.WholeError.TheVariants.{
  Memory,
  NoFixedPoint,
  NoSubdivisionFixedPoint,
  NoValueFixedPoint,
  NoFieldFixedPoint,
}

-- at the key, v is the first value that comes again; the run of each value at a lesser key ends
pub record IsFirstRepeat {K V : Type 0} (order : K → K → Ordering) (next : K → V → Option V)
    (rows : List (K × V)) (key : K) (v : V) : Type 0 where
  pub repeats : IsSomeAnd (value_at order rows key) (λ start. IsRepeat (next key) start v)
  pub before : (other : K) → order other key ≡ Less
      → EndsIfAny (next other) (value_at order rows other)

-- the runs of the keywords' values and of the transform language end, which are asked first
pub record FirstRunsEnd (by : WholeRules) (old : Locale) : Type 0 where
  pub keywords : AllEnd (next_keyword by.keywords) old.extensions.unicode.keywords
  pub transform : EndsIfAny (next by.likely by.rules) old.extensions.transform.lang

-- a refusal of a locale names the first value of a keyword that comes again, by rising key, or where there is none the
-- first identifier of the transform language's run that does, or where that ends what the rules refuse of all else
abbrev pub IsLocaleRefusal : WholeRules → Locale → WholeError → Type 0
IsLocaleRefusal by old Memory = Unit {0}
IsLocaleRefusal by old (NoFixedPoint z) =
    (AllEnd (next_keyword by.keywords) old.extensions.unicode.keywords
    × IsSomeAnd old.extensions.transform.lang (λ l. IsRepeat (next by.likely by.rules) l z))
    ⊎ (FirstRunsEnd by old × ComesAgainFirst by.likely by.rules (without_language old) z)
IsLocaleRefusal by old (NoSubdivisionFixedPoint v) =
    FirstRunsEnd by old × ValueComesAgainFirst by.likely by.rules (without_language old) v
IsLocaleRefusal by old (NoValueFixedPoint key v) =
    IsFirstRepeat text_cmp (next_keyword by.keywords) old.extensions.unicode.keywords key v
IsLocaleRefusal by old (NoFieldFixedPoint key v) = ⊥

-- a refusal of a locale identifier names the first value of a field that comes again, by rising key, or where there is
-- none what is refused of the locale
abbrev pub IsWholeRefusal : WholeRules → LocaleIdentifier → WholeError → Type 0
IsWholeRefusal by old Memory = Unit {0}
IsWholeRefusal by old (NoFieldFixedPoint key v) =
    IsFirstRepeat text_cmp (next_field by.fields) old.fields key v
IsWholeRefusal by old e = AllEnd (next_field by.fields) old.fields × IsLocaleRefusal by old.locale e

-- the refusal is want of memory
abbrev pub IsMemory : WholeError → Type 0
IsMemory Memory = Unit {0}
IsMemory e = ⊥

-- memory was asked for and refused
abbrev pub IsOutOfMemory : {T : Type 0} → Result T WholeError → Type 0
IsOutOfMemory (Ok x) = ⊥
IsOutOfMemory (Err e) = IsMemory e

-- what Display writes of a refusal
abbrev pub whole_error_name : WholeError → List ℕ
whole_error_name Memory = codes "Memory"
whole_error_name (NoFixedPoint z) = codes "NoFixedPoint"
whole_error_name (NoSubdivisionFixedPoint v) = codes "NoSubdivisionFixedPoint"
whole_error_name (NoValueFixedPoint key v) = codes "NoValueFixedPoint"
whole_error_name (NoFieldFixedPoint key v) = codes "NoFieldFixedPoint"
