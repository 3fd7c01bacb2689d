-- Why a locale is not canonicalized.
use Rattle.std.specs.Prelude.{◌⊎◌, ℕ, List, codes, Option, Result, Ok, Err, IfSome, IsSomeAnd}
use Rattle.icu_locale_core.specs.Keywords.{KeywordRows}
use Rattle.icu_locale_core.specs.Maps.{value_at}
use Rattle.icu_locale_core.specs.TextSet.{text_cmp}
use Rattle.icu_locale_core.specs.declared.langid.LanguageIdentifier.{LanguageIdentifier}
use Rattle.icu_locale_core.specs.declared.locale.Locale.{Locale}
use Rattle.icu_locale.specs.Canonical.{rg, sd, next_value}
use Rattle.icu_locale.specs.Kinds.{next, by_language_alias}
use Rattle.icu_locale.specs.LikelySubtags.{LikelySubtags}
use Rattle.icu_locale_runs.specs.Run.{EndsAt, EndsIfAny, IsRepeat}
use Rattle.icu_locale.specs.declared.canonicalizer.rules.Rules.{Rules}
use Rattle.icu_locale.specs.declared.canonicalizer.CanonicalizeError.{CanonicalizeError}
use Rattle.icu_locale.specs.declared.canonicalizer.CanonicalizeError.TheVariants.{Memory, NoFixedPoint, NoSubdivisionFixedPoint}

-- the runs of the identifier and of the transform language, if any, end
pub record IdentifiersEnd (likely : LikelySubtags) (rules : Rules) (old : Locale) : Type 0 where
  pub id : (y : LanguageIdentifier) × EndsAt (next likely rules) old.id y
  pub transform : EndsIfAny (by_language_alias rules) old.extensions.transform.lang

-- the runs of the values at `rg` and `sd`, if any, end
pub record ValuesEnd (rules : Rules) (keywords : KeywordRows) : Type 0 where
  pub region_override : EndsIfAny (next_value rules) (value_at text_cmp keywords rg)
  pub subdivision : EndsIfAny (next_value rules) (value_at text_cmp keywords sd)

-- the rules come to an end: all of these runs end
pub record RulesEnd (likely : LikelySubtags) (rules : Rules) (old : Locale) : Type 0 where
  pub identifiers : IdentifiersEnd likely rules old
  pub values : ValuesEnd rules old.extensions.unicode.keywords

-- each of these runs ends where it begins
pub record EndsInPlace (likely : LikelySubtags) (rules : Rules) (old : Locale) : Type 0 where
  pub id : EndsAt (next likely rules) old.id old.id
  pub transform : IfSome old.extensions.transform.lang
      (λ l. EndsAt (by_language_alias rules) l l)
  pub region_override : IfSome (value_at text_cmp old.extensions.unicode.keywords rg)
      (λ v. EndsAt (next_value rules) v v)
  pub subdivision : IfSome (value_at text_cmp old.extensions.unicode.keywords sd)
      (λ v. EndsAt (next_value rules) v v)

-- a refusal of the run of an identifier other than want of memory names the first that comes again
abbrev pub IsRunRefusal : (LanguageIdentifier → Option LanguageIdentifier) → LanguageIdentifier
    → CanonicalizeError → Type 0
IsRunRefusal next x Memory = Unit {0}
IsRunRefusal next x (NoFixedPoint z) = IsRepeat next x z
IsRunRefusal next x (NoSubdivisionFixedPoint v) = ⊥

-- z is the first identifier to come again in the run of the identifier, or, where that ends, in that of the transform language
abbrev pub ComesAgainFirst : LikelySubtags → Rules → Locale → LanguageIdentifier → Type 0
ComesAgainFirst likely rules old z =
    IsRepeat (next likely rules) old.id z
    ⊎ (((y : LanguageIdentifier) × EndsAt (next likely rules) old.id y)
    × IsSomeAnd old.extensions.transform.lang (λ l. IsRepeat (by_language_alias rules) l z))

-- v is the first value to come again in the run of the value at `rg`, or, where that ends, in that of the value at `sd`
abbrev pub ValueRepeats : Rules → KeywordRows → List (List ℕ) → Type 0
ValueRepeats rules keywords v =
    IsSomeAnd (value_at text_cmp keywords rg) (λ s. IsRepeat (next_value rules) s v)
    ⊎ (EndsIfAny (next_value rules) (value_at text_cmp keywords rg)
    × IsSomeAnd (value_at text_cmp keywords sd) (λ s. IsRepeat (next_value rules) s v))

-- the same where the runs of identifiers end, which are asked first
abbrev pub ValueComesAgainFirst : LikelySubtags → Rules → Locale → List (List ℕ) → Type 0
ValueComesAgainFirst likely rules old v =
    IdentifiersEnd likely rules old × ValueRepeats rules old.extensions.unicode.keywords v

-- a refusal other than want of memory names the identifier or the value that comes again first
abbrev pub IsRefusal : LikelySubtags → Rules → Locale → CanonicalizeError → Type 0
IsRefusal likely rules old Memory = Unit {0}
IsRefusal likely rules old (NoFixedPoint z) = ComesAgainFirst likely rules old z
IsRefusal likely rules old (NoSubdivisionFixedPoint v) = ValueComesAgainFirst likely rules old v

-- the refusal is want of memory
abbrev pub IsMemory : CanonicalizeError → Type 0
IsMemory Memory = Unit {0}
IsMemory e = ⊥

-- memory was asked for and refused
abbrev pub IsOutOfMemory : {T : Type 0} → Result T CanonicalizeError → Type 0
IsOutOfMemory (Ok x) = ⊥
IsOutOfMemory (Err e) = IsMemory e

-- what Display writes of a refusal
abbrev pub canonicalize_error_name : CanonicalizeError → List ℕ
canonicalize_error_name Memory = codes "Memory"
canonicalize_error_name (NoFixedPoint z) = codes "NoFixedPoint"
canonicalize_error_name (NoSubdivisionFixedPoint v) = codes "NoSubdivisionFixedPoint"
