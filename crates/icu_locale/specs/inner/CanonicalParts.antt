-- What a turn and the parts of a canonicalization find: what only private functions cite.
use Rattle.std.specs.Prelude.{unwrap_or, ◌≡◌, ℕ, List, Bool, ◌||◌, Option, is_some, IsSomeAnd, MatchOption, Result}
use Rattle.std.specs.Option.{option_or}
use Rattle.icu_locale_core.specs.TextSet.{image, text_cmp}
use Rattle.icu_locale_core.specs.declared.langid.LanguageIdentifier.{LanguageIdentifier}
use Rattle.icu_locale.specs.Rules.{replaced}
use Rattle.icu_locale.specs.Kinds.{variant_alias, next, by_language_alias}
use Rattle.icu_locale.specs.declared.canonicalizer.rules.Rules.{Rules}
use Rattle.icu_locale.specs.declared.canonicalizer.kinds.Rewrite.{Rewrite}
use Rattle.icu_locale.specs.declared.canonicalizer.kinds.Rewrite.TheVariants.{Rule, Subtags, Variants}
use Rattle.icu_locale_core.specs.Keywords.{KeywordRows}
use Rattle.icu_locale_core.specs.Maps.{value_at}
use Rattle.icu_locale_core.specs.declared.locale.Locale.{Locale}
use Rattle.icu_locale.specs.LikelySubtags.{LikelySubtags}
use Rattle.icu_locale_runs.specs.Run.{IsLaterEnd, IsLaterEndOf, IsRepeat, HasDistinct}
use Rattle.icu_locale.specs.Cost.{CountsSearches}
use Rattle.icu_locale.specs.Canonical.{rg, sd, put_optional, next_value}
use Rattle.icu_locale.specs.Refusals.{ComesAgainFirst, ValueRepeats}
use Rattle.icu_locale.specs.declared.canonicalizer.changes.Changes.{Changes}
use Rattle.icu_locale.specs.declared.canonicalizer.CanonicalizeError.{CanonicalizeError}
use Rattle.icu_locale.specs.declared.canonicalizer.CanonicalizeError.TheVariants.{Memory, NoFixedPoint, NoSubdivisionFixedPoint}

-- the identifier that a rewrite makes of x
abbrev pub rewritten : Rules → LanguageIdentifier → Rewrite → LanguageIdentifier
rewritten rules x (Rule r) = replaced x r.now.source r.now.replacement
rewritten rules x (Subtags l s r) =
    record { language = l; script = s; region = r; variants = x.variants }
rewritten rules x Variants =
    record x { variants = image (λ v. unwrap_or (variant_alias rules v) v) x.variants }

-- the turns along a run that there may be
abbrev pub CountsSearchesOf : {T : Type 0} → (LanguageIdentifier → Option LanguageIdentifier)
    → Option LanguageIdentifier → Result T CanonicalizeError → ℕ → ℕ → Type 0
CountsSearchesOf next start result before after =
    (n : ℕ) × MatchOption start (n ≡ 0) (λ x. HasDistinct next x n)
    × CountsSearches result before after n

-- a refusal of a run that there may be names its first repeat
abbrev pub IsRunRefusalOf : (LanguageIdentifier → Option LanguageIdentifier)
    → Option LanguageIdentifier → CanonicalizeError → Type 0
IsRunRefusalOf next start Memory = Unit {0}
IsRunRefusalOf next start (NoFixedPoint z) = IsSomeAnd start (λ x. IsRepeat next x z)
IsRunRefusalOf next start (NoSubdivisionFixedPoint v) = ⊥

-- a refusal of the runs of identifiers names the one that comes again first
abbrev pub IsIdentifierRefusal : LikelySubtags → Rules → Locale → CanonicalizeError → Type 0
IsIdentifierRefusal likely rules old Memory = Unit {0}
IsIdentifierRefusal likely rules old (NoFixedPoint z) = ComesAgainFirst likely rules old z
IsIdentifierRefusal likely rules old (NoSubdivisionFixedPoint v) = ⊥

-- a refusal of the run of a value that there may be names its first repeat
abbrev pub IsValueRefusal : Rules → Option (List (List ℕ)) → CanonicalizeError → Type 0
IsValueRefusal rules value Memory = Unit {0}
IsValueRefusal rules value (NoFixedPoint z) = ⊥
IsValueRefusal rules value (NoSubdivisionFixedPoint v) =
    IsSomeAnd value (λ s. IsRepeat (next_value rules) s v)

-- a refusal of the runs of the values at `rg` and `sd` names the one that comes again first
abbrev pub IsValuesRefusal : Rules → KeywordRows → CanonicalizeError → Type 0
IsValuesRefusal rules keywords Memory = Unit {0}
IsValuesRefusal rules keywords (NoFixedPoint z) = ⊥
IsValuesRefusal rules keywords (NoSubdivisionFixedPoint v) = ValueRepeats rules keywords v

-- the ends of the runs of identifiers
pub record AreLaterEnds (likely : LikelySubtags) (rules : Rules) (old : Locale)
    (ends : Option LanguageIdentifier × Option LanguageIdentifier) : Type 0 where
  pub id : IsLaterEnd (next likely rules) old.id ends.0
  pub transform : IsLaterEndOf (by_language_alias rules) old.extensions.transform.lang ends.1

-- the ends of the runs of the values at `rg` and `sd`
pub record AreLaterValues (rules : Rules) (keywords : KeywordRows)
    (ends : Option (List (List ℕ)) × Option (List (List ℕ))) : Type 0 where
  pub region_override : IsLaterEndOf (next_value rules) (value_at text_cmp keywords rg) ends.0
  pub subdivision : IsLaterEndOf (next_value rules) (value_at text_cmp keywords sd) ends.1

-- what is to be changed of a locale: the ends of its runs
pub record AreChanges (likely : LikelySubtags) (rules : Rules) (old : Locale)
    (changes : Changes) : Type 0 where
  pub identifiers : AreLaterEnds likely rules old (changes.id, changes.transform)
  pub values : AreLaterValues rules old.extensions.unicode.keywords
      (changes.region_override, changes.subdivision)

-- the locale with the changes
abbrev pub with_changes : Changes → Locale → Locale
with_changes changes old = record {
  id = unwrap_or changes.id old.id;
  extensions = record {
    unicode = record {
      keywords =
          put_optional (put_optional old.extensions.unicode.keywords rg changes.region_override)
          sd changes.subdivision;
    };
    transform = record { lang = option_or changes.transform old.extensions.transform.lang };
  };
}

-- there is a change
abbrev pub has_change : Changes → Bool
has_change changes = is_some changes.id || (is_some changes.transform
    || (is_some changes.region_override || is_some changes.subdivision))
