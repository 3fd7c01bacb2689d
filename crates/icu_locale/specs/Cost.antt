-- How many searches a canonicalization takes, and when it takes no memory.
use Rattle.std.specs.Prelude.{◌≡◌, ◌⊎◌, ◌+◌, ◌*◌, ◌≤◌, ℕ, None, Option, List, [], Result, IfSome, MatchOption}
use Rattle.std.specs.List.{All}
use Rattle.icu_locale_core.specs.Maps.{value_at}
use Rattle.icu_locale_core.specs.TextSet.{text_cmp, empty}
use Rattle.icu_locale_core.specs.declared.langid.LanguageIdentifier.{LanguageIdentifier}
use Rattle.icu_locale_core.specs.declared.locale.Locale.{Locale}
use Rattle.icu_locale.specs.LikelySubtags.{LikelySubtags}
use Rattle.icu_locale.specs.Kinds.{next, by_language_alias}
use Rattle.icu_locale_runs.specs.Run.{EndsAt, IsRepeat, HasDistinct, AllBehind}
use Rattle.icu_locale.specs.declared.canonicalizer.rules.Rules.{Rules}
use Rattle.icu_locale.specs.declared.canonicalizer.CanonicalizeError.{CanonicalizeError}
use Rattle.icu_locale.specs.Canonical.{rg, sd, next_value, subdivision_alias}
use Rattle.icu_locale.specs.Refusals.{IsOutOfMemory}

-- the searches from before to after never fall, are at most six for each of n identifiers and, unless memory was refused,
-- at least as many as these
pub record CountsSearches {T : Type 0} (result : Result T CanonicalizeError)
    (before after n : ℕ) : Type 0 where
  pub forward : before ≤ after
  pub most : after ≤ before + 6 * n
  pub least : ¬ (IsOutOfMemory result) → before + n ≤ after

-- n is the number of different identifiers in the identifier's run and, where that ends, in the transform language's
pub record HasIdentifiers (likely : LikelySubtags) (rules : Rules) (old : Locale)
    (n : ℕ) : Type 0 where
  pub in_run : ℕ
  pub in_transform : ℕ
  pub sum : n ≡ in_run + in_transform
  pub of_run : HasDistinct (next likely rules) old.id in_run
  pub of_transform : (y : LanguageIdentifier) → EndsAt (next likely rules) old.id y
      → MatchOption old.extensions.transform.lang (in_transform ≡ 0)
      (λ l. HasDistinct (by_language_alias rules) l in_transform)
  pub of_none : (z : LanguageIdentifier) → IsRepeat (next likely rules) old.id z → in_transform ≡ 0

-- the searches from before to after are counted by the different identifiers of the runs of a locale
abbrev pub CountsRuns : {T : Type 0} → LikelySubtags → Rules → Locale
    → Result T CanonicalizeError → ℕ → ℕ → Type 0
CountsRuns likely rules old result before after =
    (n : ℕ) × HasIdentifiers likely rules old n × CountsSearches result before after n

-- the searches from before to after are at most six for each different identifier of a run, and one
abbrev pub CountsRun : (LanguageIdentifier → Option LanguageIdentifier) → LanguageIdentifier → ℕ
    → ℕ → Type 0
CountsRun next start before after =
    (n : ℕ) × HasDistinct next start n × (before ≤ after) × (after ≤ before + 6 * n + 1)

-- no identifier of the run after its start has variants
abbrev pub AddsNoVariants : (LanguageIdentifier → Option LanguageIdentifier)
    → LanguageIdentifier → Type 0
AddsNoVariants next start = AllBehind (λ z. z.variants ≡ empty) next start

-- no value of the run after its start has pieces
abbrev pub AddsNoPieces : Rules → List (List ℕ) → Type 0
AddsNoPieces rules start = AllBehind (λ w. w ≡ []) (next_value rules) start

-- the runs of a locale add neither variants nor pieces
pub record NeedsNoMemory (likely : LikelySubtags) (rules : Rules) (old : Locale) : Type 0 where
  pub id : AddsNoVariants (next likely rules) old.id
  pub transform : IfSome old.extensions.transform.lang (AddsNoVariants (by_language_alias rules))
  pub region_override : IfSome (value_at text_cmp old.extensions.unicode.keywords rg)
      (AddsNoPieces rules)
  pub subdivision : IfSome (value_at text_cmp old.extensions.unicode.keywords sd)
      (AddsNoPieces rules)

-- in each run nothing matches, or there are no variants and no rule adds any; and no subdivision is replaced
pub record HasNothingToCopy (likely : LikelySubtags) (rules : Rules) (old : Locale)
    : Type 0 where
  pub id : (next likely rules old.id ≡ None)
      ⊎ ((old.id.variants ≡ empty) × All (λ r. r.replacement.variants ≡ empty) rules.language)
  pub transform : IfSome old.extensions.transform.lang
      (λ l. (by_language_alias rules l ≡ None) ⊎ (l.variants ≡ empty))
  pub region_override : subdivision_alias rules old.extensions.unicode.keywords rg ≡ None
  pub subdivision : subdivision_alias rules old.extensions.unicode.keywords sd ≡ None
