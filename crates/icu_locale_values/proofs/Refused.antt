-- Refusals: by rules, of a locale, of the whole, and where each run ends.
use Rattle.std.proofs.Common.{inl, inr, ℕ, List, Option, Some, IsSomeAnd, ap, subst}
use Rattle.icu_locale_core.specs.Keywords.{KeywordRows}
use Rattle.icu_locale_core.specs.Maps.{value_at}
use Rattle.icu_locale_core.specs.Subtag.{rg, sd}
use Rattle.icu_locale_core.specs.TextSet.{text_cmp}
use Rattle.icu_locale_core.specs.declared.langid.LanguageIdentifier.{LanguageIdentifier}
use Rattle.icu_locale_core.specs.declared.locale.Locale.{Locale}
use Rattle.icu_locale.specs.Canonical.{next_value}
use Rattle.icu_locale.specs.Kinds.{next}
use Rattle.icu_locale.specs.Refusals.{IsRefusal, IsRunRefusal}
use Rattle.icu_locale.specs.declared.canonicalizer.CanonicalizeError.{CanonicalizeError}
use Rattle.icu_locale.specs.declared.canonicalizer.CanonicalizeError.TheVariants as rules
use Rattle.icu_locale_extensions.specs.declared.identifier.LocaleIdentifier.{LocaleIdentifier}
use Rattle.icu_locale_runs.specs.Run.{EndsIfAny, IsRepeat}
use Rattle.icu_locale_runs.specs.laws.LaterEnds.{EndsIfAny-later_end, not_both}
use Rattle.icu_locale_values.specs.Aliases.{Pieces, is_ruled, next_field, next_keyword, next_whole}
use Rattle.icu_locale_values.specs.Whole.{WholeRules, AllEnd, RunsEnd, without_language}
use Rattle.icu_locale_values.specs.Refusals.{FirstRunsEnd, IsLocaleRefusal, IsWholeRefusal, IsMemory}
use Rattle.icu_locale_values.specs.inner.Walked.{AreLaterEnds, IsRestRefusal, IsTransformRefusal, of_rules}
use Rattle.icu_locale_values.specs.declared.error.WholeError.{WholeError}
use Rattle.icu_locale_values.specs.declared.error.WholeError.TheVariants.{Memory, NoFixedPoint, NoSubdivisionFixedPoint, NoValueFixedPoint, NoFieldFixedPoint}
use Rattle.icu_locale_values.proofs.Ruled.{ruled_cases, keyword_is, whole_is, none_ruled}
use Rattle.icu_locale_values.proofs.Universes.{no_repeat_where_none}

-- where each has a later end or none, each run ends
pub AllEnd-later : (next : List ℕ → Pieces → Option Pieces) (rows ends : KeywordRows) → AreLaterEnds text_cmp next rows ends → AllEnd next rows
AllEnd-later next rows ends later key =
    EndsIfAny-later_end (next key) (value_at text_cmp rows key) (value_at text_cmp ends key) (later key)

module _ (by : WholeRules) where
  pub transform_refusal : (l : LanguageIdentifier) (e : CanonicalizeError) → IsRunRefusal (next by.likely by.rules) l e
      → IsTransformRefusal by (Some l) (of_rules e)
  transform_refusal l rules.Memory h = tt
  transform_refusal l (rules.NoFixedPoint z) h = h
  transform_refusal l (rules.NoSubdivisionFixedPoint v) h = absurd h

  pub rest_refusal : (old : Locale) (e : CanonicalizeError) → IsRefusal by.likely by.rules (without_language old) e → IsRestRefusal by old (of_rules e)
  rest_refusal old rules.Memory h = tt
  rest_refusal old (rules.NoFixedPoint z) h = h
  rest_refusal old (rules.NoSubdivisionFixedPoint v) h = h

  pub refused_by_transform : (old : Locale) → AllEnd (next_keyword by.keywords) old.extensions.unicode.keywords
      → (e : WholeError) → IsTransformRefusal by old.extensions.transform.lang e → IsLocaleRefusal by old e
  refused_by_transform old all Memory h = tt
  refused_by_transform old all (NoFixedPoint z) h = inl (all, h)
  refused_by_transform old all (NoSubdivisionFixedPoint v) h = absurd h
  refused_by_transform old all (NoValueFixedPoint key v) h = absurd h
  refused_by_transform old all (NoFieldFixedPoint key v) h = absurd h

  pub refused_by_rest : (old : Locale) → FirstRunsEnd by old → (e : WholeError) → IsRestRefusal by old e → IsLocaleRefusal by old e
  refused_by_rest old ends Memory h = tt
  refused_by_rest old ends (NoFixedPoint z) h = inr (ends, h)
  refused_by_rest old ends (NoSubdivisionFixedPoint v) h = (ends, h)
  refused_by_rest old ends (NoValueFixedPoint key v) h = absurd h
  refused_by_rest old ends (NoFieldFixedPoint key v) h = absurd h

  module _ (old : LocaleIdentifier) where
    pub refused_by_locale : AllEnd (next_field by.fields) old.fields → (e : WholeError) → IsLocaleRefusal by old.locale e → IsWholeRefusal by old e
    refused_by_locale all Memory h = tt
    refused_by_locale all (NoFixedPoint z) h = (all, h)
    refused_by_locale all (NoSubdivisionFixedPoint v) h = (all, h)
    refused_by_locale all (NoValueFixedPoint key v) h = (all, h)
    refused_by_locale all (NoFieldFixedPoint key v) h = absurd h

    -- what comes again by the table alone has no end by rules and table
    keyword_repeats : (key : List ℕ) (o : Option Pieces) (v : Pieces) → EndsIfAny (next_whole by.rules by.keywords key) o
        → IsSomeAnd o (λ start. IsRepeat (next_keyword by.keywords key) start v) → ⊥
    keyword_repeats key o v ended repeats =
        elim (ruled_cases key) [
          | inl (inl e) ↦ no_repeat_where_none (next_keyword by.keywords key) o v (none_ruled by.keywords key (ap is_ruled e) o) repeats
          | inl (inr e) ↦ no_repeat_where_none (next_keyword by.keywords key) o v (none_ruled by.keywords key (ap is_ruled e) o) repeats
          | inr (unruled, not_rg, not_sd) ↦ not_both (next_field by.keywords key) o v
              (subst (λ n. EndsIfAny n o) (whole_is by.rules by.keywords key unruled) ended)
              (subst (λ n. IsSomeAnd o (λ start. IsRepeat n start v)) (keyword_is by.rules by.keywords key unruled) repeats)
        ]

    -- where each run ends, memory alone is refused
    module _ (all : RunsEnd by old) where
      pub refused_memory : (e : WholeError) → IsWholeRefusal by old e → IsMemory e
      refused_memory Memory h = tt
      refused_memory (NoFixedPoint z) (others, inl (ended, repeats)) =
          not_both (next by.likely by.rules) old.locale.extensions.transform.lang z all.transform repeats
      refused_memory (NoFixedPoint z) (others, inr (ended, inl repeats)) =
          not_both (next by.likely by.rules) (Some old.locale.id) z all.id repeats
      refused_memory (NoFixedPoint z) (others, inr (ended, inr (end, repeats))) = absurd repeats
      refused_memory (NoSubdivisionFixedPoint v) (others, (ended, (identifiers, inl repeats))) =
          not_both (next_value by.rules) (value_at text_cmp old.locale.extensions.unicode.keywords rg) v (all.keywords rg) repeats
      refused_memory (NoSubdivisionFixedPoint v) (others, (ended, (identifiers, inr (first, repeats)))) =
          not_both (next_value by.rules) (value_at text_cmp old.locale.extensions.unicode.keywords sd) v (all.keywords sd) repeats
      refused_memory (NoValueFixedPoint key v) (others, first) =
          keyword_repeats key (value_at text_cmp old.locale.extensions.unicode.keywords key) v (all.keywords key) first.repeats
      refused_memory (NoFieldFixedPoint key v) first = not_both (next_field by.fields key) (value_at text_cmp old.fields key) v (all.fields key) first.repeats
