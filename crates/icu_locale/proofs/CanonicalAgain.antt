-- A canonical locale is kept, and a locale that changes is one to which something is applied.
use Rattle.std.proofs.Common.{ℕ, List, ◌≡◌, ◌≢◌, ◌↔◌, IsSome, Bool, true, false, [], Option, Some, None, is_some, option_and_then, IfSome, ◌⊎◌}
use Rattle.std.proofs.Common.{inl, inr, refl, ap, sym, ◌∙◌, subst}
use Rattle.std.proofs.lemmas.Bool.{false≢true, cases_Bool, or_parts, or_from}
use Rattle.icu_locale_core.specs.TextSet.{text_cmp, empty}
use Rattle.icu_locale_core.specs.Keywords.{KeywordRows}
use Rattle.icu_locale_core.specs.declared.langid.LanguageIdentifier.{LanguageIdentifier}
use Rattle.icu_locale_core.specs.declared.locale.Locale.{Locale}
use Rattle.icu_locale_core.specs.Maps.{value_at}
use Rattle.icu_locale.specs.LikelySubtags.{LikelySubtags}
use Rattle.icu_locale.specs.Kinds.{next, by_language_alias}
use Rattle.icu_locale.specs.Canonical.{rg, sd, next_value, subdivision_alias, put_optional, AreCanonicalKeywords, IsCanonical, answer_of, is_applied}
use Rattle.icu_locale.specs.Cost.{NeedsNoMemory, HasNothingToCopy}
use Rattle.icu_locale.specs.Refusals.{ComesAgainFirst, RulesEnd, EndsInPlace, IsMemory, IsRefusal, ValueComesAgainFirst}
use Rattle.icu_locale_runs.specs.Run.{BecomesEnd, IsLaterEndOf}
use Rattle.icu_locale.specs.declared.canonicalizer.CanonicalizeError.{CanonicalizeError}
use Rattle.icu_locale.specs.declared.expander.TransformResult.TheVariants.{Unmodified}
use Rattle.icu_locale.specs.declared.canonicalizer.rules.Rules.{Rules}
use Rattle.icu_locale.proofs.Canonicals.{memory_from_end, none_first}
use Rattle.icu_locale.proofs.Values.{canonical_at_rg, canonical_at_sd}
use Rattle.icu_locale_runs.specs.laws.Runs.{end_is_unique}
use Rattle.icu_locale_runs.specs.laws.LaterEnds.{none_stands_behind, none_behind_any, alone, stands_alone, in_place, kept, no_later_end, later_end_none}
use Rattle.icu_locale_runs.specs.laws.LaterEnds.{same_where_none, none_behind, EndsIfAny-later_end, EndsIfAny-becomes}

no_option : {X : Type 0} (o : Option X) → is_some o ≡ false → o ≡ None
no_option None e = refl
no_option (Some z) e = absurd (false≢true (sym e))

module _ (likely : LikelySubtags) (rules : Rules) (old new : Locale) (canonical : IsCanonical likely rules old new) where
  abbrev old_keywords : KeywordRows
  old_keywords = old.extensions.unicode.keywords

  abbrev new_keywords : KeywordRows
  new_keywords = new.extensions.unicode.keywords

  new_transform : option_and_then (by_language_alias rules) new.extensions.transform.lang ≡ None
  new_transform = none_behind (by_language_alias rules) old.extensions.transform.lang new.extensions.transform.lang canonical.transform

  new_rg : subdivision_alias rules new_keywords rg ≡ None
  new_rg = none_behind (next_value rules) (value_at text_cmp old_keywords rg) (value_at text_cmp new_keywords rg)
      (canonical_at_rg rules old_keywords new_keywords canonical.keywords)

  new_sd : subdivision_alias rules new_keywords sd ≡ None
  new_sd = none_behind (next_value rules) (value_at text_cmp old_keywords sd) (value_at text_cmp new_keywords sd)
      (canonical_at_sd rules old_keywords new_keywords canonical.keywords)

  pub canonical_itself : IsCanonical likely rules new new
  canonical_itself = record {
    id = alone (next likely rules) new.id canonical.id.last;
    transform = kept (by_language_alias rules) new.extensions.transform.lang new_transform;
    keywords = record {
      region_override = None;
      subdivision = None;
      region_override_end = no_later_end (next_value rules) (value_at text_cmp new_keywords rg) new_rg;
      subdivision_end = no_later_end (next_value rules) (value_at text_cmp new_keywords sd) new_sd;
      whole = refl;
    };
  }

  pub canonical_unapplied : is_applied likely rules new ≡ false
  canonical_unapplied =
      or_from (is_some (next likely rules new.id)) _ (ap is_some canonical.id.last)
      (or_from (is_some (option_and_then (by_language_alias rules) new.extensions.transform.lang)) _ (ap is_some new_transform)
      (or_from (is_some (subdivision_alias rules new_keywords rg)) (is_some (subdivision_alias rules new_keywords sd))
      (ap is_some new_rg) (ap is_some new_sd)))

  pub canonical_in_place : EndsInPlace likely rules new
  canonical_in_place = record {
    id = alone (next likely rules) new.id canonical.id.last;
    transform = in_place (by_language_alias rules) new.extensions.transform.lang new_transform;
    region_override = in_place (next_value rules) (value_at text_cmp new_keywords rg) new_rg;
    subdivision = in_place (next_value rules) (value_at text_cmp new_keywords sd) new_sd;
  }

  pub canonical_free : NeedsNoMemory likely rules new
  canonical_free = record {
    id = none_stands_behind (next likely rules) (λ z. z.variants ≡ empty) new.id canonical.id.last;
    transform = none_behind_any (by_language_alias rules) (λ z. z.variants ≡ empty) new.extensions.transform.lang new_transform;
    region_override = none_behind_any (next_value rules) (λ w. w ≡ []) (value_at text_cmp new_keywords rg) new_rg;
    subdivision = none_behind_any (next_value rules) (λ w. w ≡ []) (value_at text_cmp new_keywords sd) new_sd;
  }

  pub canonical_copies : HasNothingToCopy likely rules new
  canonical_copies = record {
    id = inl canonical.id.last;
    transform = by new.extensions.transform.lang new_transform;
    region_override = new_rg;
    subdivision = new_sd;
  }
    where
      by : (o : Option LanguageIdentifier) → option_and_then (by_language_alias rules) o ≡ None
          → IfSome o (λ l. (by_language_alias rules l ≡ None) ⊎ (l.variants ≡ empty))
      by None h = tt
      by (Some l) h = inl h

-- the rules end on a locale that has a canonical form
pub rules_end : (likely : LikelySubtags) (rules : Rules) (old new : Locale) → IsCanonical likely rules old new → RulesEnd likely rules old
rules_end likely rules old new canonical = record {
  identifiers = record {
    id = (new.id, canonical.id);
    transform = EndsIfAny-becomes (by_language_alias rules) old.extensions.transform.lang new.extensions.transform.lang canonical.transform;
  };
  values = record {
    region_override = EndsIfAny-later_end (next_value rules) (value_at text_cmp old.extensions.unicode.keywords rg)
        canonical.keywords.region_override canonical.keywords.region_override_end;
    subdivision = EndsIfAny-later_end (next_value rules) (value_at text_cmp old.extensions.unicode.keywords sd)
        canonical.keywords.subdivision canonical.keywords.subdivision_end;
  };
}

-- where nothing follows the values at `rg` and `sd` the keywords stay
keywords_same : (rules : Rules) (old new : KeywordRows) → subdivision_alias rules old rg ≡ None → subdivision_alias rules old sd ≡ None
    → AreCanonicalKeywords rules old new → old ≡ new
keywords_same rules old new no_rg no_sd are =
    let region_override = later_end_none (next_value rules) (value_at text_cmp old rg) are.region_override no_rg are.region_override_end in
    let subdivision = later_end_none (next_value rules) (value_at text_cmp old sd) are.subdivision no_sd are.subdivision_end in
    (λ i. put_optional (put_optional old rg (sym region_override i)) sd (sym subdivision i)) ∙ sym are.whole

-- nothing is applied to a locale that is its canonical form, and only to that
unapplied_same : (likely : LikelySubtags) (rules : Rules) (old new : Locale) → is_applied likely rules old ≡ false
    → IsCanonical likely rules old new → old ≡ new
unapplied_same likely rules old new off canonical =
    let first = or_parts (is_some (next likely rules old.id)) _ off in
    let second = or_parts (is_some (option_and_then (by_language_alias rules) old.extensions.transform.lang)) _ first.1 in
    let third = or_parts (is_some (subdivision_alias rules old.extensions.unicode.keywords rg)) _ second.1 in
    let no_id = no_option (next likely rules old.id) first.0 in
    let no_lang = no_option (option_and_then (by_language_alias rules) old.extensions.transform.lang) second.0 in
    let no_rg = no_option (subdivision_alias rules old.extensions.unicode.keywords rg) third.0 in
    let no_sd = no_option (subdivision_alias rules old.extensions.unicode.keywords sd) third.1 in
    let id : old.id ≡ new.id = sym (stands_alone (next likely rules) old.id new.id no_id canonical.id.stands) in
    let lang : old.extensions.transform.lang ≡ new.extensions.transform.lang = sym
    (same_where_none (by_language_alias rules) old.extensions.transform.lang new.extensions.transform.lang no_lang canonical.transform) in
    let keywords = keywords_same rules old.extensions.unicode.keywords new.extensions.unicode.keywords no_rg no_sd canonical.keywords in
    λ i. record { id = id i; extensions = record { unicode = record { keywords = keywords i }; transform = record { lang = lang i } } }

pub applied_exactly : (likely : LikelySubtags) (rules : Rules) (old new : Locale) → IsCanonical likely rules old new
    → (is_applied likely rules old ≡ true → old ≢ new) × (old ≢ new → is_applied likely rules old ≡ true)
applied_exactly likely rules old new canonical = (
  λ applied same. false≢true (sym (subst (λ l. is_applied likely rules l ≡ false) (sym same) (canonical_unapplied likely rules old new canonical)) ∙ applied),
  λ differ. elim (cases_Bool (is_applied likely rules old)) [
    | inl applied ↦ applied
    | inr off ↦ absurd (differ (unapplied_same likely rules old new off canonical))
  ],
)

by_answer : (applied : Bool) (P : Type 0) → (applied ≡ false → P) → (P → applied ≡ false) → (answer_of applied ≡ Unmodified) ↔ P
by_answer true P same off = (λ is. absurd (cc), λ p. absurd (false≢true (sym (off p))))
by_answer false P same off = (λ is. same refl, λ p. refl)

-- `Unmodified` is answered exactly where the canonical form is the locale itself
pub unmodified_exactly : (likely : LikelySubtags) (rules : Rules) (old new : Locale) → IsCanonical likely rules old new
    → (answer_of (is_applied likely rules old) ≡ Unmodified) ↔ (new ≡ old)
unmodified_exactly likely rules old new canonical =
    by_answer (is_applied likely rules old) (new ≡ old)
    (λ off. sym (unapplied_same likely rules old new off canonical))
    (λ same. subst (λ l. is_applied likely rules l ≡ false) same (canonical_unapplied likely rules old new canonical))

-- ---- one canonical form

module _ {X : Type 0} (next : X → Option X) where
  one_becomes : (old new other : Option X) → BecomesEnd next old new → BecomesEnd next old other → new ≡ other
  one_becomes None new other is other_is = is ∙ sym other_is
  one_becomes (Some start) None other is other_is = absurd is
  one_becomes (Some start) (Some y) None is other_is = absurd other_is
  one_becomes (Some start) (Some y) (Some z) is other_is = ap (λ x. Some x) (end_is_unique next start y z is other_is)

  one_later : (old : Option X) (y z : Option X) → IsLaterEndOf next old y → IsLaterEndOf next old z → y ≡ z
  one_later None y z is other_is = is ∙ sym other_is
  one_later (Some start) None None is other_is = refl
  one_later (Some start) None (Some z) is other_is = absurd (false≢true (subst IsSome is other_is.0))
  one_later (Some start) (Some y) None is other_is = absurd (false≢true (subst IsSome other_is is.0))
  one_later (Some start) (Some y) (Some z) is other_is = ap (λ x. Some x) (end_is_unique next start y z is.1 other_is.1)

-- a locale has one canonical form
pub one_canonical_form : (likely : LikelySubtags) (rules : Rules) (old new other : Locale) → IsCanonical likely rules old new
    → IsCanonical likely rules old other → new ≡ other
one_canonical_form likely rules old new other is other_is =
    let id = end_is_unique (next likely rules) old.id new.id other.id is.id other_is.id in
    let lang = one_becomes (by_language_alias rules) old.extensions.transform.lang new.extensions.transform.lang
    other.extensions.transform.lang is.transform other_is.transform in
    let held = old.extensions.unicode.keywords in
    let region_override = one_later (next_value rules) (value_at text_cmp held rg) is.keywords.region_override
    other_is.keywords.region_override is.keywords.region_override_end other_is.keywords.region_override_end in
    let subdivision = one_later (next_value rules) (value_at text_cmp held sd) is.keywords.subdivision other_is.keywords.subdivision
    is.keywords.subdivision_end other_is.keywords.subdivision_end in
    let keywords = is.keywords.whole ∙ (λ i. put_optional (put_optional held rg (region_override i)) sd (subdivision i)) ∙ sym other_is.keywords.whole in
    λ i. record { id = id i; extensions = record { unicode = record { keywords = keywords i }; transform = record { lang = lang i } } }

-- the rules end on it, so only memory is refused
pub memory_alone : (likely : LikelySubtags) (rules : Rules) (old new : Locale) (e : CanonicalizeError) → IsCanonical likely rules old new
    → IsRefusal likely rules old e → IsMemory e
memory_alone likely rules old new e canonical refusal = memory_from_end likely rules old e refusal (rules_end likely rules old new canonical)

-- a value is asked for where the runs of identifiers end
pub not_both_refused : (likely : LikelySubtags) (rules : Rules) (old : Locale) (z : LanguageIdentifier) (v : List (List ℕ))
    → ComesAgainFirst likely rules old z → ValueComesAgainFirst likely rules old v → ⊥
not_both_refused likely rules old z v first value = none_first likely rules old value.0 z first
