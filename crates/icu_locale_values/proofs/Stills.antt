-- Locale identifiers on which nothing is applied, and what follows from the definitions alone.
use Rattle.std.proofs.Common.{◌≡◌, ◌≢◌, ◌||◌, inl, inr, ℕ, Bool, true, false, List, [], Option, Some, None, is_some, option_and_then, refl, sym, ap, ◌∙◌, subst}
use Rattle.std.proofs.lemmas.Bool.{false≢true, cases_Bool}
use Rattle.icu_locale_core.specs.Keywords.{KeywordRows}
use Rattle.icu_locale_core.specs.Maps.{value_at, IsSortedMap}
use Rattle.icu_locale_core.specs.Subtag.{rg, sd}
use Rattle.icu_locale_core.specs.TextSet.{text_cmp, empty}
use Rattle.icu_locale_core.specs.laws.Maps.{same_sorted_map}
use Rattle.icu_locale_core.specs.laws.TextSets.{text_total, text_same}
use Rattle.icu_locale.specs.Canonical.{next_value, is_applied, subdivision_alias}
use Rattle.icu_locale.specs.Kinds.{next}
use Rattle.icu_locale_extensions.specs.Locales.{IsLocaleIdentifier}
use Rattle.icu_locale_extensions.specs.declared.identifier.LocaleIdentifier.{LocaleIdentifier}
use Rattle.icu_locale_runs.specs.Run.{BecomesEnd}
use Rattle.icu_locale_runs.specs.laws.LaterEnds.{alone, kept, none_behind, none_stands_behind, none_behind_any, EndsIfAny-becomes}
use Rattle.icu_locale_runs.specs.laws.Runs.{end_is_unique}
use Rattle.icu_locale_values.specs.Aliases.{is_ruled, next_field, next_keyword, next_whole}
use Rattle.icu_locale_values.specs.Whole.{AreMaps, WholeRules, IsWhole, is_any_followed, is_locale_applied, is_whole_applied, without_language, HasNoAlias, NeedsNoMemory, RunsEnd}
use Rattle.icu_locale_values.specs.inner.Still.{IsStill}
use Rattle.icu_locale_values.proofs.Followed.{none_followed, followed_none}
use Rattle.icu_locale_values.proofs.Ruled.{ruled_cases, keyword_is, whole_is, none_ruled}
use Rattle.icu_locale_values.proofs.Walks.{first_false, second_false, none_is}

or_off : (a b : Bool) → a ≡ false → b ≡ false → (a || b) ≡ false
or_off a b off none = ap (λ c. c || b) off ∙ none

-- there is one end
one_end : {X : Type 0} (n : X → Option X) (o a b : Option X) → BecomesEnd n o a → BecomesEnd n o b → a ≡ b
one_end n None a b p q = p ∙ sym q
one_end n (Some x) None b p q = absurd p
one_end n (Some x) (Some y) None p q = absurd q
one_end n (Some x) (Some y) (Some z) p q = ap Some (end_is_unique n x y z p q)

same_rows : (rows others : KeywordRows) → IsSortedMap text_cmp rows → IsSortedMap text_cmp others
    → ((key : List ℕ) → value_at text_cmp rows key ≡ value_at text_cmp others key) → rows ≡ others
same_rows rows others sorted others_sorted = same_sorted_map text_total text_same rows others sorted others_sorted

-- the parts with an end are the same, and so is the whole
same_whole : (a b : LocaleIdentifier) → a.locale.id ≡ b.locale.id → a.locale.extensions.transform.lang ≡ b.locale.extensions.transform.lang
    → a.locale.extensions.unicode.keywords ≡ b.locale.extensions.unicode.keywords → a.fields ≡ b.fields
    → a.attributes ≡ b.attributes → a.others ≡ b.others → a.private_use ≡ b.private_use → a ≡ b
same_whole a b id lang keywords fields attributes others private_use = λ i. record {
  locale = record {
    id = id i;
    extensions = record { unicode = record { keywords = keywords i }; transform = record { lang = lang i } };
  };
  attributes = attributes i;
  fields = fields i;
  others = others i;
  private_use = private_use i;
}

pub maps_of : (x : LocaleIdentifier) → IsLocaleIdentifier x → AreMaps x
maps_of x known = record { keywords = known.keywords; fields = known.fields }

module _ (by : WholeRules) where
  -- ---- nothing follows

  pub IsStill-whole : (old new : LocaleIdentifier) → IsWhole by old new → IsStill by new
  IsStill-whole old new is = record {
    id = is.locale.id.last;
    transform = none_behind (next by.likely by.rules) old.locale.extensions.transform.lang new.locale.extensions.transform.lang is.locale.transform;
    keywords = λ key. none_behind (next_whole by.rules by.keywords key) (value_at text_cmp old.locale.extensions.unicode.keywords key)
        (value_at text_cmp new.locale.extensions.unicode.keywords key) (is.locale.keywords key);
    fields = λ key. none_behind (next_field by.fields key) (value_at text_cmp old.fields key) (value_at text_cmp new.fields key) (is.fields key);
  }

  module _ (old : LocaleIdentifier) where
    rows : KeywordRows
    rows = old.locale.extensions.unicode.keywords

    -- by the rules or the table, key by key
    whole_none : ((key : List ℕ) → option_and_then (next_keyword by.keywords key) (value_at text_cmp old.locale.extensions.unicode.keywords key) ≡ None)
        → option_and_then (next_value by.rules) (value_at text_cmp old.locale.extensions.unicode.keywords rg) ≡ None
        → option_and_then (next_value by.rules) (value_at text_cmp old.locale.extensions.unicode.keywords sd) ≡ None
        → (key : List ℕ) → option_and_then (next_whole by.rules by.keywords key) (value_at text_cmp old.locale.extensions.unicode.keywords key) ≡ None
    whole_none none at_rg at_sd key =
        elim (ruled_cases key) [
          | inl (inl e) ↦ subst (λ q. option_and_then (next_whole by.rules by.keywords q) (value_at text_cmp old.locale.extensions.unicode.keywords q) ≡ None) (sym e) at_rg
          | inl (inr e) ↦ subst (λ q. option_and_then (next_whole by.rules by.keywords q) (value_at text_cmp old.locale.extensions.unicode.keywords q) ≡ None) (sym e) at_sd
          | inr (unruled, not_rg, not_sd) ↦
              subst (λ n. option_and_then n (value_at text_cmp old.locale.extensions.unicode.keywords key) ≡ None)
              (keyword_is by.rules by.keywords key unruled ∙ sym (whole_is by.rules by.keywords key unruled)) (none key)
        ]

    keyword_none : IsStill by old → (key : List ℕ) → option_and_then (next_keyword by.keywords key) (value_at text_cmp old.locale.extensions.unicode.keywords key) ≡ None
    keyword_none still key =
        elim (ruled_cases key) [
          | inl (inl e) ↦ none_ruled by.keywords key (ap is_ruled e) (value_at text_cmp old.locale.extensions.unicode.keywords key)
          | inl (inr e) ↦ none_ruled by.keywords key (ap is_ruled e) (value_at text_cmp old.locale.extensions.unicode.keywords key)
          | inr (unruled, not_rg, not_sd) ↦
              subst (λ n. option_and_then n (value_at text_cmp old.locale.extensions.unicode.keywords key) ≡ None)
              (whole_is by.rules by.keywords key unruled ∙ sym (keyword_is by.rules by.keywords key unruled)) (still.keywords key)
        ]

    abbrev rest_applied : Bool
    rest_applied = is_some (option_and_then (next by.likely by.rules) old.locale.extensions.transform.lang) || is_applied by.likely by.rules (without_language old.locale)

    pub IsStill-unapplied : is_whole_applied by old ≡ false → IsStill by old
    IsStill-unapplied off =
        let fields = first_false (is_any_followed (next_field by.fields) old.fields) (is_locale_applied by old.locale) off in
        let locale = second_false (is_any_followed (next_field by.fields) old.fields) (is_locale_applied by old.locale) off in
        let keywords = first_false (is_any_followed (next_keyword by.keywords) old.locale.extensions.unicode.keywords) rest_applied locale in
        let rest = second_false (is_any_followed (next_keyword by.keywords) old.locale.extensions.unicode.keywords) rest_applied locale in
        let language = first_false (is_some (option_and_then (next by.likely by.rules) old.locale.extensions.transform.lang)) _ rest in
        let rules = second_false (is_some (option_and_then (next by.likely by.rules) old.locale.extensions.transform.lang)) (is_applied by.likely by.rules (without_language old.locale)) rest in
        let values = second_false (is_some (next by.likely by.rules old.locale.id)) _ rules in
        let at_rg = first_false (is_some (subdivision_alias by.rules old.locale.extensions.unicode.keywords rg)) _ values in
        let at_sd = second_false (is_some (subdivision_alias by.rules old.locale.extensions.unicode.keywords rg)) _ values in
        record {
          id = none_is (next by.likely by.rules old.locale.id) (first_false _ _ rules);
          transform = none_is (option_and_then (next by.likely by.rules) old.locale.extensions.transform.lang) language;
          keywords = whole_none (none_followed (next_keyword by.keywords) old.locale.extensions.unicode.keywords keywords)
              (none_is (subdivision_alias by.rules old.locale.extensions.unicode.keywords rg) at_rg)
              (none_is (subdivision_alias by.rules old.locale.extensions.unicode.keywords sd) at_sd);
          fields = none_followed (next_field by.fields) old.fields fields;
        }

    module _ (known : IsLocaleIdentifier old) (still : IsStill by old) where
      pub HasNoAlias-still : HasNoAlias by old
      HasNoAlias-still = record {
        fields = followed_none (next_field by.fields) old.fields known.fields still.fields;
        keywords = followed_none (next_keyword by.keywords) old.locale.extensions.unicode.keywords known.keywords (keyword_none still);
      }

      pub unapplied_still : is_whole_applied by old ≡ false
      unapplied_still =
          let rules : is_applied by.likely by.rules (without_language old.locale) ≡ false =
          or_off _ _ (ap is_some still.id) (or_off _ _ (ap is_some (still.keywords rg)) (ap is_some (still.keywords sd))) in
          or_off _ _ HasNoAlias-still.fields (or_off _ _ HasNoAlias-still.keywords (or_off _ _ (ap is_some still.transform) rules))

      pub NeedsNoMemory-still : NeedsNoMemory by old
      NeedsNoMemory-still = record {
        aliases = HasNoAlias-still;
        transform = none_behind_any (next by.likely by.rules) (λ z. z.variants ≡ empty) old.locale.extensions.transform.lang still.transform;
        rules = record {
          id = none_stands_behind (next by.likely by.rules) (λ z. z.variants ≡ empty) old.locale.id still.id;
          transform = tt;
          region_override = none_behind_any (next_value by.rules) (λ w. w ≡ []) (value_at text_cmp old.locale.extensions.unicode.keywords rg) (still.keywords rg);
          subdivision = none_behind_any (next_value by.rules) (λ w. w ≡ []) (value_at text_cmp old.locale.extensions.unicode.keywords sd) (still.keywords sd);
        };
      }

    pub IsWhole-still : IsStill by old → AreMaps old → IsWhole by old old
    IsWhole-still still maps = record {
      locale = record {
        id = alone (next by.likely by.rules) old.locale.id still.id;
        transform = kept (next by.likely by.rules) old.locale.extensions.transform.lang still.transform;
        keywords = λ key. kept (next_whole by.rules by.keywords key) (value_at text_cmp old.locale.extensions.unicode.keywords key) (still.keywords key);
      };
      fields = λ key. kept (next_field by.fields key) (value_at text_cmp old.fields key) (still.fields key);
      attributes = refl;
      others = refl;
      private_use = refl;
      maps = maps;
    }

  -- ---- one form

  pub one_whole : (old a b : LocaleIdentifier) → IsWhole by old a → IsWhole by old b → a ≡ b
  one_whole old a b p q =
      let keywords = same_rows a.locale.extensions.unicode.keywords b.locale.extensions.unicode.keywords p.maps.keywords q.maps.keywords
      (λ key. one_end (next_whole by.rules by.keywords key) (value_at text_cmp old.locale.extensions.unicode.keywords key)
      (value_at text_cmp a.locale.extensions.unicode.keywords key) (value_at text_cmp b.locale.extensions.unicode.keywords key)
      (p.locale.keywords key) (q.locale.keywords key)) in
      let fields = same_rows a.fields b.fields p.maps.fields q.maps.fields
      (λ key. one_end (next_field by.fields key) (value_at text_cmp old.fields key) (value_at text_cmp a.fields key) (value_at text_cmp b.fields key)
      (p.fields key) (q.fields key)) in
      same_whole a b (end_is_unique (next by.likely by.rules) old.locale.id a.locale.id b.locale.id p.locale.id q.locale.id)
      (one_end (next by.likely by.rules) old.locale.extensions.transform.lang a.locale.extensions.transform.lang
      b.locale.extensions.transform.lang p.locale.transform q.locale.transform)
      keywords fields (p.attributes ∙ sym q.attributes) (p.others ∙ sym q.others) (p.private_use ∙ sym q.private_use)

  pub whole_stays : (old new : LocaleIdentifier) → IsWhole by old new → IsWhole by new new
  whole_stays old new is = IsWhole-still new (IsStill-whole old new is) is.maps

  pub whole_unapplied : (old new : LocaleIdentifier) → IsLocaleIdentifier new → IsWhole by old new → is_whole_applied by new ≡ false
  whole_unapplied old new known is = unapplied_still new known (IsStill-whole old new is)

  pub whole_free : (old new : LocaleIdentifier) → IsLocaleIdentifier new → IsWhole by old new → NeedsNoMemory by new
  whole_free old new known is = NeedsNoMemory-still new known (IsStill-whole old new is)

  pub whole_ends : (old new : LocaleIdentifier) → IsWhole by old new → RunsEnd by old
  whole_ends old new is = record {
    id = (new.locale.id, is.locale.id);
    transform = EndsIfAny-becomes (next by.likely by.rules) old.locale.extensions.transform.lang new.locale.extensions.transform.lang is.locale.transform;
    keywords = λ key. EndsIfAny-becomes (next_whole by.rules by.keywords key) (value_at text_cmp old.locale.extensions.unicode.keywords key)
        (value_at text_cmp new.locale.extensions.unicode.keywords key) (is.locale.keywords key);
    fields = λ key. EndsIfAny-becomes (next_field by.fields key) (value_at text_cmp old.fields key) (value_at text_cmp new.fields key) (is.fields key);
  }

  -- ---- applied exactly where changed

  pub applied_exactly : (old new : LocaleIdentifier) → IsLocaleIdentifier old → IsLocaleIdentifier new → IsWhole by old new
      → (is_whole_applied by old ≡ true → old ≢ new) × (old ≢ new → is_whole_applied by old ≡ true)
  applied_exactly old new known_old known is = (
    λ applied same. false≢true (sym (subst (λ x. is_whole_applied by x ≡ false) (sym same) (whole_unapplied old new known is)) ∙ applied),
    λ differ. elim (cases_Bool (is_whole_applied by old)) [
      | inl applied ↦ applied
      | inr off ↦ absurd (differ (one_whole old old new (IsWhole-still old (IsStill-unapplied old off) (maps_of old known_old)) is))
    ],
  )
