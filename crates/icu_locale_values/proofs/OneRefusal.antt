-- A refusal is one, want of memory aside.
use Rattle.std.proofs.Common.{◌≡◌, ℕ, List, Option, Some, None, IsSomeAnd, inl, inr, refl, ap, ◌∙◌, subst}
use Rattle.std.specs.declared.cmp.Ordering.{Ordering}
use Rattle.std.specs.declared.cmp.Ordering.TheVariants.{Less, Equal, Greater}
use Rattle.std.specs.Ordering.{ordering_reverse}
use Rattle.icu_locale_core.specs.Keywords.{KeywordRows}
use Rattle.icu_locale_core.specs.Maps.{value_at}
use Rattle.icu_locale_core.specs.Subtag.{rg, sd}
use Rattle.icu_locale_core.specs.TextSet.{text_cmp}
use Rattle.icu_locale_core.specs.laws.TextSets.{text_same, text_total}
use Rattle.icu_locale_core.specs.declared.langid.LanguageIdentifier.{LanguageIdentifier}
use Rattle.icu_locale_core.specs.declared.locale.Locale.{Locale}
use Rattle.icu_locale.specs.Canonical.{next_value}
use Rattle.icu_locale.specs.Kinds.{next, by_language_alias}
use Rattle.icu_locale.specs.LikelySubtags.{LikelySubtags}
use Rattle.icu_locale.specs.Refusals.{ComesAgainFirst, ValueRepeats, ValueComesAgainFirst}
use Rattle.icu_locale.specs.declared.canonicalizer.rules.Rules.{Rules}
use Rattle.icu_locale_extensions.specs.declared.identifier.LocaleIdentifier.{LocaleIdentifier}
use Rattle.icu_locale_runs.specs.Run.{IsRepeat}
use Rattle.icu_locale_runs.specs.laws.LaterEnds.{not_both}
use Rattle.icu_locale_runs.specs.laws.Runs.{repeat_is_unique}
use Rattle.icu_locale_values.specs.Aliases.{Pieces, next_field, next_keyword}
use Rattle.icu_locale_values.specs.Whole.{WholeRules, AllEnd, without_language}
use Rattle.icu_locale_values.specs.Refusals.{IsFirstRepeat, IsLocaleRefusal, IsWholeRefusal, IsMemory}
use Rattle.icu_locale_values.specs.declared.error.WholeError.{WholeError}
use Rattle.icu_locale_values.specs.declared.error.WholeError.TheVariants.{Memory, NoFixedPoint, NoSubdivisionFixedPoint, NoValueFixedPoint, NoFieldFixedPoint}

-- the first to come again of a run, if there is one, is one
repeat_one : {X : Type 0} (next : X → Option X) (o : Option X) (y z : X) → IsSomeAnd o (λ start. IsRepeat next start y)
    → IsSomeAnd o (λ start. IsRepeat next start z) → y ≡ z
repeat_one next None y z p q = absurd p
repeat_one next (Some x) y z p q = repeat_is_unique next x y z p q

-- a value that comes again at some key, where each run ends
no_repeat : (next : List ℕ → Pieces → Option Pieces) (rows : KeywordRows) (key : List ℕ) (v : Pieces) → AllEnd next rows
    → IsFirstRepeat text_cmp next rows key v → ⊥
no_repeat next rows key v all first = not_both (next key) (value_at text_cmp rows key) v (all key) first.repeats

-- the first key with such a value is one, and so is the value
module _ (next : List ℕ → Pieces → Option Pieces) (rows : KeywordRows) (k l : List ℕ) (v w : Pieces)
    (p : IsFirstRepeat text_cmp next rows k v) (q : IsFirstRepeat text_cmp next rows l w) where
  first_by : (o : Ordering) → text_cmp k l ≡ o → (k ≡ l) × (v ≡ w)
  first_by Less less = absurd (not_both (next k) (value_at text_cmp rows k) v (q.before k less) p.repeats)
  first_by Equal tied =
      let same = text_same k l tied in (
        same,
        repeat_one (next l) (value_at text_cmp rows l) v w
            (subst (λ key. IsSomeAnd (value_at text_cmp rows key) (λ start. IsRepeat (next key) start v)) same p.repeats) q.repeats,
      )
  first_by Greater more =
      let less : text_cmp l k ≡ Less = text_total.antisymm l k ∙ ap ordering_reverse more in
      absurd (not_both (next l) (value_at text_cmp rows l) w (p.before l less) q.repeats)

  first_one : (k ≡ l) × (v ≡ w)
  first_one = first_by (text_cmp k l) refl

-- ---- what the rules refuse

module _ (likely : LikelySubtags) (rules : Rules) (old : Locale) where
  identifier_one : (y z : LanguageIdentifier) → ComesAgainFirst likely rules old y → ComesAgainFirst likely rules old z → y ≡ z
  identifier_one y z (inl p) (inl q) = repeat_is_unique (next likely rules) old.id y z p q
  identifier_one y z (inl p) (inr q) = absurd (not_both (next likely rules) (Some old.id) y q.0 p)
  identifier_one y z (inr p) (inl q) = absurd (not_both (next likely rules) (Some old.id) z p.0 q)
  identifier_one y z (inr p) (inr q) = repeat_one (by_language_alias rules) old.extensions.transform.lang y z p.1 q.1

  value_by : (v w : Pieces) → ValueRepeats rules old.extensions.unicode.keywords v → ValueRepeats rules old.extensions.unicode.keywords w → v ≡ w
  value_by v w (inl p) (inl q) = repeat_one (next_value rules) (value_at text_cmp old.extensions.unicode.keywords rg) v w p q
  value_by v w (inl p) (inr q) = absurd (not_both (next_value rules) (value_at text_cmp old.extensions.unicode.keywords rg) v q.0 p)
  value_by v w (inr p) (inl q) = absurd (not_both (next_value rules) (value_at text_cmp old.extensions.unicode.keywords rg) w p.0 q)
  value_by v w (inr p) (inr q) = repeat_one (next_value rules) (value_at text_cmp old.extensions.unicode.keywords sd) v w p.1 q.1

  value_one : (v w : Pieces) → ValueComesAgainFirst likely rules old v → ValueComesAgainFirst likely rules old w → v ≡ w
  value_one v w p q = value_by v w p.1 q.1

-- ---- the whole

module _ (by : WholeRules) (apart : (likely : LikelySubtags) (rules : Rules) (old : Locale) (z : LanguageIdentifier) (v : Pieces)
    → ComesAgainFirst likely rules old z → ValueComesAgainFirst likely rules old v → ⊥) where
  module _ (old : Locale) where
    values_end : (y : LanguageIdentifier) → IsLocaleRefusal by old (NoFixedPoint y) → AllEnd (next_keyword by.keywords) old.extensions.unicode.keywords
    values_end y (inl p) = p.0
    values_end y (inr p) = p.0.keywords

    fixed_one : (y z : LanguageIdentifier) → IsLocaleRefusal by old (NoFixedPoint y) → IsLocaleRefusal by old (NoFixedPoint z) → y ≡ z
    fixed_one y z (inl p) (inl q) = repeat_one (next by.likely by.rules) old.extensions.transform.lang y z p.1 q.1
    fixed_one y z (inl p) (inr q) = absurd (not_both (next by.likely by.rules) old.extensions.transform.lang y q.0.transform p.1)
    fixed_one y z (inr p) (inl q) = absurd (not_both (next by.likely by.rules) old.extensions.transform.lang z p.0.transform q.1)
    fixed_one y z (inr p) (inr q) = identifier_one by.likely by.rules (without_language old) y z p.1 q.1

    fixed_apart : (y : LanguageIdentifier) (w : Pieces) → IsLocaleRefusal by old (NoFixedPoint y) → IsLocaleRefusal by old (NoSubdivisionFixedPoint w) → ⊥
    fixed_apart y w (inl p) q = not_both (next by.likely by.rules) old.extensions.transform.lang y q.0.transform p.1
    fixed_apart y w (inr p) q = apart by.likely by.rules (without_language old) y w p.1 q.1

  locale_one : (old : Locale) (e f : WholeError) → IsLocaleRefusal by old e → IsLocaleRefusal by old f → (IsMemory e → ⊥) → (IsMemory f → ⊥) → e ≡ f
  locale_one old Memory f p q other also = absurd (other tt)
  locale_one old (NoFieldFixedPoint k v) f p q other also = absurd p
  locale_one old e Memory p q other also = absurd (also tt)
  locale_one old e (NoFieldFixedPoint k v) p q other also = absurd q
  locale_one old (NoFixedPoint y) (NoFixedPoint z) p q other also = ap (λ x. NoFixedPoint x) (fixed_one old y z p q)
  locale_one old (NoFixedPoint y) (NoSubdivisionFixedPoint w) p q other also = absurd (fixed_apart old y w p q)
  locale_one old (NoFixedPoint y) (NoValueFixedPoint l w) p q other also =
      absurd (no_repeat (next_keyword by.keywords) old.extensions.unicode.keywords l w (values_end old y p) q)
  locale_one old (NoSubdivisionFixedPoint v) (NoFixedPoint z) p q other also = absurd (fixed_apart old z v q p)
  locale_one old (NoSubdivisionFixedPoint v) (NoSubdivisionFixedPoint w) p q other also =
      ap (λ x. NoSubdivisionFixedPoint x) (value_one by.likely by.rules (without_language old) v w p.1 q.1)
  locale_one old (NoSubdivisionFixedPoint v) (NoValueFixedPoint l w) p q other also =
      absurd (no_repeat (next_keyword by.keywords) old.extensions.unicode.keywords l w p.0.keywords q)
  locale_one old (NoValueFixedPoint k v) (NoFixedPoint z) p q other also =
      absurd (no_repeat (next_keyword by.keywords) old.extensions.unicode.keywords k v (values_end old z q) p)
  locale_one old (NoValueFixedPoint k v) (NoSubdivisionFixedPoint w) p q other also =
      absurd (no_repeat (next_keyword by.keywords) old.extensions.unicode.keywords k v q.0.keywords p)
  locale_one old (NoValueFixedPoint k v) (NoValueFixedPoint l w) p q other also =
      let e = first_one (next_keyword by.keywords) old.extensions.unicode.keywords k l v w p q in λ i. NoValueFixedPoint (e.0 i) (e.1 i)

  pub whole_one : (old : LocaleIdentifier) (e f : WholeError) → IsWholeRefusal by old e → IsWholeRefusal by old f → (IsMemory e → ⊥) → (IsMemory f → ⊥) → e ≡ f
  whole_one old Memory f p q other also = absurd (other tt)
  whole_one old e Memory p q other also = absurd (also tt)
  whole_one old (NoFieldFixedPoint k v) (NoFieldFixedPoint l w) p q other also =
      let e = first_one (next_field by.fields) old.fields k l v w p q in λ i. NoFieldFixedPoint (e.0 i) (e.1 i)
  whole_one old (NoFieldFixedPoint k v) (NoFixedPoint z) p q other also = absurd (no_repeat (next_field by.fields) old.fields k v q.0 p)
  whole_one old (NoFieldFixedPoint k v) (NoSubdivisionFixedPoint w) p q other also = absurd (no_repeat (next_field by.fields) old.fields k v q.0 p)
  whole_one old (NoFieldFixedPoint k v) (NoValueFixedPoint l w) p q other also = absurd (no_repeat (next_field by.fields) old.fields k v q.0 p)
  whole_one old (NoFixedPoint y) (NoFieldFixedPoint l w) p q other also = absurd (no_repeat (next_field by.fields) old.fields l w p.0 q)
  whole_one old (NoSubdivisionFixedPoint v) (NoFieldFixedPoint l w) p q other also = absurd (no_repeat (next_field by.fields) old.fields l w p.0 q)
  whole_one old (NoValueFixedPoint k v) (NoFieldFixedPoint l w) p q other also = absurd (no_repeat (next_field by.fields) old.fields l w p.0 q)
  whole_one old (NoFixedPoint y) (NoFixedPoint z) p q other also = locale_one old.locale (NoFixedPoint y) (NoFixedPoint z) p.1 q.1 other also
  whole_one old (NoFixedPoint y) (NoSubdivisionFixedPoint w) p q other also =
      locale_one old.locale (NoFixedPoint y) (NoSubdivisionFixedPoint w) p.1 q.1 other also
  whole_one old (NoFixedPoint y) (NoValueFixedPoint l w) p q other also = locale_one old.locale (NoFixedPoint y) (NoValueFixedPoint l w) p.1 q.1 other also
  whole_one old (NoSubdivisionFixedPoint v) (NoFixedPoint z) p q other also =
      locale_one old.locale (NoSubdivisionFixedPoint v) (NoFixedPoint z) p.1 q.1 other also
  whole_one old (NoSubdivisionFixedPoint v) (NoSubdivisionFixedPoint w) p q other also =
      locale_one old.locale (NoSubdivisionFixedPoint v) (NoSubdivisionFixedPoint w) p.1 q.1 other also
  whole_one old (NoSubdivisionFixedPoint v) (NoValueFixedPoint l w) p q other also =
      locale_one old.locale (NoSubdivisionFixedPoint v) (NoValueFixedPoint l w) p.1 q.1 other also
  whole_one old (NoValueFixedPoint k v) (NoFixedPoint z) p q other also = locale_one old.locale (NoValueFixedPoint k v) (NoFixedPoint z) p.1 q.1 other also
  whole_one old (NoValueFixedPoint k v) (NoSubdivisionFixedPoint w) p q other also =
      locale_one old.locale (NoValueFixedPoint k v) (NoSubdivisionFixedPoint w) p.1 q.1 other also
  whole_one old (NoValueFixedPoint k v) (NoValueFixedPoint l w) p q other also =
      locale_one old.locale (NoValueFixedPoint k v) (NoValueFixedPoint l w) p.1 q.1 other also
