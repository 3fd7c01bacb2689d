-- Counts of searches: along one run, over the rows of a map, and of the whole.
use Rattle.std.proofs.Common.{◌≡◌, ◌≢◌, ◌⊎◌, ◌+◌, inl, inr, ℕ, List, [], ◌∷◌, Option, Some, None, refl, ap, sym, ◌∙◌, arith}
use Rattle.std.specs.Cmp.Lexicographic.{pointwise}
use Rattle.std.specs.declared.cmp.Ordering.{Ordering}
use Rattle.std.proofs.lemmas.Bool.{cases_Bool, false≢true}
use Rattle.std.proofs.lemmas.Option.{none-some}
use Rattle.icu_locale_core.specs.Keywords.{KeywordRows}
use Rattle.icu_locale_core.specs.declared.locale.Locale.{Locale}
use Rattle.icu_locale_core.specs.laws.Identifiers.{same_text, values_decide}
use Rattle.icu_locale_extensions.specs.declared.identifier.LocaleIdentifier.{LocaleIdentifier}
use Rattle.icu_locale_runs.specs.Run.{HasDistinct, IsUniverse}
use Rattle.icu_locale_runs.specs.laws.Counts.{HasDistinct-universe}
use Rattle.icu_locale_runs.specs.laws.Lists.{Contains-here}
use Rattle.icu_locale_values.specs.Aliases.{Pieces, AliasTable, pieces_cmp, preferred, next_field, next_keyword}
use Rattle.icu_locale_values.specs.Cost.{CountsAtMost, HasValues, CountsWhole}
use Rattle.icu_locale_values.specs.Whole.{WholeRules}
use Rattle.icu_locale_values.specs.inner.Counted.{CountsRest, CountsRun, CountsTransform, CountsValues, CountsLocale, IsCountedWalk}
use Rattle.icu_locale_values.specs.inner.Walked.{universe, IsWalked}
use Rattle.icu_locale_values.proofs.Universes.{IsUniverse-rows}

-- ---- each run has so many different values

module _ {V : Type 0} (same : (v w : V) → (v ≡ w) ⊎ (v ≢ w)) (order : V → V → Ordering) where
  in_rows : (rows : Option (List (V × V))) (v : V) → (states : List V) × IsUniverse (preferred order rows) v states
  in_rows None v =
      (v ∷ [], record { has_start = Contains-here v []; leads = λ y z inside follows. absurd (none-some z follows) })
  in_rows (Some rows) v = (universe rows v, IsUniverse-rows order rows v)

  pub run_has : (rows : Option (List (V × V))) (v : V) → (n : ℕ) × HasDistinct (preferred order rows) v n
  run_has rows v =
      let within = in_rows rows v in
      let counted = HasDistinct-universe (preferred order rows) v same within.0 within.1 in
      (counted.0, counted.2)

pub rows_have : {K V : Type 0} (next : K → V → Option V) → ((key : K) (v : V) → (n : ℕ) × HasDistinct (next key) v n) → (rows : List (K × V))
    → (n : ℕ) × HasValues next rows n
rows_have next each [] = (0, refl)
rows_have next each (row ∷ rows) =
    let first = each row.0 row.1 in
    let rest = rows_have next each rows in
    (first.0 + rest.0, (first.0, rest.0, first.1, rest.1, refl))

-- equality of values is decided
pub same_pieces : (v w : Pieces) → (v ≡ w) ⊎ (v ≢ w)
same_pieces v w =
    elim (cases_Bool (pointwise same_text v w)) [
      | inl equal ↦ inl ((values_decide v w).0 equal)
      | inr unequal ↦ inr (λ e. false≢true (sym unequal ∙ (values_decide v w).1 e))
    ]

pub keywords_have : (table : AliasTable) (rows : KeywordRows) → (n : ℕ) × HasValues (next_keyword table) rows n
keywords_have table = rows_have (next_keyword table) (λ key v. run_has same_pieces pieces_cmp _ v)

-- ---- the walk over rows

module _ {K V : Type 0} (order : K → K → Ordering) (next : K → V → Option V) (rows : List (K × V)) where
  pub IsCountedWalk-start : (before : ℕ) → IsWalked order next rows rows [] → IsCountedWalk order next rows rows [] before before
  IsCountedWalk-start before walked = record {
    walked = walked;
    forward = omega arith;
    counted = λ rest has. (rest, has, omega arith);
  }

  pub IsCountedWalk-more : (row : K × V) (left ends others : List (K × V)) (before now after : ℕ)
      → IsCountedWalk order next rows (row ∷ left) ends before now → CountsRun (next row.0) row.1 now after
      → IsWalked order next rows left others → IsCountedWalk order next rows left others before after
  IsCountedWalk-more row left ends others before now after so (m, distinct, run) walked = record {
    walked = walked;
    forward = omega (arith, so.forward, run.forward);
    counted = λ rest has.
        let all = so.counted (m + rest) (m, rest, distinct, has, refl) in
        (all.0, all.1, omega (arith, all.2, run.most));
  }

  pub CountsValues-end : (ends : List (K × V)) (before now : ℕ) → IsCountedWalk order next rows [] ends before now → CountsValues next rows before now
  CountsValues-end ends before now so =
      let all = so.counted 0 refl in
      (all.0, all.1, record { forward = so.forward; most = omega (arith, all.2) })

  -- a walk that stops at a row has made no more searches than it would have
  pub CountsValues-stopped : ((key : K) (v : V) → (n : ℕ) × HasDistinct (next key) v n) → (row : K × V) (left ends : List (K × V))
      (before now after : ℕ) → IsCountedWalk order next rows (row ∷ left) ends before now → CountsRun (next row.0) row.1 now after
      → CountsValues next rows before after
  CountsValues-stopped each row left ends before now after so (m, distinct, run) =
      let rest = rows_have next each left in
      let all = so.counted (m + rest.0) (m, rest.0, distinct, rest.1, refl) in
      (all.0, all.1, record { forward = omega (arith, so.forward, run.forward); most = omega (arith, all.2, run.most) })

-- ---- the whole

module _ (by : WholeRules) where
  -- the transform language is asked after the keywords and the rules last, or not at all
  pub CountsLocale-all : (old : Locale) (before first second after : ℕ) → CountsValues (next_keyword by.keywords) old.extensions.unicode.keywords before first
      → CountsTransform by old.extensions.transform.lang first second → CountsRest by old second after → CountsLocale by old before after
  CountsLocale-all old before first second after (n, has, counts) (m, transform, more) (k, rules, last) = (
    n + (m + k),
    record { in_keywords = n; in_transform = m; in_rules = k; sum = refl; of_keywords = has; of_transform = transform; of_rules = rules },
    record { forward = omega (arith, counts.forward, more.forward, last.forward); most = omega (arith, counts.most, more.most, last.most) },
  )

  none_counted : (at : ℕ) → CountsAtMost at at 0
  none_counted at = record { forward = omega arith; most = omega arith }

  pub CountsLocale-transform : (old : Locale) (before middle after : ℕ) → CountsValues (next_keyword by.keywords) old.extensions.unicode.keywords before middle
      → CountsTransform by old.extensions.transform.lang middle after → CountsLocale by old before after
  CountsLocale-transform old before middle after counts more = CountsLocale-all old before middle after after counts more (0, inl refl, none_counted after)

  pub CountsLocale-refused : (old : Locale) (before after : ℕ) → CountsValues (next_keyword by.keywords) old.extensions.unicode.keywords before after
      → CountsLocale by old before after
  CountsLocale-refused old before after counts = CountsLocale-transform old before after after counts (0, inl refl, none_counted after)

  pub CountsWhole-locale : (old : LocaleIdentifier) (before middle after : ℕ) → CountsValues (next_field by.fields) old.fields before middle
      → CountsLocale by old.locale middle after → CountsWhole by old before after
  CountsWhole-locale old before middle after (n, has, counts) (m, states, more) = (
    n + m,
    record {
      in_fields = n;
      in_keywords = states.in_keywords;
      in_transform = states.in_transform;
      in_rules = states.in_rules;
      sum = ap (λ k. n + k) states.sum;
      of_fields = has;
      of_keywords = states.of_keywords;
      of_transform = states.of_transform;
      of_rules = states.of_rules;
    },
    record { forward = omega (arith, counts.forward, more.forward); most = omega (arith, counts.most, more.most) },
  )

  -- no keyword is asked
  pub CountsWhole-refused : (old : LocaleIdentifier) (before after : ℕ) → CountsValues (next_field by.fields) old.fields before after
      → CountsWhole by old before after
  CountsWhole-refused old before after counts =
      let keywords = keywords_have by.keywords old.locale.extensions.unicode.keywords in
      CountsWhole-locale old before after after counts
      (CountsLocale-refused old.locale after after (keywords.0, keywords.1, record { forward = omega arith; most = omega arith }))
