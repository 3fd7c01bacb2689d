-- Keywords with a value put at a key, and runs of the values at `rg` and `sd`.
use Rattle.std.proofs.Common.{◌≡◌, ◌≢◌, ◌∙◌, List, ℕ, false, Option, Some, None, refl, sym, ap, subst, if◌then◌else◌, ◌⊎◌, inl, inr, map}
use Rattle.std.specs.BTreeMap.{is_at}
use Rattle.std.specs.Option.{option_or}
use Rattle.std.specs.Ordering.{is_eq}
use Rattle.std.proofs.lemmas.Bool.{false_from_ne_true, cases_Bool, false≢true}
use Rattle.std.proofs.lemmas.Cmp.{tied_itself}
use Rattle.std.proofs.lemmas.Option.{option_and_then_some}
use Rattle.icu_locale_core.specs.Keywords.{KeywordRows}
use Rattle.icu_locale_core.specs.Maps.{value_at}
use Rattle.icu_locale_core.specs.TextSet.{text_cmp}
use Rattle.icu_locale_core.specs.laws.TextSets.{text_total, same_from_tied}
use Rattle.icu_locale_core.specs.laws.Maps.{SetsOnly-insert_entry}
use Rattle.icu_locale.specs.Canonical.{rg, sd, put_optional, next_value, AreCanonicalKeywords}
use Rattle.icu_locale_runs.specs.Run.{BecomesEnd, IsLaterEndOf, EndsOrRepeats, IsUniverse}
use Rattle.icu_locale.specs.declared.canonicalizer.rules.Rules.{Rules}
use Rattle.icu_locale_runs.specs.laws.LaterEnds.{BecomesEnd-later_end, EndsIfAny-later_end, not_both, same_repeat}
use Rattle.icu_locale_core.specs.Value.{only_piece}
use Rattle.icu_locale_core.specs.laws.Identifiers.{values_decide}
use Rattle.icu_locale.specs.Refusals.{ValuesEnd, ValueRepeats}
use Rattle.icu_locale.specs.inner.CanonicalParts.{IsValueRefusal, IsValuesRefusal, AreLaterValues}
use Rattle.icu_locale.specs.inner.Universe.{values}
use Rattle.icu_locale.specs.declared.canonicalizer.CanonicalizeError.{CanonicalizeError}
use Rattle.icu_locale.specs.declared.canonicalizer.CanonicalizeError.TheVariants.{Memory, NoFixedPoint, NoSubdivisionFixedPoint}
use Rattle.icu_locale_runs.specs.laws.Lists.{Contains-here, Contains-there, Contains-map}
use Rattle.icu_locale_runs.specs.laws.Runs.{EndsOrRepeats-universe}
use Rattle.icu_locale.proofs.Universes.{has_row}

-- what is put at a key is there
pub put_optional-own : (keywords : KeywordRows) (key : List ℕ) (value : Option (List (List ℕ)))
    → value_at text_cmp (put_optional keywords key value) key ≡ option_or value (value_at text_cmp keywords key)
put_optional-own keywords key None = refl
put_optional-own keywords key (Some v) =
    SetsOnly-insert_entry text_total keywords key v key ∙ ap (λ b. if b then Some v else value_at text_cmp keywords key) (ap is_eq (tied_itself text_total key))

-- and leaves what is at another
pub put_optional-other : (keywords : KeywordRows) (key other : List ℕ) (value : Option (List (List ℕ))) → is_at (text_cmp key) other ≡ false
    → value_at text_cmp (put_optional keywords key value) other ≡ value_at text_cmp keywords other
put_optional-other keywords key other None apart = refl
put_optional-other keywords key other (Some v) apart =
    SetsOnly-insert_entry text_total keywords key v other ∙ ap (λ b. if b then Some v else value_at text_cmp keywords other) apart

-- ---- the canonical keywords, key by key

apart_from : (key other : List ℕ) → other ≢ key → is_at (text_cmp key) other ≡ false
apart_from key other ne = false_from_ne_true (is_at (text_cmp key) other) (λ tied. ne (sym (same_from_tied key other tied)))

module _ (keywords : KeywordRows) (a b : Option (List (List ℕ))) where
  put_optional-at_rg : value_at text_cmp (put_optional (put_optional keywords rg a) sd b) rg ≡ option_or a (value_at text_cmp keywords rg)
  put_optional-at_rg = put_optional-other (put_optional keywords rg a) sd rg b refl ∙ put_optional-own keywords rg a

  put_optional-at_sd : value_at text_cmp (put_optional (put_optional keywords rg a) sd b) sd ≡ option_or b (value_at text_cmp keywords sd)
  put_optional-at_sd =
      put_optional-own (put_optional keywords rg a) sd b ∙ ap (λ before. option_or b before) (put_optional-other keywords rg sd a refl)

  put_optional-elsewhere : (key : List ℕ) → key ≢ rg → key ≢ sd → value_at text_cmp
      (put_optional (put_optional keywords rg a) sd b) key ≡ value_at text_cmp keywords key
  put_optional-elsewhere key not_rg not_sd =
      put_optional-other (put_optional keywords rg a) sd key b (apart_from sd key not_sd) ∙ put_optional-other keywords rg key a (apart_from rg key not_rg)

module _ (rules : Rules) (old new : KeywordRows) (are : AreCanonicalKeywords rules old new) where
  pub canonical_at_rg : BecomesEnd (next_value rules) (value_at text_cmp old rg) (value_at text_cmp new rg)
  canonical_at_rg =
      subst (BecomesEnd (next_value rules) (value_at text_cmp old rg)) (sym (ap (λ k. value_at text_cmp k rg) are.whole
      ∙ put_optional-at_rg old are.region_override are.subdivision))
      (BecomesEnd-later_end (next_value rules) (value_at text_cmp old rg) are.region_override are.region_override_end)

  pub canonical_at_sd : BecomesEnd (next_value rules) (value_at text_cmp old sd) (value_at text_cmp new sd)
  canonical_at_sd =
      subst (BecomesEnd (next_value rules) (value_at text_cmp old sd)) (sym (ap (λ k. value_at text_cmp k sd) are.whole
      ∙ put_optional-at_sd old are.region_override are.subdivision))
      (BecomesEnd-later_end (next_value rules) (value_at text_cmp old sd) are.subdivision are.subdivision_end)

  pub canonical_elsewhere : (key : List ℕ) → key ≢ rg → key ≢ sd → value_at text_cmp new key ≡ value_at text_cmp old key
  canonical_elsewhere key not_rg not_sd =
      ap (λ k. value_at text_cmp k key) are.whole ∙ put_optional-elsewhere old are.region_override are.subdivision key not_rg not_sd

same_value : (v w : List (List ℕ)) → (v ≡ w) ⊎ (v ≢ w)
same_value v w =
    let decides = values_decide v w in
    elim (cases_Bool _) [ inl equal ↦ inl (decides.0 equal) | inr other ↦ inr (λ e. false≢true (sym other ∙ decides.1 e)) ]

module _ (rules : Rules) where
  -- a run of values stays among the value and those of the rows
  pub IsUniverse-values : (v : List (List ℕ)) → IsUniverse (next_value rules) v (values rules v)
  IsUniverse-values v = record {
    has_start = Contains-here v (map (λ row. row.1) rules.subdivision);
    leads = λ y z inside follows. option_and_then_some (value_at text_cmp rules.subdivision) (only_piece y) z follows
        (λ piece is found. Contains-there v z (map (λ row. row.1) rules.subdivision)
        (Contains-map (λ (row : List ℕ × List (List ℕ)). row.1) rules.subdivision (piece, z) (has_row rules.subdivision piece z found)));
  }

  -- so it ends or has a repeat
  pub value_end_or_repeat : (v : List (List ℕ)) → EndsOrRepeats (next_value rules) v
  value_end_or_repeat v =
      EndsOrRepeats-universe (next_value rules) v same_value (values rules v) (IsUniverse-values v)

  module _ (keywords : KeywordRows) where
    pub ValuesEnd-later : (ends : Option (List (List ℕ)) × Option (List (List ℕ))) → AreLaterValues rules keywords ends → ValuesEnd rules keywords
    ValuesEnd-later ends h = record {
      region_override = EndsIfAny-later_end (next_value rules) (value_at text_cmp keywords rg) ends.0 h.region_override;
      subdivision = EndsIfAny-later_end (next_value rules) (value_at text_cmp keywords sd) ends.1 h.subdivision;
    }

    -- values that end have none that comes again
    pub no_value_repeats : ValuesEnd rules keywords → (v : List (List ℕ)) → ValueRepeats rules keywords v → ⊥
    no_value_repeats ends v (inl repeats) = not_both (next_value rules) (value_at text_cmp keywords rg) v ends.region_override repeats
    no_value_repeats ends v (inr (ended, repeats)) = not_both (next_value rules) (value_at text_cmp keywords sd) v ends.subdivision repeats

    -- the first value that comes again is one
    pub same_value_repeats : (v w : List (List ℕ)) → ValueRepeats rules keywords v → ValueRepeats rules keywords w → v ≡ w
    same_value_repeats v w (inl a) (inl b) = same_repeat (next_value rules) (value_at text_cmp keywords rg) v w a b
    same_value_repeats v w (inl a) (inr (ended, b)) = absurd (not_both (next_value rules) (value_at text_cmp keywords rg) v ended a)
    same_value_repeats v w (inr (ended, a)) (inl b) = absurd (not_both (next_value rules) (value_at text_cmp keywords rg) w ended b)
    same_value_repeats v w (inr (ended, a)) (inr (also, b)) = same_repeat (next_value rules) (value_at text_cmp keywords sd) v w a b

    -- a refusal at `rg`, and one at `sd`
    pub refused_first : (e : CanonicalizeError) → IsValueRefusal rules (value_at text_cmp keywords rg) e → IsValuesRefusal rules keywords e
    refused_first Memory h = tt
    refused_first (NoFixedPoint z) h = h
    refused_first (NoSubdivisionFixedPoint v) h = inl h

    pub refused_second : (end : Option (List (List ℕ))) → IsLaterEndOf (next_value rules) (value_at text_cmp keywords rg) end
        → (e : CanonicalizeError) → IsValueRefusal rules (value_at text_cmp keywords sd) e → IsValuesRefusal rules keywords e
    refused_second end ends Memory h = tt
    refused_second end ends (NoFixedPoint z) h = h
    refused_second end ends (NoSubdivisionFixedPoint v) h =
        inr (EndsIfAny-later_end (next_value rules) (value_at text_cmp keywords rg) end ends, h)
