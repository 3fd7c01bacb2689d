-- Canonical locales from the ends of their runs, and refusals from runs without an end.
use Rattle.std.proofs.Common.{◌≡◌, ◌≢◌, ◌+◌, ◌*◌, ◌≤◌, ℕ, Bool, true, false, List, [], Option, Some, None, IfSome, unwrap_or, Result, Ok, Err, ◌⊎◌}
use Rattle.std.proofs.Common.{inl, inr, refl, ap, sym, ◌∙◌, arith}
use Rattle.std.specs.Option.{MatchOption}
use Rattle.std.proofs.lemmas.Bool.{cases_Bool, false≢true}
use Rattle.icu_locale_core.specs.Maps.{value_at}
use Rattle.icu_locale_core.specs.TextSet.{text_cmp, empty}
use Rattle.icu_locale_core.specs.declared.langid.LanguageIdentifier.{LanguageIdentifier}
use Rattle.icu_locale_core.specs.declared.locale.Locale.{Locale}
use Rattle.icu_locale_core.specs.laws.Identifiers.{identifiers_decide}
use Rattle.icu_locale.specs.LikelySubtags.{LikelySubtags}
use Rattle.icu_locale.specs.Kinds.{next, by_language_alias, next_of}
use Rattle.icu_locale_runs.specs.Run.{EndsAt, IsLaterEnd, IsRepeat, HasDistinct, EndsOrRepeats}
use Rattle.icu_locale.specs.inner.Universe.{universe}
use Rattle.icu_locale.specs.Canonical.{rg, sd, next_value, IsCanonical}
use Rattle.icu_locale.specs.Refusals.{IsRunRefusal, IdentifiersEnd, RulesEnd, ComesAgainFirst, ValueComesAgainFirst, IsRefusal, IsMemory, IsOutOfMemory}
use Rattle.icu_locale.specs.Cost.{HasIdentifiers, CountsRun, CountsSearches, AddsNoVariants, NeedsNoMemory, HasNothingToCopy}
use Rattle.icu_locale.specs.inner.CanonicalParts.{IsRunRefusalOf, IsIdentifierRefusal, IsValuesRefusal, CountsSearchesOf, AreLaterEnds}
use Rattle.icu_locale.specs.inner.CanonicalParts.{AreChanges, with_changes}
use Rattle.icu_locale.specs.declared.canonicalizer.rules.Rules.{Rules}
use Rattle.icu_locale.specs.declared.canonicalizer.changes.Changes.{Changes}
use Rattle.icu_locale.specs.declared.canonicalizer.CanonicalizeError.{CanonicalizeError}
use Rattle.icu_locale.specs.declared.canonicalizer.CanonicalizeError.TheVariants.{Memory, NoFixedPoint, NoSubdivisionFixedPoint}
use Rattle.icu_locale.proofs.WithoutVariants.{free_bare, bare_next, bare_alias}
use Rattle.icu_locale_runs.specs.laws.Counts.{HasDistinct-universe}
use Rattle.icu_locale_runs.specs.laws.LaterEnds.{none_stands_behind, none_behind_any, EndsAt-later_end, EndsIfAny-later_end, BecomesEnd-later_end, not_both, same_repeat}
use Rattle.icu_locale_runs.specs.laws.Runs.{ends_with_no_repeat, repeat_is_unique, EndsOrRepeats-universe}
use Rattle.icu_locale.proofs.Values.{ValuesEnd-later, no_value_repeats, same_value_repeats}
use Rattle.icu_locale.proofs.Universes.{IsUniverse-universe}

same_identifier : (y z : LanguageIdentifier) → (y ≡ z) ⊎ (y ≢ z)
same_identifier y z =
    let decides = identifiers_decide y z in
    elim (cases_Bool _) [ inl equal ↦ inl (decides.0 equal) | inr other ↦ inr (λ e. false≢true (sym other ∙ decides.1 e)) ]

-- each run of identifiers has a count
count_of : (likely : LikelySubtags) (rules : Rules) (transform : Bool) (x : LanguageIdentifier) → (n : ℕ) × HasDistinct (next_of likely rules transform) x n
count_of likely rules transform x =
    let counted = HasDistinct-universe (next_of likely rules transform) x same_identifier (universe rules x) (IsUniverse-universe likely rules transform x) in
    (counted.0, counted.2)

-- the first search, and then those of the run, if it is run at all
pub counted_run : (likely : LikelySubtags) (rules : Rules) (x : LanguageIdentifier) {T : Type 0} (result : Result T CanonicalizeError)
    (before middle after : ℕ) → middle ≡ before + 1 → CountsSearchesOf (next likely rules) (Some x) result middle after
    → CountsRun (next likely rules) x before after
counted_run likely rules x result before middle after one counts =
    (counts.0, counts.1, omega (arith, one, counts.2.forward), omega (arith, one, counts.2.most))

pub counted_one : (likely : LikelySubtags) (rules : Rules) (x : LanguageIdentifier) (before after : ℕ) → after ≡ before + 1
    → CountsRun (next likely rules) x before after
counted_one likely rules x before after one =
    let counted = count_of likely rules false x in
    (counted.0, counted.1, omega (arith, one), omega (arith, one))

-- so it ends or has a repeat
pub end_or_repeat : (likely : LikelySubtags) (rules : Rules) (transform : Bool) (x : LanguageIdentifier) → EndsOrRepeats (next_of likely rules transform) x
end_or_repeat likely rules transform x =
    EndsOrRepeats-universe (next_of likely rules transform) x same_identifier (universe rules x) (IsUniverse-universe likely rules transform x)

-- ---- a whole locale

module _ (likely : LikelySubtags) (rules : Rules) (old : Locale) where
  abbrev lang : Option LanguageIdentifier
  lang = old.extensions.transform.lang

  pub IsCanonical-with_changes : (changes : Changes) → AreChanges likely rules old changes → IsCanonical likely rules old (with_changes changes old)
  IsCanonical-with_changes changes h = record {
    id = EndsAt-later_end (next likely rules) old.id changes.id h.identifiers.id;
    transform = BecomesEnd-later_end (by_language_alias rules) lang changes.transform h.identifiers.transform;
    keywords = record {
      region_override = changes.region_override;
      subdivision = changes.subdivision;
      region_override_end = h.values.region_override;
      subdivision_end = h.values.subdivision;
      whole = refl;
    };
  }

  IdentifiersEnd-later : (ends : Option LanguageIdentifier × Option LanguageIdentifier) → AreLaterEnds likely rules old ends → IdentifiersEnd likely rules old
  IdentifiersEnd-later ends h = record {
    id = (unwrap_or ends.0 old.id, EndsAt-later_end (next likely rules) old.id ends.0 h.id);
    transform = EndsIfAny-later_end (by_language_alias rules) lang ends.1 h.transform;
  }

  -- where the runs of identifiers end, none comes again
  pub none_first : IdentifiersEnd likely rules old → (z : LanguageIdentifier) → ComesAgainFirst likely rules old z → ⊥
  none_first ends z (inl repeats) = ends_with_no_repeat (next likely rules) old.id ends.id.0 z ends.id.1 repeats.again
  none_first ends z (inr (ended, repeats)) = not_both (by_language_alias rules) lang z ends.transform repeats

  pub memory_from_end : (e : CanonicalizeError) → IsRefusal likely rules old e → RulesEnd likely rules old → IsMemory e
  memory_from_end Memory h ends = tt
  memory_from_end (NoFixedPoint z) h ends = absurd (none_first ends.identifiers z h)
  memory_from_end (NoSubdivisionFixedPoint v) (identifiers, repeats) ends =
      absurd (no_value_repeats rules old.extensions.unicode.keywords ends.values v repeats)

  pub no_repeat : (changes : Changes) (z : LanguageIdentifier) → AreChanges likely rules old changes → ComesAgainFirst likely rules old z → ⊥
  no_repeat changes z h = none_first (IdentifiersEnd-later (changes.id, changes.transform) h.identifiers) z

  pub no_value_repeat : (changes : Changes) (v : List (List ℕ)) → AreChanges likely rules old changes → ValueComesAgainFirst likely rules old v → ⊥
  no_value_repeat changes v h (identifiers, repeats) =
      no_value_repeats rules old.extensions.unicode.keywords (ValuesEnd-later rules old.extensions.unicode.keywords
      (changes.region_override, changes.subdivision) h.values) v repeats

  same_first : (y z : LanguageIdentifier) → ComesAgainFirst likely rules old y → ComesAgainFirst likely rules old z → y ≡ z
  same_first y z (inl a) (inl b) = repeat_is_unique (next likely rules) old.id y z a b
  same_first y z (inl a) (inr ((w, ended), b)) = absurd (ends_with_no_repeat (next likely rules) old.id w y ended a.again)
  same_first y z (inr ((w, ended), a)) (inl b) = absurd (ends_with_no_repeat (next likely rules) old.id w z ended b.again)
  same_first y z (inr (ended, a)) (inr (ended2, b)) = same_repeat (by_language_alias rules) lang y z a b

  pub named : {T : Type 0} (e : CanonicalizeError) (z : LanguageIdentifier) → IsRefusal likely rules old e
      → ComesAgainFirst likely rules old z → (◌≡◌ {A = Result T CanonicalizeError} (Err e) (Err (NoFixedPoint z))) ⊎ IsMemory e
  named Memory z h first = inr tt
  named (NoFixedPoint y) z h first = inl (ap (λ w. Err (NoFixedPoint w)) (same_first y z h first))
  named (NoSubdivisionFixedPoint v) z (identifiers, repeats) first = absurd (none_first identifiers z first)

  pub named_value : {T : Type 0} (e : CanonicalizeError) (v : List (List ℕ)) → IsRefusal likely rules old e
      → ValueComesAgainFirst likely rules old v → (◌≡◌ {A = Result T CanonicalizeError} (Err e) (Err (NoSubdivisionFixedPoint v))) ⊎ IsMemory e
  named_value Memory v h first = inr tt
  named_value (NoFixedPoint z) v h (identifiers, repeats) = absurd (none_first identifiers z h)
  named_value (NoSubdivisionFixedPoint w) v (before, a) (identifiers, b) =
      inl (ap (λ u. Err (NoSubdivisionFixedPoint u)) (same_value_repeats rules old.extensions.unicode.keywords w v a b))

  pub refused_id : (e : CanonicalizeError) → IsRunRefusal (next likely rules) old.id e → IsIdentifierRefusal likely rules old e
  refused_id Memory h = tt
  refused_id (NoFixedPoint z) h = inl h
  refused_id (NoSubdivisionFixedPoint v) h = h

  pub refused_transform : (e : CanonicalizeError) (end : Option LanguageIdentifier) → IsLaterEnd (next likely rules) old.id end
      → IsRunRefusalOf (by_language_alias rules) lang e → IsIdentifierRefusal likely rules old e
  refused_transform Memory end ends h = tt
  refused_transform (NoFixedPoint z) end ends h =
      inr ((unwrap_or end old.id, EndsAt-later_end (next likely rules) old.id end ends), h)
  refused_transform (NoSubdivisionFixedPoint v) end ends h = h

  pub refused_identifiers : (e : CanonicalizeError) → IsIdentifierRefusal likely rules old e → IsRefusal likely rules old e
  refused_identifiers Memory h = tt
  refused_identifiers (NoFixedPoint z) h = h
  refused_identifiers (NoSubdivisionFixedPoint v) h = absurd h

  pub refused_values : (ends : Option LanguageIdentifier × Option LanguageIdentifier) → AreLaterEnds likely rules old ends
      → (e : CanonicalizeError) → IsValuesRefusal rules old.extensions.unicode.keywords e → IsRefusal likely rules old e
  refused_values ends are Memory h = tt
  refused_values ends are (NoFixedPoint z) h = absurd h
  refused_values ends are (NoSubdivisionFixedPoint v) h = (IdentifiersEnd-later ends are, h)

  -- ---- memory

  pub nothing_to_copy : HasNothingToCopy likely rules old → NeedsNoMemory likely rules old
  nothing_to_copy has = record {
    id = elim has.id [
      | inl none ↦ none_stands_behind (next likely rules) (λ z. z.variants ≡ empty) old.id none
      | inr (bare, adds) ↦ free_bare (next likely rules) old.id (λ y z none goes. bare_next likely rules y z adds none goes) bare
    ];
    transform = by lang has.transform;
    region_override = none_behind_any (next_value rules) (λ w. w ≡ []) (value_at text_cmp old.extensions.unicode.keywords rg) has.region_override;
    subdivision = none_behind_any (next_value rules) (λ w. w ≡ []) (value_at text_cmp old.extensions.unicode.keywords sd) has.subdivision;
  }
    where
      by : (o : Option LanguageIdentifier) → IfSome o (λ l. (by_language_alias rules l ≡ None) ⊎ (l.variants ≡ empty))
          → IfSome o (AddsNoVariants (by_language_alias rules))
      by None h = tt
      by (Some l) (inl none) = none_stands_behind (by_language_alias rules) (λ z. z.variants ≡ empty) l none
      by (Some l) (inr bare) = free_bare (by_language_alias rules) l (λ y z none goes. bare_alias likely rules y z none goes) bare

  -- ---- counts

  transform_count : (start : Option LanguageIdentifier) → (b : ℕ) × MatchOption start (b ≡ 0) (λ l. HasDistinct (by_language_alias rules) l b)
  transform_count None = (0, refl)
  transform_count (Some l) =
      count_of likely rules true l

  identifiers_where_ends : (a b : ℕ) (y : LanguageIdentifier) → EndsAt (next likely rules) old.id y
      → HasDistinct (next likely rules) old.id a → MatchOption lang (b ≡ 0) (λ l. HasDistinct (by_language_alias rules) l b)
      → HasIdentifiers likely rules old (a + b)
  identifiers_where_ends a b y ends of_run of_transform = record {
    in_run = a;
    in_transform = b;
    sum = refl;
    of_run = of_run;
    of_transform = λ w ended. of_transform;
    of_none = λ z repeats. absurd (ends_with_no_repeat (next likely rules) old.id y z ends repeats.again);
  }

  identifiers_where_repeats : (a : ℕ) (z : LanguageIdentifier) → IsRepeat (next likely rules) old.id z
      → HasDistinct (next likely rules) old.id a → HasIdentifiers likely rules old (a + 0)
  identifiers_where_repeats a z repeats of_run = record {
    in_run = a;
    in_transform = 0;
    sum = refl;
    of_run = of_run;
    of_transform = λ y ended. absurd (ends_with_no_repeat (next likely rules) old.id y z ended repeats.again);
    of_none = λ w again. refl;
  }

  identifiers : (a : ℕ) → HasDistinct (next likely rules) old.id a → (b : ℕ) × HasIdentifiers likely rules old (a + b)
      × ((z : LanguageIdentifier) → IsRepeat (next likely rules) old.id z → b ≡ 0)
  identifiers a of_run =
      elim (end_or_repeat likely rules false old.id) [
        | inl (y, ends) ↦
            let counted = transform_count lang in (
              counted.0,
              identifiers_where_ends a counted.0 y ends of_run counted.1,
              λ z repeats. absurd
                  (ends_with_no_repeat (next likely rules) old.id y z ends repeats.again),
            )
        | inr (z, repeats) ↦ (0, identifiers_where_repeats a z repeats of_run, λ w again. refl)
      ]

  least_of_refusal : (e : CanonicalizeError) (before after a b : ℕ) → IsRunRefusal (next likely rules) old.id e
      → ((z : LanguageIdentifier) → IsRepeat (next likely rules) old.id z → b ≡ 0) → (¬ (IsMemory e) → before + a ≤ after) → ¬ (IsMemory e)
      → before + (a + b) ≤ after
  least_of_refusal Memory before after a b h zero_there least no_memory = absurd (no_memory tt)
  least_of_refusal (NoSubdivisionFixedPoint v) before after a b h zero_there least no_memory = absurd h
  least_of_refusal (NoFixedPoint z) before after a b h zero_there least no_memory =
      let nothing : b ≡ 0 = zero_there z h in
      let enough : before + a ≤ after = least no_memory in
      omega (arith, nothing, enough)

  -- where the identifier's run is refused
  pub counted_refusal : {T U : Type 0} (e : CanonicalizeError) (before after : ℕ) → IsRunRefusal (next likely rules) old.id e
      → CountsSearchesOf {T = T} (next likely rules) (Some old.id) (Err e) before after → (n : ℕ) × HasIdentifiers likely rules old n
      × CountsSearches {T = U} (Err e) before after n
  counted_refusal e before after h (a, of_run, counted) =
      let all = identifiers a of_run in
      let most : after ≤ before + 6 * a = counted.most in (
        a + all.0,
        all.1,
        record {
          forward = counted.forward;
          most = omega (arith, most);
          least = least_of_refusal e before after a all.0 h all.2 counted.least;
        },
      )

  -- where it ends
  pub counted_both : {T U V : Type 0} (id : Result T CanonicalizeError) (transform : Result U CanonicalizeError)
      (whole : Result V CanonicalizeError) (end : Option LanguageIdentifier) (before middle after : ℕ) → ¬ (IsOutOfMemory id)
      → (IsOutOfMemory transform → IsOutOfMemory whole) → IsLaterEnd (next likely rules) old.id end
      → CountsSearchesOf (next likely rules) (Some old.id) id before middle → CountsSearchesOf
      (by_language_alias rules) lang transform middle after → (n : ℕ) × HasIdentifiers likely rules old n × CountsSearches whole before after n
  counted_both id transform whole end before middle after fine passes ends (a, of_run, first) (b, of_transform, second) =
      let forward_first : before ≤ middle = first.forward in
      let forward_second : middle ≤ after = second.forward in
      let most_first : middle ≤ before + 6 * a = first.most in
      let most_second : after ≤ middle + 6 * b = second.most in
      let least_first : before + a ≤ middle = first.least fine in (
        a + b,
        identifiers_where_ends a b (unwrap_or end old.id) (EndsAt-later_end (next likely rules) old.id end ends) of_run of_transform,
        record {
          forward = omega (arith, forward_first, forward_second);
          most = omega (arith, most_first, most_second);
          least = λ no_memory.
              let least_second : middle + b ≤ after = second.least (λ out. no_memory (passes out)) in
              omega (arith, least_first, least_second);
        },
      )

-- a count of searches that succeeded is one of whatever follows them
pub counts_whole : {T U : Type 0} (x : T) (whole : Result U CanonicalizeError) (before after n : ℕ)
    → CountsSearches {T = T} (Ok x) before after n → CountsSearches whole before after n
counts_whole x whole before after n counted = record {
  forward = counted.forward;
  most = counted.most;
  least = λ no_memory. counted.least (λ out. out);
}
