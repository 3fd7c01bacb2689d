-- The minimal form that favors the region, as three trials find it.
use Rattle.std.proofs.Common.{◌≡◌, ◌≢◌, ◌⊎◌, ◌+◌, ◌<◌, ℕ, cond, List, [], ◌∷◌, Option, Some, None, refl, ap, sym, ◌∙◌, subst, inl, inr, arith}
use Rattle.std.specs.Option.{IsSome}
use Rattle.std.proofs.lemmas.Bool.{cases_Bool, false≢true}
use Rattle.icu_locale_core.specs.TextSet.{len}
use Rattle.icu_locale_core.specs.declared.langid.LanguageIdentifier.{LanguageIdentifier}
use Rattle.icu_locale_core.specs.laws.Identifiers.{same_parts, identifiers_decide}
use Rattle.icu_locale.specs.LikelySubtags.{LikelySubtags, maximal}
use Rattle.icu_locale.specs.Minimal.{count, IsInClass, IsLeast, IsMinimalForm, Precedes}
use Rattle.icu_locale.specs.declared.expander.Favor.TheVariants.{RegionFirst}
use Rattle.icu_locale_key.specs.Keys.{IsPart}
use Rattle.icu_locale_key.specs.inner.KeyRun.{first_of, trials, minimal_form}
use Rattle.icu_locale_key.proofs.Filled.{minimal_is_part}

none_if_zero : (o : Option (List ℕ)) → count o ≡ 0 → o ≡ None
none_if_zero None e = refl
none_if_zero (Some t) e = absurd (omega (arith, e))

one_if_some : (o : Option (List ℕ)) → IsSome o → count o ≡ 1
one_if_some None h = absurd (false≢true h)
one_if_some (Some t) h = refl

at_most_one : (o : Option (List ℕ)) → count o < 2
at_most_one None = omega arith
at_most_one (Some t) = omega arith

-- the three trials
abbrev bare : LanguageIdentifier → LanguageIdentifier
bare m = record m { script = None; region = None }

abbrev with_region : LanguageIdentifier → LanguageIdentifier
with_region m = record m { script = None }

abbrev with_script : LanguageIdentifier → LanguageIdentifier
with_script m = record m { region = None }

-- an identifier with these subtags
same_with : (y m : LanguageIdentifier) (s r : Option (List ℕ)) → y.language ≡ m.language → y.script ≡ s → y.region ≡ r → y.variants ≡ m.variants
    → y ≡ record m { script = s; region = r }
same_with y m s r a b c d = λ i. record { language = a i; script = b i; region = c i; variants = d i }

-- the first trial passes, or the others are tried
first_cases : (likely : LikelySubtags) (m t y : LanguageIdentifier) (ts : List LanguageIdentifier) → (maximal likely t ≡ m → t ≡ y)
    → (maximal likely t ≢ m → first_of likely m ts ≡ y) → first_of likely m (t ∷ ts) ≡ y
first_cases likely m t y ts passes fails =
    let decide = identifiers_decide (maximal likely t) m in
    elim (cases_Bool (same_parts (maximal likely t) m)) [
      | inl e ↦ ap (λ b. cond b t (first_of likely m ts)) e ∙ passes (decide.0 e)
      | inr e ↦ ap (λ b. cond b t (first_of likely m ts)) e ∙ fails (λ same. false≢true (sym e ∙ decide.1 same))
    ]

module _ (likely : LikelySubtags) (c y : LanguageIdentifier) (least : IsLeast RegionFirst likely c y) (part : IsPart y (maximal likely c)) where
  abbrev m : LanguageIdentifier
  m = maximal likely c

  lengths : len y.variants ≡ len m.variants
  lengths = ap len part.variants

  alone : count y.script + count y.region ≡ 0 → y ≡ bare m
  alone zero =
      same_with y m None None part.language (none_if_zero y.script (omega (arith, zero))) (none_if_zero y.region (omega (arith, zero))) part.variants

  -- a trial that has the maximal form is y, or y goes before it
  of_class : (t : LanguageIdentifier) → t.language ≡ m.language → maximal likely t ≡ m → (y ≡ t) ⊎ Precedes RegionFirst y t
  of_class t language same = least.1 t (record { language = language; same = same })

  alone_passes : maximal likely (bare m) ≡ m → bare m ≡ y
  alone_passes same =
      elim (of_class (bare m) refl same) [
        | inl is ↦ sym is
        | inr (inl fewer) ↦ absurd (omega (arith, fewer, lengths))
        | inr (inr (many, has, has_not)) ↦ absurd (omega (arith, many, lengths, one_if_some y.region has))
      ]

  is_region : IsSome y.region → y.region ≡ m.region
  is_region has = elim part.region [ inl none ↦ absurd (false≢true (subst IsSome none has)) | inr same ↦ same ]

  region_passes : (y ≢ bare m) → maximal likely (with_region m) ≡ m → with_region m ≡ y
  region_passes not_alone same =
      elim (of_class (with_region m) refl same) [
        | inl is ↦ sym is
        | inr (inl fewer) ↦ absurd (not_alone (alone (omega (arith, fewer, lengths, at_most_one m.region))))
        | inr (inr (many, has, has_not)) ↦ absurd (has_not (subst IsSome (is_region has) has))
      ]

  script_passes : (y ≢ bare m) → (y ≢ with_region m) → maximal likely (with_script m) ≡ m
      → with_script m ≡ y
  script_passes not_alone not_region same =
      elim (of_class (with_script m) refl same) [
        | inl is ↦ sym is
        | inr (inl fewer) ↦ absurd (not_alone (alone (omega (arith, fewer, lengths, at_most_one m.script))))
        | inr (inr (many, has, has_not)) ↦ absurd (not_region (same_with y m None m.region part.language
            (none_if_zero y.script (omega (arith, many, lengths, one_if_some y.region has, at_most_one m.script))) (is_region has) part.variants))
      ]

  whole : (y ≢ bare m) → (y ≢ with_region m) → (y ≢ with_script m) → m ≡ y
  whole not_alone not_region not_script =
      elim part.script [
        | inl no_script ↦ elim part.region [
          | inl no_region ↦ absurd (not_alone (same_with y m None None part.language no_script no_region part.variants))
          | inr region ↦ absurd (not_region (same_with y m None m.region part.language no_script region part.variants))
        ]
        | inr script ↦ elim part.region [
          | inl no_region ↦ absurd (not_script (same_with y m m.script None part.language script no_region part.variants))
          | inr region ↦ sym (same_with y m m.script m.region part.language script region part.variants)
        ]
      ]

  -- what has not the maximal form is not y
  fails : (t : LanguageIdentifier) → maximal likely t ≢ m → y ≢ t
  fails t other is = other (ap (maximal likely) (sym is) ∙ least.0.same)

  least_is_first : first_of likely m (trials m) ≡ y
  least_is_first =
      first_cases likely m (bare m) y (with_region m ∷ with_script m ∷ []) alone_passes (λ one.
      first_cases likely m (with_region m) y (with_script m ∷ []) (region_passes (fails _ one)) (λ two.
      first_cases likely m (with_script m) y [] (script_passes (fails _ one) (fails _ two)) (λ three.
      whole (fails _ one) (fails _ two) (fails _ three))))

-- where no identifier has the maximal form, no trial has
none_is_first : (likely : LikelySubtags) (c : LanguageIdentifier) → ((z : LanguageIdentifier) → IsInClass likely c z → ⊥)
    → first_of likely (maximal likely c) (trials (maximal likely c)) ≡ maximal likely c
none_is_first likely c none =
    let m : LanguageIdentifier = maximal likely c in
    first_cases likely m (bare m) m (with_region m ∷ with_script m ∷ [])
    (λ same. absurd (none (bare m) (record { language = refl; same = same }))) (λ one.
    first_cases likely m (with_region m) m (with_script m ∷ []) (λ same. absurd (none (with_region m) (record { language = refl; same = same }))) (λ two.
    first_cases likely m (with_script m) m [] (λ same. absurd (none (with_script m) (record { language = refl; same = same }))) (λ three.
    refl)))

-- the minimal form is the first trial that has the maximal form
pub minimal_form_is : (likely : LikelySubtags) (c y : LanguageIdentifier) → IsMinimalForm RegionFirst likely c y → minimal_form likely c ≡ y
unfolding minimal_form
minimal_form_is likely c y (inl least) = least_is_first likely c y least (minimal_is_part RegionFirst likely c y (inl least))
minimal_form_is likely c y (inr (none, is)) = none_is_first likely c none ∙ sym is
