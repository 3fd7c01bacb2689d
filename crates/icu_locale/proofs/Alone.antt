-- What canonicalizing does of an identifier with no extensions.
use Rattle.std.proofs.Common.{◌≡◌, ◌↔◌, Bool, true, false, ◌||◌, Option, None, Some, IsSome, is_some, not, unwrap_or, Ok, Err, inl, inr, refl, subst, sym, ◌∙◌}
use Rattle.std.specs.Option.{option_map}
use Rattle.std.proofs.lemmas.Bool.{false≢true}
use Rattle.std.proofs.lemmas.Option.{none-some}
use Rattle.icu_locale_core.specs.declared.langid.LanguageIdentifier.{LanguageIdentifier}
use Rattle.icu_locale.specs.LikelySubtags.{LikelySubtags}
use Rattle.icu_locale.specs.Kinds.{next}
use Rattle.icu_locale_runs.specs.Run.{IsLaterEnd}
use Rattle.icu_locale.specs.Canonical.{IsCanonical, is_applied, answer_of, without_extensions}
use Rattle.icu_locale.specs.Canonicalization.{Canonicalizes}
use Rattle.icu_locale.specs.Cost.{AddsNoVariants}
use Rattle.icu_locale.specs.Refusals.{IsRunRefusal, IsMemory}
use Rattle.icu_locale.specs.declared.expander.TransformResult.{TransformResult}
use Rattle.icu_locale.specs.declared.expander.TransformResult.TheVariants.{Modified, Unmodified}
use Rattle.icu_locale.specs.declared.canonicalizer.rules.Rules.{Rules}
use Rattle.icu_locale.specs.declared.canonicalizer.changes.Changes.{Changes}
use Rattle.icu_locale.specs.declared.canonicalizer.CanonicalizeError.{CanonicalizeError}
use Rattle.icu_locale.specs.inner.CanonicalParts.{AreChanges}
use Rattle.icu_locale.proofs.CanonicalAgain.{unmodified_exactly}
use Rattle.icu_locale.proofs.Canonicals.{IsCanonical-with_changes, memory_from_end, no_repeat, no_value_repeat, named, named_value, refused_id}
use Rattle.icu_locale.proofs.Canonicals.{refused_identifiers}

-- no rewrite was found
pub nothing_next : {R X : Type 0} (f : R → X) (found : Option R) (next : Option X) → is_some found ≡ false → option_map f found ≡ next → next ≡ None
nothing_next f None next none is = sym is
nothing_next f (Some r) next none is = absurd (false≢true (sym none))

-- a rewrite was found, or nothing is next
pub is_last : {R X : Type 0} (f : R → X) (found : Option R) (next : Option X) (told : Bool) → is_some found ≡ not told → option_map f found ≡ next
    → (told ≡ true) ↔ (next ≡ None)
is_last f None next true some is = (λ yes. sym is, λ last. refl)
is_last f None next false some is = absurd (false≢true some)
is_last f (Some r) next true some is = absurd (false≢true (sym some))
is_last f (Some r) next false some is = (λ yes. absurd (false≢true yes), λ last. absurd (none-some _ (sym (is ∙ last))))

module _ (likely : LikelySubtags) (rules : Rules) (id : LanguageIdentifier) where
  -- the identifier is all that is changed
  abbrev changes_of : (end : Option LanguageIdentifier) → Changes
  changes_of end = record { id = end; transform = None; region_override = None; subdivision = None }

  are_changes : (end : Option LanguageIdentifier) → IsLaterEnd (next likely rules) id end → AreChanges likely rules (without_extensions id) (changes_of end)
  are_changes end is = record {
    identifiers = record { id = is; transform = refl };
    values = record { region_override = refl; subdivision = refl };
  }

  pub canonicalized : (end : Option LanguageIdentifier) (answer : TransformResult) → IsLaterEnd (next likely rules) id end
      → answer ≡ answer_of (is_applied likely rules (without_extensions id))
      → Canonicalizes likely rules (without_extensions id) (without_extensions (unwrap_or end id)) (Ok answer)
  canonicalized end answer is said =
      let are = are_changes end is in
      let canonical : IsCanonical likely rules (without_extensions id) (without_extensions (unwrap_or end id)) = IsCanonical-with_changes
      likely rules (without_extensions id) (changes_of end) are in
      record {
        canonical = canonical;
        answer = said;
        unmodified = subst (λ (a : TransformResult). (a ≡ Unmodified) ↔ (without_extensions (unwrap_or end id) ≡ without_extensions id))
            (sym said) (unmodified_exactly likely rules (without_extensions id) (without_extensions (unwrap_or end id)) canonical);
        refusal = tt;
        unchanged = tt;
        ends = λ ends. inl refl;
        repeats = λ z first. absurd (no_repeat likely rules (without_extensions id) (changes_of end) z are first);
        values_repeat = λ v first. absurd (no_value_repeat likely rules (without_extensions id) (changes_of end) v are first);
        free = λ needs out. out;
      }

  pub refused : (refusal : CanonicalizeError) → IsRunRefusal (next likely rules) id refusal
      → (AddsNoVariants (next likely rules) id → ¬ (IsMemory refusal)) → Canonicalizes likely rules (without_extensions id)
      (without_extensions id) (Err refusal)
  refused refusal is free =
      let told = refused_identifiers likely rules (without_extensions id) refusal (refused_id likely rules (without_extensions id) refusal is) in
      record {
        canonical = tt;
        answer = tt;
        unmodified = tt;
        refusal = told;
        unchanged = refl;
        ends = λ ends. inr (memory_from_end likely rules (without_extensions id) refusal told ends);
        repeats = λ z first. named likely rules (without_extensions id) refusal z told first;
        values_repeat = λ v first. named_value likely rules (without_extensions id) refusal v told first;
        free = λ needs. free needs.id;
      }

  pub same_answer : next likely rules id ≡ None → Unmodified ≡ answer_of (is_applied likely rules (without_extensions id))
  same_answer none = by (next likely rules id) none
    where
      by : (n : Option LanguageIdentifier) → n ≡ None → Unmodified ≡ answer_of (is_some n || false)
      by None is = refl
      by (Some z) is = absurd (none-some z (sym is))

  pub changed_answer : IsSome (next likely rules id) → Modified ≡ answer_of (is_applied likely rules (without_extensions id))
  changed_answer some = by (next likely rules id) some
    where
      by : (n : Option LanguageIdentifier) → IsSome n → Modified ≡ answer_of (is_some n || false)
      by None is = absurd (false≢true is)
      by (Some z) is = refl
