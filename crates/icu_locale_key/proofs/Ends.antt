-- The end of a run, as a function of its start.
use Rattle.std.proofs.Common.{◌≡◌, ◌≢◌, ◌⊎◌, ◌+◌, ◌<◌, ℕ, zero, suc, cond, List, ◌++◌, length, Option, Some, None, is_some, option_and_then, refl, ap, sym, ◌∙◌, subst, inl, inr, arith}
use Rattle.std.proofs.lemmas.Bool.{cases_Bool, false≢true}
use Rattle.std.proofs.lemmas.List.Elements.{Contains-append_left, Contains-append_right}
use Rattle.std.proofs.lemmas.Option.{none-some, same_Some}
use Rattle.icu_locale_core.specs.declared.langid.LanguageIdentifier.{LanguageIdentifier}
use Rattle.icu_locale_core.specs.laws.Identifiers.{same_parts, identifiers_decide}
use Rattle.icu_locale_runs.specs.Run.{at, EndsAt, IsRepeat, IsUniverse}
use Rattle.icu_locale_runs.specs.laws.LaterEnds.{alone, none_later}
use Rattle.icu_locale_runs.specs.laws.Runs.{at_rest, ends_with_no_repeat, place_in_universe, EndsOrRepeats-universe}
use Rattle.icu_locale.specs.LikelySubtags.{LikelySubtags}
use Rattle.icu_locale.specs.Kinds.{next}
use Rattle.icu_locale.specs.declared.canonicalizer.rules.Rules.{Rules}
use Rattle.icu_locale_key.specs.inner.Universe.{texts_of, rule_texts, identifiers_of, run_universe}
use Rattle.icu_locale_key.specs.inner.KeyRun.{end_in, canonical_form}
use Rattle.icu_locale_key.proofs.Members.{IsOf, IsOf-texts, HasAll, has_identifier, is_identifier}
use Rattle.icu_locale_key.proofs.Turns.{HasRules-from, turn_in}

module _ {X : Type 0} (next : X → Option X) where
  here_in : (n : ℕ) (x : X) → next x ≡ None → end_in next (suc n) x ≡ Some x
  here_in n x none = ap (λ o. cond (is_some o) (option_and_then (end_in next n) o) (Some x)) none

  later_in : (n : ℕ) (x w : X) → next x ≡ Some w → end_in next (suc n) x ≡ end_in next n w
  later_in n x w goes = ap (λ o. cond (is_some o) (option_and_then (end_in next n) o) (Some x)) goes

  -- the run from what follows x is the rest of the run from x
  one_on : (x w : X) → next x ≡ Some w → (d : ℕ) → at next w d ≡ at next x (suc d)
  one_on x w goes d =
      let e : 1 + d ≡ suc d = omega arith in
      at_rest next x 1 w goes d ∙ ap (at next x) e

  -- an end at a place below n is found
  ends_in : (n p : ℕ) (x y : X) → p < n → at next x p ≡ Some y → next y ≡ None → (o : Option X) → next x ≡ o → end_in next n x ≡ Some y
  ends_in zero p x y below here last o e = absurd (omega (arith, below))
  ends_in (suc n) zero x y below here last o e =
      let same : x ≡ y = same_Some x y here in
      here_in n x (ap next same ∙ last) ∙ here
  ends_in (suc n) (suc p) x y below here last None e = absurd (none-some y (sym (none_later next x e p) ∙ here))
  ends_in (suc n) (suc p) x y below here last (Some w) e =
      let rest : at next w p ≡ Some y = one_on x w e p ∙ here in
      later_in n x w e ∙ ends_in n p w y (omega (arith, below)) rest last (next w) refl

  -- what is found is an end
  found_ends : (n : ℕ) (x y : X) (o : Option X) → next x ≡ o → end_in next n x ≡ Some y → EndsAt next x y
  found_ends zero x y o e found = absurd (none-some y found)
  found_ends (suc n) x y None e found =
      let same : x ≡ y = same_Some x y (sym (here_in n x e) ∙ found) in
      subst (EndsAt next x) same (alone next x e)
  found_ends (suc n) x y (Some w) e found =
      let ends = found_ends n w y (next w) refl (sym (later_in n x w e) ∙ found) in
      record { stands = (suc ends.stands.0, sym (one_on x w e ends.stands.0) ∙ ends.stands.1); last = ends.last }

-- whether identifiers are the same can be told
pub same_identifier : (y z : LanguageIdentifier) → (y ≡ z) ⊎ (y ≢ z)
same_identifier y z =
    let decide = identifiers_decide y z in
    elim (cases_Bool (same_parts y z)) [
      | inl e ↦ inl (decide.0 e)
      | inr e ↦ inr (λ same. false≢true (sym e ∙ decide.1 same))
    ]

-- a run stays among the identifiers of texts that have those of its start and of the rules
pub stays_among : (likely : LikelySubtags) (rules : Rules) (ts : List (List ℕ)) → HasAll ts (rule_texts rules) → (x : LanguageIdentifier) → IsOf ts x
    → IsUniverse (next likely rules) x (identifiers_of ts)
stays_among likely rules ts has x of_x = record {
  has_start = has_identifier ts x of_x;
  leads = λ y z here goes. has_identifier ts z (turn_in likely rules ts (HasRules-from rules ts has) y z (is_identifier ts y here) goes);
}

module _ (likely : LikelySubtags) (rules : Rules) (x : LanguageIdentifier) where
  in_universe : IsUniverse (next likely rules) x (run_universe rules x)
  in_universe =
      stays_among likely rules (texts_of x ++ rule_texts rules) (λ t here. Contains-append_right (texts_of x) (rule_texts rules) t here) x
      (IsOf-texts _ x (λ t here. Contains-append_left (texts_of x) (rule_texts rules) t here))

  -- the canonical form is there exactly where the run ends
  pub canonical_some : (c : LanguageIdentifier) → EndsAt (next likely rules) x c → canonical_form likely rules x ≡ Some c
  unfolding canonical_form
  canonical_some c ends =
      ends_in (next likely rules) (length (run_universe rules x)) ends.stands.0 x c
      (place_in_universe (next likely rules) x same_identifier (run_universe rules x) in_universe c c ends ends.stands.0 ends.stands.1)
      ends.stands.1 ends.last (next likely rules x) refl

  pub canonical_ends : (c : LanguageIdentifier) → canonical_form likely rules x ≡ Some c → EndsAt (next likely rules) x c
  unfolding canonical_form
  canonical_ends c found = found_ends (next likely rules) (length (run_universe rules x)) x c (next likely rules x) refl found

  canonical_none-by : (z : LanguageIdentifier) → IsRepeat (next likely rules) x z → (o : Option LanguageIdentifier) → canonical_form likely rules x ≡ o
      → canonical_form likely rules x ≡ None
  canonical_none-by z repeats None e = e
  canonical_none-by z repeats (Some c) e = absurd (ends_with_no_repeat (next likely rules) x c z (canonical_ends c e) repeats.again)

  pub canonical_none : (z : LanguageIdentifier) → IsRepeat (next likely rules) x z → canonical_form likely rules x ≡ None
  canonical_none z repeats = canonical_none-by z repeats (canonical_form likely rules x) refl

  -- a run ends, or it has a first repeat
  pub ends_or_repeats : ((c : LanguageIdentifier) × EndsAt (next likely rules) x c) ⊎ ((z : LanguageIdentifier) × IsRepeat (next likely rules) x z)
  ends_or_repeats = EndsOrRepeats-universe (next likely rules) x same_identifier (run_universe rules x) in_universe
