-- One more candidate, and what leads it.
use Rattle.std.proofs.Common.{◌≡◌, ◌⊎◌, ℕ, ◌+◌, ◌<◌, ◌++◌, zero, suc, List, [], ◌∷◌, length, Some, refl, ap, sym, ◌∙◌, subst, inl, inr, ⊎_elim, arith}
use Rattle.std.specs.List.{slice_get}
use Rattle.std.proofs.lemmas.Bool.{cases_lt}
use Rattle.std.proofs.lemmas.Option.{none-some, same_Some}
use Rattle.icu_locale_core.specs.declared.langid.LanguageIdentifier.{LanguageIdentifier}
use Rattle.icu_provider.specs.declared.matching.LanguageMatching.{LanguageMatching}
use Rattle.icu_locale_matching.specs.inner.Leaders.{HasLeader, AreLeading}
use Rattle.icu_locale_matching.specs.declared.candidates.Candidate.{Candidate}

-- ---- a list with one more at its end

kept_at : {X : Type 0} (xs : List X) (y : X) (k : ℕ) (x : X) → slice_get xs k ≡ Some x → slice_get (xs ++ y ∷ []) k ≡ Some x
kept_at [] y k x is = absurd (none-some x is)
kept_at (z ∷ xs) y zero x is = is
kept_at (z ∷ xs) y (suc k) x is = kept_at xs y k x is

pushed_at : {X : Type 0} (xs : List X) (y : X) → slice_get (xs ++ y ∷ []) (length xs) ≡ Some y
pushed_at [] y = refl
pushed_at (z ∷ xs) y = pushed_at xs y

kept_or_pushed : {X : Type 0} (xs : List X) (y : X) (k : ℕ) (x : X) → slice_get (xs ++ y ∷ []) k ≡ Some x → (slice_get xs k ≡ Some x) ⊎ (y ≡ x)
kept_or_pushed [] y zero x is = inr (same_Some y x is)
kept_or_pushed [] y (suc k) x is = absurd (none-some x is)
kept_or_pushed (z ∷ xs) y zero x is = inl is
kept_or_pushed (z ∷ xs) y (suc k) x is = kept_or_pushed xs y k x is

-- ---- one more candidate

module _ (t : LanguageMatching) (xs : List LanguageIdentifier) (forms : List Candidate) (n : ℕ) (c : Candidate) (stands : slice_get forms n ≡ Some c) where
  one_more : (leading : List Candidate) → ((k : ℕ) (d : Candidate) → k < n → slice_get forms k ≡ Some d → HasLeader t xs leading d)
      → HasLeader t xs leading c → (k : ℕ) (d : Candidate) → k < n + 1 → slice_get forms k ≡ Some d → HasLeader t xs leading d
  one_more leading before here k d upto is = ⊎_elim
      (λ earlier. before k d earlier is)
      (λ later.
      let same : k ≡ n = omega (arith, upto, later) in
      let one : c ≡ d = same_Some _ _ (sym stands ∙ ap (slice_get forms) (sym same) ∙ is) in
      subst (HasLeader t xs leading) one here)
      (cases_lt k n)

  -- one that is led
  pub led_more : (leading : List Candidate) → AreLeading t xs forms n leading → HasLeader t xs leading c → AreLeading t xs forms (n + 1) leading
  led_more leading known here = record { among = known.among; each = one_more leading known.each here }

  more_among : (leading : List Candidate) → ((j : ℕ) (l : Candidate) → slice_get leading j ≡ Some l → (k : ℕ) × (slice_get forms k ≡ Some l))
      → (j : ℕ) (l : Candidate) → slice_get (leading ++ c ∷ []) j ≡ Some l → (k : ℕ) × (slice_get forms k ≡ Some l)
  more_among leading among j l is = ⊎_elim
      (λ before. among j l before)
      (λ same. (n, stands ∙ ap Some same))
      (kept_or_pushed leading c j l is)

  has_still : (leading : List Candidate) (d : Candidate) → HasLeader t xs leading d → HasLeader t xs (leading ++ c ∷ []) d
  has_still leading d has = record {
    at = has.at;
    leader = has.leader;
    stands = kept_at leading c has.at has.leader has.stands;
    leads = has.leads;
  }

  leads_itself : (leading : List Candidate) → HasLeader t xs (leading ++ c ∷ []) c
  leads_itself leading = record { at = length leading; leader = c; stands = pushed_at leading c; leads = inl refl }

  -- one that leads
  pub leader_more : (leading : List Candidate) → AreLeading t xs forms n leading → AreLeading t xs forms (n + 1) (leading ++ c ∷ [])
  leader_more leading known = record {
    among = more_among leading known.among;
    each = one_more (leading ++ c ∷ []) (λ k d earlier is. has_still leading d (known.each k d earlier is)) (leads_itself leading);
  }

pub none_leading : (t : LanguageMatching) (xs : List LanguageIdentifier) (forms : List Candidate) → AreLeading t xs forms 0 []
none_leading t xs forms = record {
  among = λ j l is. absurd (none-some l is);
  each = λ k c within is. absurd (omega (arith, within));
}
