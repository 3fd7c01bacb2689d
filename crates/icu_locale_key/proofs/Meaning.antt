-- What keys that stay mean: steps that lead from an identifier to its key, and on.
use Rattle.std.proofs.Common.{ℕ, zero, suc, refl, sym, subst, inl, inr}
use Rattle.icu_locale_core.specs.declared.langid.LanguageIdentifier.{LanguageIdentifier}
use Rattle.icu_locale.specs.LikelySubtags.{LikelySubtags}
use Rattle.icu_locale.specs.declared.expander.Favor.{Favor}
use Rattle.icu_locale.specs.declared.canonicalizer.rules.Rules.{Rules}
use Rattle.icu_locale_key.specs.Keys.{IsKey, HasClass}
use Rattle.icu_locale_key.specs.Stable.{Leads, IsStep, AreLinkedIn, MeanTheSame, KeysHaveClasses}
use Rattle.icu_locale_key.proofs.Forms.{maximal_of_minimal}

module _ (likely : LikelySubtags) (rules : Rules) where
  appended : (n : ℕ) (x y z : LanguageIdentifier) → AreLinkedIn likely rules n x y → MeanTheSame likely rules y z → MeanTheSame likely rules x z
  appended zero x y z same later = subst (λ w. MeanTheSame likely rules w z) (sym same) later
  appended (suc n) x y z (w, step, rest) later =
      let onward = appended n w y z rest later in
      (suc onward.0, (w, step, onward.1))

  pub means_through : (x y z : LanguageIdentifier) → MeanTheSame likely rules x y → MeanTheSame likely rules y z → MeanTheSame likely rules x z
  means_through x y z one other = appended one.0 x y z one.1 other

  back : (x y : LanguageIdentifier) → IsStep likely rules x y → IsStep likely rules y x
  back x y (inl ends) = inr (inl ends)
  back x y (inr (inl ends)) = inl ends
  back x y (inr (inr same)) = inr (inr (sym same))

  reversed : (n : ℕ) (x y : LanguageIdentifier) → AreLinkedIn likely rules n x y → MeanTheSame likely rules y x
  reversed zero x y same = (0, sym same)
  reversed (suc n) x y (w, step, rest) = means_through y w x (reversed n w y rest) (1, (x, back x w step, refl))

  pub means_back : (x y : LanguageIdentifier) → MeanTheSame likely rules x y → MeanTheSame likely rules y x
  means_back x y means = reversed means.0 x y means.1

  -- an identifier means the same as its key
  pub key_means : (favor : Favor) (x k : LanguageIdentifier) (is : IsKey favor likely rules x k) → HasClass likely is.canonical → MeanTheSame likely rules x k
  key_means favor x k is has =
      (2, (is.canonical, inl is.end, (k, inr (inr (sym (maximal_of_minimal favor likely is.canonical k has is.minimal))), refl)))

  pub leads_means : (favor : Favor) (x : LanguageIdentifier) → KeysHaveClasses favor likely rules x → (n : ℕ) (y : LanguageIdentifier)
      → Leads favor likely rules n x y → MeanTheSame likely rules x y
  leads_means favor x has zero y same = (0, same)
  leads_means favor x has (suc n) y (k, before, (is, other)) =
      means_through x k y (leads_means favor x has n k before) (key_means favor k y is (has n k is.canonical before is.end))

  -- an equivalence that holds of each step holds of what means the same
  pub least_of : (R : LanguageIdentifier → LanguageIdentifier → Type 0) → ((x : LanguageIdentifier) → R x x)
      → ((x y z : LanguageIdentifier) → R x y → R y z → R x z) → ((x y : LanguageIdentifier) → IsStep likely rules x y → R x y)
      → (n : ℕ) (x y : LanguageIdentifier) → AreLinkedIn likely rules n x y → R x y
  least_of R itself through steps zero x y same = subst (R x) same (itself x)
  least_of R itself through steps (suc n) x y (w, step, rest) = through x w y (steps x w step) (least_of R itself through steps n w y rest)
