-- What canonicalizing a locale does (UTS #35 Part 1, Annex C "LocaleId Canonicalization").
use Rattle.std.specs.Prelude.{◌≡◌, ◌↔◌, ◌⊎◌, ℕ, List, Result, Err, OnOk, OnErr, IfOk, IfErr, IsOk}
use Rattle.icu_locale_core.specs.declared.langid.LanguageIdentifier.{LanguageIdentifier}
use Rattle.icu_locale_core.specs.declared.locale.Locale.{Locale}
use Rattle.icu_locale.specs.LikelySubtags.{LikelySubtags}
use Rattle.icu_locale.specs.Canonical.{IsCanonical, is_applied, answer_of}
use Rattle.icu_locale.specs.Refusals.{RulesEnd, ComesAgainFirst, ValueComesAgainFirst, IsRefusal, IsOutOfMemory}
use Rattle.icu_locale.specs.Cost.{NeedsNoMemory}
use Rattle.icu_locale.specs.declared.expander.TransformResult.{TransformResult}
use Rattle.icu_locale.specs.declared.expander.TransformResult.TheVariants.{Unmodified}
use Rattle.icu_locale.specs.declared.canonicalizer.rules.Rules.{Rules}
use Rattle.icu_locale.specs.declared.canonicalizer.CanonicalizeError.{CanonicalizeError}
use Rattle.icu_locale.specs.declared.canonicalizer.CanonicalizeError.TheVariants.{NoFixedPoint, NoSubdivisionFixedPoint}

-- the locale becomes canonical, or a refusal says why not and it stays as it was; memory aside it succeeds exactly where
-- the rules come to an end
pub record Canonicalizes (likely : LikelySubtags) (rules : Rules) (old new : Locale)
    (result : Result TransformResult CanonicalizeError) : Type 0 where
  pub canonical : OnOk result (IsCanonical likely rules old new)
  pub answer : IfOk result (λ answer. answer ≡ answer_of (is_applied likely rules old))
  pub unmodified : IfOk result (λ answer. (answer ≡ Unmodified) ↔ (new ≡ old))
  pub refusal : IfErr result (IsRefusal likely rules old)
  pub unchanged : OnErr result (new ≡ old)
  pub ends : RulesEnd likely rules old → IsOk result ⊎ IsOutOfMemory result
  pub repeats : (z : LanguageIdentifier) → ComesAgainFirst likely rules old z
      → (result ≡ Err (NoFixedPoint z)) ⊎ IsOutOfMemory result
  pub values_repeat : (v : List (List ℕ)) → ValueComesAgainFirst likely rules old v
      → (result ≡ Err (NoSubdivisionFixedPoint v)) ⊎ IsOutOfMemory result
  pub free : NeedsNoMemory likely rules old → ¬ (IsOutOfMemory result)
