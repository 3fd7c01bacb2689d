use Rattle.std.proofs.Common.{◌≡◌, ◌<◌, ℕ, Some, None}
use Rattle.std.specs.List.{slice_get}
use Rattle.icu_locale_core.specs.declared.langid.LanguageIdentifier.{LanguageIdentifier}
use Rattle.icu_locale.specs.Kinds.{next}
use Rattle.icu_locale.specs.LikelyTable.{likely}
use Rattle.icu_locale.specs.RuleSet.{lent}
use Rattle.icu_locale_matching.proofs.requests.are_canonical.Given as goal

abbrev pub invariant-loop-id : goal.invariant-loop-id
invariant-loop-id l = (k : ℕ) (x : LanguageIdentifier) → k < l.id-index → slice_get l.identifiers k ≡ Some x
    → next (likely l.rules.expander) (lent l.rules.rules) x ≡ None
