use Rattle.std.proofs.Common.{take}
use Rattle.icu_locale.specs.LikelyTable.{likely}
use Rattle.icu_locale.specs.RuleSet.{lent}
use Rattle.icu_locale_matching.specs.Requests.{AreCanonical}
use Rattle.icu_locale_matching.proofs.requests.canonical_forms.Given as goal

abbrev pub invariant-loop-id : goal.invariant-loop-id
invariant-loop-id l = AreCanonical (likely l.rules.expander) (lent l.rules.rules) (take l.id-index l.identifiers) l.list.items
