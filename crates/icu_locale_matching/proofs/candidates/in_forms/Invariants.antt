use Rattle.std.proofs.Common.{◌≡◌, map, take}
use Rattle.icu_locale.specs.LikelyTable.{likely}
use Rattle.icu_locale_matching.specs.inner.Made.{in_form}
use Rattle.icu_locale_matching.proofs.candidates.in_forms.Given as goal

abbrev pub invariant-loop-id : goal.invariant-loop-id
invariant-loop-id l = l.list.items ≡ map (in_form (likely l.expander)) (take l.id-index l.identifiers)
