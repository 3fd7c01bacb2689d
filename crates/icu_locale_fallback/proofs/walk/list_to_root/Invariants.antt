use Rattle.std.proofs.Common.{◌-◌, length}
use Rattle.icu_locale.specs.LikelyTable.{likely}
use Rattle.icu_locale_fallback.specs.Chains.{inheritance}
use Rattle.icu_locale_fallback.specs.inner.Universe.{universe}
use Rattle.icu_locale_fallback.specs.inner.Listing.{HasListed}
use Rattle.icu_locale_fallback.proofs.walk.list_to_root.Given as goal

abbrev pub invariant-steps : goal.invariant-steps
invariant-steps l = HasListed (inheritance l.fallbacker l.priority) l.start l.list.items l.locale

abbrev pub decreases-steps : goal.decreases-steps
decreases-steps l = length (universe l.priority (likely l.fallbacker.expander) l.fallbacker.parents.now l.start) - length l.list.items
