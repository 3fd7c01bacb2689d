use Rattle.std.proofs.Common.{◌-◌, length}
use Rattle.icu_locale.specs.LikelyTable.{likely}
use Rattle.icu_locale_fallback.specs.Chains.{inheritance}
use Rattle.icu_locale_fallback.specs.inner.Universe.{universe}
use Rattle.icu_locale_fallback.specs.inner.Listing.{HasRest}
use Rattle.icu_locale_fallback.proofs.identifiers.IdentifierFallbackIterator.append_rest.Given as goal

abbrev pub invariant-steps : goal.invariant-steps
invariant-steps l = HasRest (inheritance l.self.fallbacker l.self.config.priority) l.start l.fn.text.items l.text.items l.passed l.locale

abbrev pub decreases-steps : goal.decreases-steps
decreases-steps l = length (universe l.self.config.priority (likely l.self.fallbacker.expander) l.self.fallbacker.parents.now l.start) - l.passed
