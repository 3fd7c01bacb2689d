use Rattle.std.proofs.Common.{◌≡◌}
use Rattle.icu_locale_core.specs.TextSet.{rising}
use Rattle.icu_locale_validity.specs.inner.Wholes.{are_variants}
use Rattle.icu_locale_validity.proofs.table.Validity.are_valid_variants.Given as goal

abbrev pub invariant-loop-variant : goal.invariant-loop-variant
invariant-loop-variant l = are_variants l.self (rising l.variants) ≡ are_variants l.self l.variant-iterator
