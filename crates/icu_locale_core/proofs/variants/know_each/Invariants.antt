use Rattle.std.proofs.Common.{take}
use Rattle.std.specs.List.{All}
use Rattle.icu_locale_core.specs.Subtag.{IsVariant}
use Rattle.icu_locale_core.proofs.variants.know_each.Given as goal

abbrev pub invariant-loop-variant : goal.invariant-loop-variant
invariant-loop-variant l = All IsVariant (take l.variant-index l.list)
