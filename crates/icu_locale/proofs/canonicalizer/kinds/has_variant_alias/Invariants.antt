use Rattle.std.proofs.Common.{◌≡◌, is_some}
use Rattle.std.specs.List.{list_any}
use Rattle.icu_locale_core.specs.TextSet.{rising}
use Rattle.icu_locale.specs.RuleSet.{lent}
use Rattle.icu_locale.specs.Kinds.{variant_alias}
use Rattle.icu_locale.proofs.canonicalizer.kinds.has_variant_alias.Given as goal

abbrev pub invariant-loop-variant : goal.invariant-loop-variant
invariant-loop-variant l = list_any (λ v. is_some (variant_alias (lent l.fn.rules) v)) (rising l.fn.variants) ≡ list_any
    (λ v. is_some (variant_alias (lent l.fn.rules) v)) l.variant-iterator
