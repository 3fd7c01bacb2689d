use Rattle.std.proofs.Common.{◌≡◌, ◌++◌, map, unwrap_or}
use Rattle.icu_locale_core.specs.TextSet.{rising}
use Rattle.icu_locale.specs.RuleSet.{lent}
use Rattle.icu_locale.specs.Kinds.{variant_alias}
use Rattle.icu_locale.proofs.canonicalizer.identifiers.replaced_variants.Given as goal

-- the aliases so far, and then those of the variants that are left
abbrev pub invariant-loop-variant : goal.invariant-loop-variant
invariant-loop-variant l = map (λ v. unwrap_or (variant_alias (lent l.fn.rules) v) v) (rising l.fn.variants) ≡ l.list.items
    ++ map (λ v. unwrap_or (variant_alias (lent l.fn.rules) v) v) l.variant-iterator
