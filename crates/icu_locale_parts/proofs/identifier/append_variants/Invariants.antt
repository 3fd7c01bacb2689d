use Rattle.std.proofs.Common.{◌≡◌, ◌++◌, codes}
use Rattle.std.specs.List.{flat_map}
use Rattle.icu_locale_parts.proofs.identifier.append_variants.Given as goal

abbrev pub invariant-loop-variant : goal.invariant-loop-variant
invariant-loop-variant l = record {
  parted : l.yielded ++ l.variant-iterator ≡ l.initial.variant-iterator;
  wrote : l.text.items ≡ l.initial.text.items ++ flat_map (λ p. codes " " ++ p) l.yielded;
}
