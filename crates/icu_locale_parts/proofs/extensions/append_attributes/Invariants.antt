use Rattle.std.proofs.Common.{◌≡◌, ◌++◌, codes, map}
use Rattle.std.specs.List.{flat_map}
use Rattle.std.specs.Map.Iter.{deref}
use Rattle.icu_locale_parts.proofs.extensions.append_attributes.Given as goal

abbrev pub invariant-loop-attribute : goal.invariant-loop-attribute
invariant-loop-attribute l = record {
  parted : map deref l.yielded ++ l.attribute-iterator ≡ l.initial.attribute-iterator;
  wrote : l.text.items ≡ l.initial.text.items ++ flat_map (λ p. codes " " ++ p) (map deref l.yielded);
}
