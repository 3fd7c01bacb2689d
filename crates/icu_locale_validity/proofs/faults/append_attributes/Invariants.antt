use Rattle.std.proofs.Common.{◌≡◌, ◌++◌, ◌∷◌, [], codes, map}
use Rattle.std.specs.Map.Iter.{deref}
use Rattle.icu_locale_validity.specs.Parts.{code_part}
use Rattle.icu_locale_validity.specs.declared.part.PartKind.TheVariants.{Attribute}
use Rattle.icu_locale_validity.specs.inner.Lines.{unlisted}
use Rattle.icu_locale_validity.proofs.faults.append_attributes.Given as goal

abbrev pub invariant-loop-attribute : goal.invariant-loop-attribute
invariant-loop-attribute l = record {
  parted : map deref l.yielded ++ l.attribute-iterator ≡ l.initial.attribute-iterator;
  wrote : l.report.items ≡ l.initial.report.items
      ++ unlisted l.text (map (code_part Attribute (codes "u" ∷ [])) (map deref l.yielded));
}
