use Rattle.std.proofs.Common.{◌≡◌, ◌++◌, map}
use Rattle.icu_locale_validity.specs.Parts.{code_part}
use Rattle.icu_locale_validity.specs.declared.part.PartKind.TheVariants.{Variant}
use Rattle.icu_locale_validity.specs.inner.Lines.{lines}
use Rattle.icu_locale_validity.specs.inner.Marks.{marks}
use Rattle.icu_locale_validity.proofs.faults.append_variants.Given as goal

abbrev pub invariant-loop-variant : goal.invariant-loop-variant
invariant-loop-variant l = record {
  parted : l.yielded ++ l.variant-iterator ≡ l.initial.variant-iterator;
  wrote : l.report.items ≡ l.initial.report.items
      ++ lines l.table l.text (map (code_part Variant (marks l.behind.singleton l.behind.language)) l.yielded);
}
