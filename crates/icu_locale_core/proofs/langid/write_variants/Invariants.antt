use Rattle.std.proofs.Common.{◌≡◌, ◌++◌, codes, Ok}
use Rattle.std.specs.List.{flat_map}
use Rattle.icu_locale_core.specs.TextSet.{rising}
use Rattle.icu_locale_core.proofs.langid.write_variants.Given as goal

abbrev pub invariant-loop-variant : goal.invariant-loop-variant
invariant-loop-variant g l = record {
  parted : l.yielded ++ l.variant-iterator ≡ rising l.fn.variants;
  wrote : g.S.TextSink.Writes l.initial.sink (flat_map (λ v. codes "-" ++ v) l.yielded) (Ok tt) l.sink;
}
