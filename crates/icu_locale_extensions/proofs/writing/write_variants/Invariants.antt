use Rattle.std.proofs.Common.{◌≡◌, ◌++◌, map, Ok}
use Rattle.icu_locale_core.specs.Subtag.{lowercase}
use Rattle.icu_locale_core.specs.TextSet.{rising}
use Rattle.icu_locale_extensions.specs.Rows.{dashed}
use Rattle.icu_locale_extensions.proofs.writing.write_variants.Given as goal

abbrev pub invariant-loop-variant : goal.invariant-loop-variant
invariant-loop-variant g l = record {
  parted : l.yielded ++ l.variant-iterator ≡ rising l.fn.variants;
  wrote : g.S.TextSink.Writes l.initial.sink (dashed (map lowercase l.yielded)) (Ok tt) l.sink;
}
