use Rattle.std.proofs.Common.{◌≡◌, ◌++◌, map, Ok}
use Rattle.std.specs.Map.Iter.{deref}
use Rattle.icu_locale_extensions.specs.Rows.{dashed}
use Rattle.icu_locale_extensions.proofs.writing.write_attributes.Given as goal

abbrev pub invariant-loop-attribute : goal.invariant-loop-attribute
invariant-loop-attribute g l = record {
  parted : map deref l.yielded ++ l.attribute-iterator ≡ l.initial.attribute-iterator;
  wrote : g.S.TextSink.Writes l.initial.sink (dashed (map deref l.yielded)) (Ok tt) l.sink;
}
