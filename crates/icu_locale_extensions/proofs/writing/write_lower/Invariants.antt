use Rattle.std.proofs.Common.{◌++◌, codes, take, Ok}
use Rattle.icu_locale_core.specs.Subtag.{lowercase}
use Rattle.icu_locale_extensions.proofs.writing.write_lower.Given as goal

abbrev pub invariant-loop-byte : goal.invariant-loop-byte
invariant-loop-byte g l = g.S.TextSink.Writes l.fn.sink (codes "-" ++ lowercase (take l.byte-index l.text)) (Ok tt) l.sink
