use Rattle.std.proofs.Common.{take, Ok}
use Rattle.std.specs.List.{flat_map}
use Rattle.icu_locale_extensions.proofs.Dashes.{dashed_where, is_above_t}
use Rattle.icu_locale_extensions.proofs.writing.write_above_t.Given as goal

-- those so far are written
abbrev pub invariant-loop-row : goal.invariant-loop-row
invariant-loop-row g l = g.S.TextSink.Writes l.initial.sink (flat_map (dashed_where is_above_t) (take l.row-index l.row-items)) (Ok tt) l.sink
