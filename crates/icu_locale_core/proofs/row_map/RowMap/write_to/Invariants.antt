use Rattle.std.proofs.Common.{take, Ok}
use Rattle.std.specs.List.{flat_map}
use Rattle.icu_locale_core.specs.Keywords.{written_row}
use Rattle.icu_locale_core.proofs.row_map.RowMap.write_to.Given as goal

-- the rows so far are written
abbrev pub invariant-loop-row : goal.invariant-loop-row
invariant-loop-row g l = g.S.TextSink.Writes l.initial.sink (flat_map (written_row g.K.RowKey.text g.V.RowValue.pieces) (take l.row-index l.row-items)) (Ok tt) l.sink
