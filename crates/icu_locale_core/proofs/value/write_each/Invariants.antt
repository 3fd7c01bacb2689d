use Rattle.std.proofs.Common.{◌++◌, codes, take, Ok}
use Rattle.std.specs.List.{flat_map}
use Rattle.icu_locale_core.proofs.value.write_each.Given as goal

abbrev pub invariant-loop-piece : goal.invariant-loop-piece
invariant-loop-piece g l = g.S.TextSink.Writes l.initial.sink (flat_map (λ p. codes "-" ++ p) (take l.piece-index l.pieces)) (Ok tt) l.sink
