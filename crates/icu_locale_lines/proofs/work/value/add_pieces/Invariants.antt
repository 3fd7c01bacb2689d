use Rattle.std.proofs.Common.{◌≡◌, ◌++◌, codes, take}
use Rattle.std.specs.List.{flat_map}
use Rattle.icu_locale_lines.proofs.work.value.add_pieces.Given as goal

-- the pieces so far are written
abbrev pub invariant-loop-piece : goal.invariant-loop-piece
invariant-loop-piece l = record {
  wrote : l.text.items ≡ l.initial.text.items ++ flat_map (λ p. codes "-" ++ p) (take l.piece-index l.pieces);
}
