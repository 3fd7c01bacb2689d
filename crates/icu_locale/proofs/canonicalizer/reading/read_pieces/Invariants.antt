use Rattle.std.proofs.Common.{◌≡◌, true, map, take}
use Rattle.std.specs.List.{list_all}
use Rattle.icu_locale.specs.Rules.{is_lower_variant}
use Rattle.icu_locale.proofs.canonicalizer.reading.read_pieces.Given as goal

abbrev pub invariant-loop-piece : goal.invariant-loop-piece
invariant-loop-piece l = record {
  list : l.list.items ≡ map (λ p. p.now) (take l.piece-index l.pieces);
  all : list_all is_lower_variant (map (λ p. p.now) (take l.piece-index l.pieces)) ≡ true;
}
