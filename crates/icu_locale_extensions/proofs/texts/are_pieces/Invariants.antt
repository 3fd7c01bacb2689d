use Rattle.std.proofs.Common.{◌≡◌}
use Rattle.icu_locale_extensions.specs.Extensions.{are_pieces}
use Rattle.icu_locale_extensions.proofs.texts.are_pieces.Given as goal

abbrev pub invariant-loop-piece : goal.invariant-loop-piece
invariant-loop-piece l = are_pieces l.low l.fn.pieces ≡ are_pieces l.low l.piece-iterator
