use Rattle.icu_locale_names.specs.LentNames.{pieces_of}
use Rattle.icu_locale_names.specs.Pieces.{text_of}
use Rattle.icu_locale_names.specs.Walk.{pieces_left}
use Rattle.icu_locale_names.proofs.PieceWrites.{Written}
use Rattle.icu_locale_names.proofs.language.writing.write_pieces.Given as goal

abbrev pub invariant-loop-piece : goal.invariant-loop-piece
invariant-loop-piece g l = Written (text_of (pieces_of l.fn.name)) (g.W.Write.contents l.initial.sink) (g.W.Write.contents l.sink)
    (pieces_left l.piece-iterator)
