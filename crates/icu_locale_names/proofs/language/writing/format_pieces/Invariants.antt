use Rattle.std.proofs.Common.{◌≡◌, ◌++◌, List, ℕ}
use Rattle.std.specs.Fmt.{HasWritten, IsPlainFormatter}
use Rattle.icu_locale_names.specs.LentNames.{pieces_of}
use Rattle.icu_locale_names.specs.Pieces.{text_of}
use Rattle.icu_locale_names.specs.Walk.{pieces_left}
use Rattle.icu_locale_names.proofs.language.writing.format_pieces.Given as goal

-- a beginning of the text is written, and the pieces after it are left
abbrev pub invariant-loop-piece : goal.invariant-loop-piece
invariant-loop-piece g l = record {
  written : List ℕ;
  parted : text_of (pieces_of l.fn.name) ≡ written ++ text_of (pieces_left l.piece-iterator);
  wrote : IsPlainFormatter l.initial.f → HasWritten g.W.Write.write_str_gives l.initial.f written l.f;
}
