use Rattle.std.proofs.Common.{◌≡◌, ◌+◌, ◌<◌, ◌^◌, ◌||◌}
use Rattle.icu_locale_names.specs.LentNames.{pieces_of}
use Rattle.icu_locale_names.specs.Pieces.{has_raw}
use Rattle.icu_locale_names.specs.Walk.{pieces_left}
use Rattle.icu_locale_names.proofs.PieceWrites.{byte_count}
use Rattle.icu_locale_names.proofs.language.writing.measured.Given as goal

-- the bytes so far and those of the pieces that are left, and a raw piece so far or among those
abbrev pub invariant-loop-piece : goal.invariant-loop-piece
invariant-loop-piece l = record {
  counted : l.total + byte_count (pieces_left l.piece-iterator) ≡ byte_count (pieces_of l.fn.name);
  small : l.total < 2 ^ 64;
  raw : has_raw (pieces_of l.fn.name) ≡ (l.is_raw || has_raw (pieces_left l.piece-iterator));
}
