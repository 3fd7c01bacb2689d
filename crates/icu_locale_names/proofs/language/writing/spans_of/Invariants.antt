use Rattle.std.proofs.Common.{◌≡◌, ◌+◌, ◌++◌}
use Rattle.icu_locale_names.specs.LentNames.{pieces_of}
use Rattle.icu_locale_names.specs.Pieces.{spans, spans_from}
use Rattle.icu_locale_names.specs.Walk.{pieces_left}
use Rattle.icu_locale_names.proofs.PieceWrites.{byte_count}
use Rattle.icu_locale_names.proofs.language.writing.spans_of.Given as goal

-- where the next piece begins; the spans so far, and those that are left
abbrev pub invariant-loop-piece : goal.invariant-loop-piece
invariant-loop-piece l = record {
  counted : l.start + byte_count (pieces_left l.piece-iterator) ≡ byte_count (pieces_of l.fn.name);
  marked : spans (pieces_of l.fn.name) ≡ l.marks.items ++ spans_from l.start (pieces_left l.piece-iterator);
}
