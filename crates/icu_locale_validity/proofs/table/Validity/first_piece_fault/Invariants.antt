use Rattle.std.proofs.Common.{◌≡◌, length}
use Rattle.std.specs.List.{All}
use Rattle.icu_locale_core.specs.Subtag.{IsSubtag}
use Rattle.icu_locale_validity.specs.Types.{first_fault, statuses}
use Rattle.icu_locale_validity.proofs.table.Validity.first_piece_fault.Given as goal

abbrev pub invariant-pieces : goal.invariant-pieces
invariant-pieces l = record {
  known : All IsSubtag l.pieces;
  same : first_fault (statuses l.self l.row l.fn.pieces) ≡ first_fault (statuses l.self l.row l.pieces);
}

abbrev pub decreases-pieces : goal.decreases-pieces
decreases-pieces l = length l.pieces
