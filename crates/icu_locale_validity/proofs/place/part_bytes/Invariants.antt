use Rattle.std.proofs.Common.{◌≡◌, ◌+◌, length}
use Rattle.icu_locale_core.specs.Identifier.{pieces}
use Rattle.icu_locale_validity.specs.Places.{part_bytes, value_bytes}
use Rattle.icu_locale_validity.specs.inner.Marks.{bytes_left, pieces_left}
use Rattle.icu_locale_validity.proofs.place.part_bytes.Given as goal

abbrev pub invariant-pieces : goal.invariant-pieces
invariant-pieces l = record {
  same : part_bytes l.kind (pieces l.text) ≡ l.bytes + value_bytes l.kind (length l.first) (pieces_left l.left);
  bytes : l.bytes + bytes_left l.left ≡ length l.text;
}

abbrev pub decreases-pieces : goal.decreases-pieces
decreases-pieces l = bytes_left l.left
