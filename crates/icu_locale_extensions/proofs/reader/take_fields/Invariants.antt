use Rattle.std.proofs.Common.{◌≡◌, ◌⊎◌, true, [], length}
use Rattle.icu_locale_extensions.specs.Extensions.{is_tkey}
use Rattle.icu_locale_extensions.specs.laws.Reader.{first_is, read_on}
use Rattle.icu_locale_extensions.specs.inner.Takes.{IsEnd}
use Rattle.icu_locale_extensions.specs.laws.Reader.Part.{fields}
use Rattle.icu_locale_extensions.proofs.reader.take_fields.Given as goal

abbrev pub invariant-pieces : goal.invariant-pieces
invariant-pieces l = record {
  read : read_on fields [] l.fn.x l.fn.pieces ≡ read_on fields [] l.x l.pieces;
  rest : IsEnd l.pieces l.fn.pieces;
  some : (l.pieces ≡ l.fn.pieces) ⊎ (first_is is_tkey l.fn.pieces ≡ true);
}

abbrev pub decreases-pieces : goal.decreases-pieces
decreases-pieces l = length l.pieces
