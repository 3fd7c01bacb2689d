use Rattle.std.proofs.Common.{◌≡◌, [], length}
use Rattle.icu_locale_extensions.specs.laws.Reader.{read_on}
use Rattle.icu_locale_extensions.specs.inner.Takes.{IsEnd}
use Rattle.icu_locale_extensions.specs.laws.Reader.Part.{keywords}
use Rattle.icu_locale_extensions.proofs.reader.take_keywords.Given as goal

abbrev pub invariant-pieces : goal.invariant-pieces
invariant-pieces l = record {
  read : read_on keywords [] l.fn.x l.fn.pieces ≡ read_on keywords [] l.x l.pieces;
  rest : IsEnd l.pieces l.fn.pieces;
}

abbrev pub decreases-pieces : goal.decreases-pieces
decreases-pieces l = length l.pieces
