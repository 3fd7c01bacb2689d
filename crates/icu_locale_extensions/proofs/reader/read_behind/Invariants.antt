use Rattle.std.proofs.Common.{◌≡◌, [], length}
use Rattle.icu_locale_extensions.specs.Built.{bare}
use Rattle.icu_locale_extensions.specs.laws.Reader.{read_on}
use Rattle.icu_locale_extensions.specs.laws.Reader.Part.{whole}
use Rattle.icu_locale_extensions.specs.inner.Takes.{IsEnd}
use Rattle.icu_locale_extensions.proofs.reader.read_behind.Given as goal

abbrev pub invariant-marks : goal.invariant-marks
invariant-marks l = record {
  read : read_on whole [] (bare l.fn.id) l.fn.pieces ≡ read_on whole [] l.x l.pieces;
  rest : IsEnd l.pieces l.fn.pieces;
}

abbrev pub decreases-marks : goal.decreases-marks
decreases-marks l = length l.pieces
