use Rattle.icu_locale.specs.Rules.{is_lower_variant}
use Rattle.icu_locale.proofs.Readings.{list_all-off}
use Rattle.icu_locale.proofs.canonicalizer.reading.read_pieces.Goals as goal

pub returns-in_default-clause-read : goal.returns-in_default-clause-read
returns-in_default-clause-read c =
    list_all-off is_lower_variant (λ p. p.now) c.args.pieces.now c.loop-piece.piece-index _ c.loop-piece-test.true c.in_default.ensures
