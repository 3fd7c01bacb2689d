use Rattle.std.proofs.Common.{◌≡◌, length}
use Rattle.icu_locale_validity.specs.Places.{spells_value}
use Rattle.icu_locale_validity.proofs.place.spells_value.Given as goal

abbrev pub invariant-pieces : goal.invariant-pieces
invariant-pieces l = spells_value l.kind l.long l.fn.left l.fn.others ≡ spells_value l.kind l.long l.left l.others

abbrev pub decreases-pieces : goal.decreases-pieces
decreases-pieces l = length l.others
