use Rattle.std.proofs.Common.{ap}
use Rattle.icu_locale_core.specs.Identifier.{written}
use Rattle.icu_locale_core.proofs.Written.{same_from_written}
use Rattle.icu_locale_core.proofs.laws.written_once.Goals as goal

pub returns : goal.returns
returns c = λ x y is_x is_y. (same_from_written x y is_x is_y, ap written)
