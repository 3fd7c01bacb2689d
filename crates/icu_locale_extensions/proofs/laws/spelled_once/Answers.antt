use Rattle.std.proofs.Common.{sym, ◌∙◌}
use Rattle.icu_locale_core.specs.Identifier.{pieces}
use Rattle.icu_locale_extensions.proofs.laws.spelled_once.Goals as goal

pub returns : goal.returns
returns c = λ t x y is_x is_y. cc (sym ((c.derived_is_read.ensures (pieces t) x).0 is_x) ∙ (c.derived_is_read.ensures (pieces t) y).0 is_y)
