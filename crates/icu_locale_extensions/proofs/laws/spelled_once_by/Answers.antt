use Rattle.std.proofs.Common.{sym, ◌∙◌}
use Rattle.icu_locale_extensions.proofs.laws.spelled_once_by.Goals as goal

pub returns : goal.returns
returns c = λ s t x y is_x is_y. cc (sym ((c.spelled_is_read.ensures s t x).0 is_x) ∙ (c.spelled_is_read.ensures s t y).0 is_y)
