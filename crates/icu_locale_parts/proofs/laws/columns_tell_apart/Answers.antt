use Rattle.std.proofs.Common.{ap}
use Rattle.icu_locale_parts.specs.Parts.{columns}
use Rattle.icu_locale_parts.proofs.Columns.{columns_once}
use Rattle.icu_locale_parts.proofs.laws.columns_tell_apart.Goals as goal

pub returns : goal.returns
returns c = λ x y is other. (
  columns_once (λ l m one two. (c.written_once.ensures l m one two).0) x y is other,
  λ e. ap columns e,
)
