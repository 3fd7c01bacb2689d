use Rattle.std.proofs.Common.{ap}
use Rattle.icu_locale_parts.specs.Parts.{parts_text}
use Rattle.icu_locale_parts.proofs.Tabs.{written_alike}
use Rattle.icu_locale_parts.proofs.laws.parts_tell_apart.Goals as goal

pub returns : goal.returns
returns c = λ x y is other. (
  λ e. (c.written_once.ensures x y is other).0 (written_alike x y is other e),
  λ e. ap parts_text e,
)
