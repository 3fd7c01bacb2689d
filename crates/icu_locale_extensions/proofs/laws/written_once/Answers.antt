use Rattle.std.proofs.Common.{ap, subst}
use Rattle.icu_locale_extensions.specs.Grammar.{Spells}
use Rattle.icu_locale_extensions.specs.Locales.{written}
use Rattle.icu_locale_extensions.proofs.laws.written_once.Goals as goal

pub returns : goal.returns
returns c = λ x y is_x is_y. (
  λ same. c.spelled_once.ensures (written y) x y (subst (λ t. Spells t x) same (c.written_spells.ensures x is_x)) (c.written_spells.ensures y is_y),
  λ e. ap written e,
)
