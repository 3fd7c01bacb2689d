use Rattle.std.proofs.Common.{arith}
use Rattle.icu_locale_core.specs.laws.Numbers.{below_half}
use Rattle.icu_locale_core.proofs.numbered.pair.Goals as goal

pub overflow_mul-result : goal.overflow_mul-result
overflow_mul-result c = omega (arith, below_half _ _ c.number.ensures)

pub overflow_add-result : goal.overflow_add-result
overflow_add-result c = omega (arith, below_half _ _ c.number.ensures, below_half _ _ c.number-2.ensures)
