use Rattle.icu_locale_core.specs.laws.TextSinks.{front_of, on_err}
use Rattle.icu_locale_validity.proofs.faults.append_variants.Goals as goal

pub returns-in_err-append_code-clause-part : goal.returns-in_err-append_code-clause-part
returns-in_err-append_code-clause-part c = on_err _ (front_of _ _ _ _ c.loop-variant.invariant.wrote c.in_err-append_code.ensures.part)
