use Rattle.icu_locale_core.specs.laws.TextSinks.{front_of, on_err}
use Rattle.icu_locale_validity.proofs.faults.append_keywords.Goals as goal

pub returns-in_err-append_keyword-clause-part : goal.returns-in_err-append_keyword-clause-part
returns-in_err-append_keyword-clause-part c = on_err _ (front_of _ _ _ _ c.loop-row.invariant c.in_err-append_keyword.ensures.part)
