use Rattle.icu_locale_core.specs.laws.TextSinks.{after_call}
use Rattle.icu_locale_validity.proofs.faults.append_tail.Goals as goal

pub returns-clause-part : goal.returns-clause-part
returns-clause-part c =
    after_call c.append_variants.result _ _ _ _ c.in_ok-append_script.ensures.appended
    (after_call c.append_variants.result _ _ _ _ c.in_ok-append_region.ensures.appended c.append_variants.ensures.part)
