use Rattle.icu_locale_core.specs.laws.TextSinks.{after_call}
use Rattle.icu_locale_validity.proofs.faults.append_transform.Goals as goal

pub returns-clause-part : goal.returns-clause-part
returns-clause-part c =
    after_call c.append_fields.result _ _ _ _ c.in_ok-append_lang.ensures.appended c.append_fields.ensures.part
