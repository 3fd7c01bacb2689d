use Rattle.icu_locale_core.specs.laws.TextSinks.{after_call}
use Rattle.icu_locale_validity.proofs.faults.append_faults.Goals as goal

pub returns-clause-part : goal.returns-clause-part
returns-clause-part c =
    after_call c.append_others.result _ _ _ _ c.in_ok-append_id.ensures.appended
    (after_call c.append_others.result _ _ _ _ c.in_ok-append_unicode.ensures.appended
    (after_call c.append_others.result _ _ _ _ c.in_ok-append_transform.ensures.appended c.append_others.ensures.part))
