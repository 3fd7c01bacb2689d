use Rattle.icu_locale_core.specs.laws.TextSinks.{after_call}
use Rattle.icu_locale_validity.proofs.lines.append_row_fault.Goals as goal

pub returns-in-Ok-clause-part : goal.returns-in-Ok-clause-part
returns-in-Ok-clause-part g c =
    after_call c.append_ending.result _ _ _ _ c.in_ok-append_kind.ensures.appended
    (after_call c.append_ending.result _ _ _ _ c.in_ok-extend_from_slice.ensures.items
    (after_call c.append_ending.result _ _ _ _ c.in-Ok.ensures.appended c.append_ending.ensures.part))
