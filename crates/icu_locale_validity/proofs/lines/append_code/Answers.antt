use Rattle.icu_locale_core.specs.laws.TextSinks.{after_call}
use Rattle.icu_locale_validity.proofs.lines.append_code.Goals as goal

pub returns-clause-part : goal.returns-clause-part
returns-clause-part c =
    after_call c.append_ending.result _ _ _ _ c.in_ok-append_kind.ensures.appended
    (after_call c.append_ending.result _ _ _ _ c.in_ok-extend_from_slice.ensures.items c.append_ending.ensures.part)
