use Rattle.icu_locale_core.specs.laws.TextSinks.{front_of, on_err}
use Rattle.icu_locale_validity.proofs.lines.append_ending.Goals as goal

pub returns-in_err-append_place-clause-part : goal.returns-in_err-append_place-clause-part
returns-in_err-append_place-clause-part c =
    on_err _ (front_of _ _ _ _ c.in_ok-append_why.ensures.appended c.in_err-append_place.ensures.part)
