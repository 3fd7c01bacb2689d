use Rattle.icu_locale_core.specs.laws.TextSinks.{front_of, on_err}
use Rattle.icu_locale_parts.proofs.pairs.append_pairs.Goals as goal

pub returns-in_err-append_pair-clause-part : goal.returns-in_err-append_pair-clause-part
returns-in_err-append_pair-clause-part g c = on_err _ (front_of _ _ _ _ c.in_ok-push.ensures.items c.in_err-append_pair.ensures.part)

pub returns-in_err-append_pair-2-clause-part : goal.returns-in_err-append_pair-2-clause-part
returns-in_err-append_pair-2-clause-part g c = on_err _ (front_of _ _ _ _ c.in_ok-push.ensures.items
    (front_of _ _ _ _ c.in_ok-append_pair.ensures.appended
    (front_of _ _ _ _ c.loop-row.invariant
    (front_of _ _ _ _ c.in_ok-push-2.ensures.items c.in_err-append_pair-2.ensures.part))))
