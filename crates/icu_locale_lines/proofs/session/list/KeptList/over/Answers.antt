use Rattle.std.proofs.Common.{refl, rules}
use Rattle.icu_locale.specs.LikelyTable.{likely}
use Rattle.icu_locale.specs.LikelySubtags.{AreSettled}
use Rattle.icu_locale_lines.specs.declared.session.list.KeptList.TheVariants as kept_list
use Rattle.icu_locale_lines.proofs.Sessions.{list_over}
use Rattle.icu_locale_lines.proofs.session.list.KeptList.over.Goals as goal

-- over tables that are not settled
pub returns-then-not-is_settled-clause-over : goal.returns-then-not-is_settled-clause-over
returns-then-not-is_settled-clause-over c = λ t over.
    let e = c.args.expander in
    let unsettled : ¬ (AreSettled (likely e)) = search rules in
    list_over t e e (kept_list.Unsettled c.args.identifiers) over refl unsettled

-- and over settled ones
pub returns-in-Ok-clause-over : goal.returns-in-Ok-clause-over
returns-in-Ok-clause-over c = λ t over.
    list_over t c.args.expander c.in-Ok.negotiator.expander (kept_list.Settled c.into_available.result) over c.in-Ok.ensures.expander
    c.into_available.ensures.over
