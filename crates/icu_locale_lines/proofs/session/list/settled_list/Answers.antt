use Rattle.std.proofs.Common.{refl, subst}
use Rattle.icu_locale.specs.LikelySubtags.{AreSettled}
use Rattle.icu_locale_lines.specs.declared.session.list.KeptList.TheVariants.{Settled}
use Rattle.icu_locale_lines.specs.laws.Expanders.{same_likely}
use Rattle.icu_locale_lines.proofs.Sessions.{list_over}
use Rattle.icu_locale_lines.proofs.session.list.settled_list.Goals as goal

-- the tables are settled
pub unreachable-requires-in-Err-NotSettled : goal.unreachable-requires-in-Err-NotSettled
unreachable-requires-in-Err-NotSettled c =
    let h = c.requires in
    let e = c.in-Ok.expander in
    let refused = rw c.in-Err-NotSettled.field-0-is at c.in-Err-NotSettled.ensures.refused in
    refused.0 refl (subst AreSettled (same_likely c.args.tables.now h.0 e h.1 c.in-Ok.ensures.made) h.2)

pub returns-in-Ok-try_new-clause-over : goal.returns-in-Ok-try_new-clause-over
returns-in-Ok-try_new-clause-over c =
    let made = c.in-Ok-try_new in
    list_over c.args.tables.now c.in-Ok.expander made.negotiator.expander (Settled c.into_available.result) c.in-Ok.ensures.made
    made.ensures.expander c.into_available.ensures.over
