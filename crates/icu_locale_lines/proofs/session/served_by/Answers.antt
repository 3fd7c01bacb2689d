use Rattle.icu_locale_lines.proofs.Sessions.{served_kept}
use Rattle.icu_locale_lines.proofs.session.served_by.Goals as goal

-- it is prepared by the rules that were read
pub returns-clause-over : goal.returns-clause-over
returns-clause-over c =
    let by = c.in_ok-rules in
    let made = c.in_ok-try_new in
    served_kept c.args.tables.now c.args.rules.now made.field-0 by.rules by.matching.now by.ensures.expander by.ensures.rules by.ensures.matching
    made.ensures.over
