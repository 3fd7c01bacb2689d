use Rattle.icu_locale_lines.proofs.Sessions.{prepared_in}
use Rattle.icu_locale_lines.proofs.session.Session.server.Goals as goal

-- what is served was prepared by the rules that are kept
pub over-requires : goal.over-requires
over-requires c =
    let by = c.in_ok-rules in
    prepared_in c.args.tables.now c.args.self.now c.in-Some.served by.rules by.matching.now c.requires.over c.in-Some.is by.ensures.expander
    by.ensures.rules by.ensures.matching
