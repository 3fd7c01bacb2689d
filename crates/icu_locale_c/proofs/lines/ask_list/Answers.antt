use Rattle.std.proofs.Common.{◌≡◌, true, rules}
use Rattle.icu_locale_lines.specs.Tasks.{asks_list}
use Rattle.icu_locale_c.proofs.Negotiating.{none_listed}
use Rattle.icu_locale_c.proofs.lines.ask_list.Goals as goal

-- nothing is listed
pub returns-in-None-default-clause-refused : goal.returns-in-None-default-clause-refused
returns-in-None-default-clause-refused c =
    let asks : asks_list c.args.asked.now.task ≡ true = search rules in
    (asks, none_listed c.args.session.now c.requires.first (search rules))
