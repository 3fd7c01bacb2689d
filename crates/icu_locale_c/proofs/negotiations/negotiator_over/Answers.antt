use Rattle.std.proofs.Common.{rules}
use Rattle.icu_locale_c.proofs.Negotiating.{none_listed}
use Rattle.icu_locale_c.proofs.negotiations.negotiator_over.Goals as goal

-- nothing is listed
pub returns-in-None-clause-refused : goal.returns-in-None-clause-refused
returns-in-None-clause-refused c = none_listed c.args.session.now c.requires.first (search rules)
