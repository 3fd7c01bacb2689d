use Rattle.std.proofs.Common.{rules}
use Rattle.icu_locale.specs.LikelyTable.{likely}
use Rattle.icu_locale.specs.RuleSet.{lent}
use Rattle.icu_locale.proofs.Universes.{IsUniverse-universe}
use Rattle.icu_locale.proofs.canonicalizer.identifiers.later_end.Goals as goal

pub end_of_run-requires : goal.end_of_run-requires
end_of_run-requires c =
    IsUniverse-universe (likely c.args.canonicalizer.now.expander) (lent c.args.canonicalizer.now.rules) c.args.transform c.args.id.now

pub returns-in-Ok-Repeats-clause-end : goal.returns-in-Ok-Repeats-clause-end
returns-in-Ok-Repeats-clause-end c = search rules

pub returns-in-Ok-Repeats-clause-refused : goal.returns-in-Ok-Repeats-clause-refused
returns-in-Ok-Repeats-clause-refused c = search rules
