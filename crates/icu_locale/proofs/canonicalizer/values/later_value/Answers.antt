use Rattle.std.proofs.Common.{IfSome, option_copied, subst, rules}
use Rattle.icu_locale.specs.RuleSet.{lent}
use Rattle.icu_locale.specs.Cost.{AddsNoPieces}
use Rattle.icu_locale.proofs.Values.{IsUniverse-values}
use Rattle.icu_locale.proofs.canonicalizer.values.later_value.Goals as goal

pub end_of_run-requires : goal.end_of_run-requires
end_of_run-requires c = IsUniverse-values (lent c.args.rules.now) c.in-Some.value.now

-- where no value after the start has pieces, each is copied without memory
pub returns-in-Err-clause-free : goal.returns-in-Err-clause-free
returns-in-Err-clause-free c = λ adds out.
    let behind : AddsNoPieces (lent c.args.rules.now) c.in-Some.value.now = subst
    (λ o. IfSome (option_copied o) (AddsNoPieces (lent c.args.rules.now))) c.in-Some.is adds in
    let fine = c.end_of_run.ensures.free behind in
    absurd (search rules)

pub returns-in-Ok-Ends-clause-end : goal.returns-in-Ok-Ends-clause-end
returns-in-Ok-Ends-clause-end c = search rules

pub returns-in-Ok-Ends-clause-refused : goal.returns-in-Ok-Ends-clause-refused
returns-in-Ok-Ends-clause-refused c = search rules

pub returns-in-Ok-Repeats-clause-refused : goal.returns-in-Ok-Repeats-clause-refused
returns-in-Ok-Repeats-clause-refused c = search rules
