use Rattle.icu_locale_runs.specs.laws.Counts.{decided}
use Rattle.icu_locale_runs.specs.laws.Runs.{ends_with_no_repeat, end_is_unique, end_is_kept, EndsOrRepeats-universe}
use Rattle.icu_locale_runs.proofs.laws.runs_end_or_repeat.Goals as goal

pub returns-clause-one : goal.returns-clause-one
returns-clause-one g c = λ x universe. EndsOrRepeats-universe _ x (decided _ g.met.R.State.Eq.laws g.met.R.Rewriting.exact) _ universe

pub returns-clause-not_both : goal.returns-clause-not_both
returns-clause-not_both g c = λ x. ends_with_no_repeat _ x

pub returns-clause-one_end : goal.returns-clause-one_end
returns-clause-one_end g c = λ x. end_is_unique _ x

pub returns-clause-kept : goal.returns-clause-kept
returns-clause-kept g c = λ x. end_is_kept _ x
