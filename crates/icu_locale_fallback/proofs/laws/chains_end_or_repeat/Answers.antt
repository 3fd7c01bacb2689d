use Rattle.icu_locale_runs.specs.laws.Runs.{ends_with_no_repeat, end_is_kept}
use Rattle.icu_locale_fallback.specs.Fallback.{next}
use Rattle.icu_locale_fallback.proofs.Lengths.{end_or_repeat}
use Rattle.icu_locale_fallback.proofs.laws.chains_end_or_repeat.Goals as goal

pub returns-clause-one : goal.returns-clause-one
returns-clause-one c = end_or_repeat

pub returns-clause-not_both : goal.returns-clause-not_both
returns-clause-not_both c = λ by x. ends_with_no_repeat (next by) x

pub returns-clause-kept : goal.returns-clause-kept
returns-clause-kept c = λ by x. end_is_kept (next by) x
