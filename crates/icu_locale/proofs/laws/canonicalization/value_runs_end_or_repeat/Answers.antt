use Rattle.icu_locale.specs.Canonical.{next_value}
use Rattle.icu_locale_runs.specs.laws.Runs.{ends_with_no_repeat, end_is_unique, end_is_kept, repeat_is_unique}
use Rattle.icu_locale.proofs.Values.{value_end_or_repeat}
use Rattle.icu_locale.proofs.laws.canonicalization.value_runs_end_or_repeat.Goals as goal

pub returns : goal.returns
returns c = record {
  one = value_end_or_repeat;
  not_both = λ rules v. ends_with_no_repeat (next_value rules) v;
  one_end = λ rules v. end_is_unique (next_value rules) v;
  kept = λ rules v. end_is_kept (next_value rules) v;
  one_repeat = λ rules v. repeat_is_unique (next_value rules) v;
}
