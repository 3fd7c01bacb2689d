use Rattle.icu_locale.specs.Kinds.{next_of}
use Rattle.icu_locale.proofs.Canonicals.{end_or_repeat}
use Rattle.icu_locale_runs.specs.laws.Runs.{ends_with_no_repeat, end_is_unique, end_is_kept, repeat_is_unique}
use Rattle.icu_locale.proofs.laws.canonicalization.runs_end_or_repeat.Goals as goal

pub returns : goal.returns
returns c = record {
  one = end_or_repeat;
  not_both = λ likely rules transform x. ends_with_no_repeat (next_of likely rules transform) x;
  one_end = λ likely rules transform x. end_is_unique (next_of likely rules transform) x;
  kept = λ likely rules transform x. end_is_kept (next_of likely rules transform) x;
  one_repeat = λ likely rules transform x. repeat_is_unique (next_of likely rules transform) x;
}
