use Rattle.std.proofs.Common.{ap, subst, ◌∙◌}
use Rattle.icu_locale_core.specs.TextSet.{text_cmp}
use Rattle.icu_locale_values.specs.Aliases.{next_keyword}
use Rattle.icu_locale_values.specs.Whole.{is_any_followed}
use Rattle.icu_locale_values.specs.Refusals.{IsFirstRepeat}
use Rattle.icu_locale_values.specs.inner.Counted.{CountsValues}
use Rattle.icu_locale_values.specs.inner.Walked.{AreLaterEnds}
use Rattle.icu_locale_values.proofs.canonicalizer.WholeCanonicalizer.keyword_ends.Goals as goal

pub returns-in-Ok-clause-ends : goal.returns-in-Ok-clause-ends
returns-in-Ok-clause-ends c =
    subst (λ rows. AreLaterEnds text_cmp (next_keyword c.args.self.now.values.keywords.now) rows c.in-Ok.ends.items) c.iter.ensures c.in-Ok.ensures.ends

pub returns-in-Err-Repeats-clause-refusal : goal.returns-in-Err-Repeats-clause-refusal
returns-in-Err-Repeats-clause-refusal c =
    let refused = rw c.in-Err-Repeats.field-0-is at c.in-Err-Repeats.ensures.refused in
    subst (λ rows. IsFirstRepeat text_cmp (next_keyword c.args.self.now.values.keywords.now) rows c.in-Err-Repeats.key c.in-Err-Repeats.first)
    c.iter.ensures refused

pub returns-in-Err-Repeats-clause-free : goal.returns-in-Err-Repeats-clause-free
returns-in-Err-Repeats-clause-free c none =
    c.in-Err-Repeats.ensures.free (ap (is_any_followed (next_keyword c.args.self.now.values.keywords.now)) c.iter.ensures ∙ none)

-- the searches are those of the walk
pub returns-in-Ok-clause-count : goal.returns-in-Ok-clause-count
returns-in-Ok-clause-count c =
    subst (λ rows. CountsValues (next_keyword c.args.self.now.values.keywords.now) rows c.args.turns.now c.later_ends.new.turns) c.iter.ensures
    c.in-Ok.ensures.count

pub returns-in-Err-Memory-clause-count : goal.returns-in-Err-Memory-clause-count
returns-in-Err-Memory-clause-count c =
    subst (λ rows. CountsValues (next_keyword c.args.self.now.values.keywords.now) rows c.args.turns.now c.later_ends.new.turns) c.iter.ensures
    c.in-Err-Memory.ensures.count

pub returns-in-Err-Repeats-clause-count : goal.returns-in-Err-Repeats-clause-count
returns-in-Err-Repeats-clause-count c =
    subst (λ rows. CountsValues (next_keyword c.args.self.now.values.keywords.now) rows c.args.turns.now c.later_ends.new.turns) c.iter.ensures
    c.in-Err-Repeats.ensures.count
