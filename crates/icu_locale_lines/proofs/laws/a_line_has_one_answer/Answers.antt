use Rattle.icu_locale.specs.LikelySubtags.{LikelySubtags}
use Rattle.icu_locale.specs.declared.canonicalizer.rules.Rules.{Rules}
use Rattle.icu_locale_extensions.specs.declared.syntax.Syntax.TheVariants.{Unicode}
use Rattle.icu_locale_lines.proofs.OneAnswer.{CanonicalFacts, KeyFacts, WholeFacts, answer_by_one}
use Rattle.icu_locale_lines.proofs.PlacedAnswers.{answer_at_one}
use Rattle.icu_locale_lines.proofs.Readings.{SpellingFacts, whole_once}
use Rattle.icu_locale_lines.proofs.laws.a_line_has_one_answer.Goals as goal

pub returns : goal.returns
returns c = λ work line one two a b h k.
    let form = c.canonical_form_is_one.ensures in
    let facts : (likely : LikelySubtags) (rules : Rules) → CanonicalFacts likely rules = λ likely rules. record {
      one = form.one likely rules;
      refused = form.refused likely rules;
      apart = form.apart likely rules;
    } in
    let wholes : WholeFacts = record {
      one = c.whole_form_is_one.ensures.one;
      none = λ by old new e is why. c.whole_where_runs_end.ensures.refused by old e (c.whole_where_runs_end.ensures.ends by old new is) why;
      once = c.a_refusal_is_one.ensures;
    } in
    let keys : KeyFacts = record {
      one = c.whole_key_is_one.ensures.one;
      none = c.whole_key_is_one.ensures.not_both;
      once = c.whole_key_is_one.ensures.one_reason;
    } in
    let spelling : SpellingFacts = record {
      alone = c.spelled_once.ensures;
      read = c.spelled_is_read.ensures;
      faults = c.reading_is_by_the_grammar.ensures.faults;
    } in
    answer_at_one line (whole_once spelling Unicode) (c.a_fault_has_one_place.ensures line) work.syntax work.tools (λ one two a b h k.
    let answers = answer_by_one spelling c.minimal_form_is_one.ensures.one facts wholes keys c.what_is_served_is_one.ensures
    c.the_nearest_to_requests_is_one.ensures c.named_keys_are_one.ensures line one two a b work.syntax work.tools h k in
    (answers.text, answers.accepted)) work.places one two a b h k
