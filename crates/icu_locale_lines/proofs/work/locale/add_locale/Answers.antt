use Rattle.icu_locale_values.specs.Whole.{whole_rules}
use Rattle.icu_locale_lines.proofs.LineAnswers.{if_adds, canonical_from_value, canonical_from_read}
use Rattle.icu_locale_lines.proofs.work.locale.add_locale.Goals as goal

pub returns-then-has_value-clause-answer : goal.returns-then-has_value-clause-answer
returns-then-has_value-clause-answer c =
    if_adds _ _ (canonical_from_value (whole_rules c.args.canonicalizer) c.args.line.now c.has_value.result c.args.syntax c.has_value.ensures
    c.if-has_value.true) _ _ c.add_identifier_and_value.result c.add_identifier_and_value.ensures.answer

pub returns-clause-answer : goal.returns-clause-answer
returns-clause-answer c =
    if_adds _ _ (canonical_from_read (whole_rules c.args.canonicalizer) c.args.line.now c.has_value.result c.args.syntax c.has_value.ensures
    c.if-has_value.false) _ _ c.add_read.result c.add_read.ensures.answer
