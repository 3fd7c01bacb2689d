use Rattle.icu_locale.specs.LikelyTable.{likely}
use Rattle.icu_locale.specs.RuleSet.{lent}
use Rattle.icu_locale_lines.specs.Texts.{canonical_line}
use Rattle.icu_locale_lines.proofs.LineAnswers.{if_adds, canonicalized_from_line, refused_from_line}
use Rattle.icu_locale_lines.proofs.work.value.add_canonical.Goals as goal

pub returns-in-Ok-clause-answer : goal.returns-in-Ok-clause-answer
returns-in-Ok-clause-answer c =
    if_adds _ _ (canonicalized_from_line canonical_line (likely c.args.canonicalizer.now.expander)
    (lent c.args.canonicalizer.now.rules) c.args.locale.now c.canonicalize.new.locale c.in-Ok.changed c.in-Ok.ensures.outcome.canonical
    c.in-Ok.ensures.outcome.answer) _ _ c.add_locale_line.result c.add_locale_line.ensures.answer

pub returns-in-Err-clause-answer : goal.returns-in-Err-clause-answer
returns-in-Err-clause-answer c =
    let rules = c.args.canonicalizer.now in
    if_adds _ _ (λ t a h. refused_from_line canonical_line (likely rules.expander) (lent rules.rules) c.args.locale.now c.in-Err.refusal
    c.in-Err.ensures.outcome.refusal t a (c.of_rules.ensures t a h)) _ _ c.add_refusal.result c.add_refusal.ensures.answer
