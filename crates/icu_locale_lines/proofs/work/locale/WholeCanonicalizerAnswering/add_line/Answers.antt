use Rattle.icu_locale.specs.Canonical.{without_extensions}
use Rattle.icu_locale.specs.LikelyTable.{likely}
use Rattle.icu_locale.specs.RuleSet.{lent}
use Rattle.icu_locale_lines.specs.Texts.{canonical_line}
use Rattle.icu_locale_lines.proofs.LineAnswers.{if_adds, canonicalized_from_line, refused_from_line}
use Rattle.icu_locale_lines.proofs.work.locale.WholeCanonicalizerAnswering.add_line.Goals as goal

pub returns-in-Ok-clause-answer : goal.returns-in-Ok-clause-answer
returns-in-Ok-clause-answer c =
    let rules = c.args.self.now.rules in
    if_adds _ _ (canonicalized_from_line canonical_line (likely rules.expander) (lent rules.rules) (without_extensions c.args.identifier.now)
    (without_extensions c.canonicalize_identifier.new.id) c.in-Ok.changed c.in-Ok.ensures.canonical c.in-Ok.ensures.answer) _ _
    c.add_changed.result c.add_changed.ensures.answer

pub returns-in-Err-clause-answer : goal.returns-in-Err-clause-answer
returns-in-Err-clause-answer c =
    let rules = c.args.self.now.rules in
    if_adds _ _ (λ t a h. refused_from_line canonical_line (likely rules.expander) (lent rules.rules) (without_extensions c.args.identifier.now)
    c.in-Err.refusal c.in-Err.ensures.refusal t a (c.of_rules.ensures t a h)) _ _ c.add_refusal.result c.add_refusal.ensures.answer
