use Rattle.std.proofs.Common.{ap, ◌∙◌}
use Rattle.icu_locale_lines.specs.Answers.{IsDirected}
use Rattle.icu_locale_lines.specs.Lists.{IsFaultIn}
use Rattle.icu_locale_lines.specs.Texts.{direction_line}
use Rattle.icu_locale_lines.proofs.LineAnswers.{if_adds, if_fault, answer_in, refused_in}
use Rattle.icu_locale_lines.proofs.work.direction.add_direction.Goals as goal

pub returns-in-Ok-clause-answer : goal.returns-in-Ok-clause-answer
returns-in-Ok-clause-answer c =
    if_adds _ _ (λ t a h. answer_in (IsDirected c.args.directionality.now) c.args.line.now c.args.syntax c.in-Ok.identifier c.in-Ok.ensures.read t a
    (h.0 ∙ c.direction_line.ensures ∙ ap direction_line c.get.ensures, h.1)) _ _ c.add_known.result c.add_known.ensures.answer

pub returns-in-Err-clause-answer : goal.returns-in-Err-clause-answer
returns-in-Err-clause-answer c =
    if_fault _ c.in-Err.refusal (IsFaultIn c.args.syntax c.args.line.now c.in-Err.refusal) c.in-Err.ensures.refused
    (refused_in (IsDirected c.args.directionality.now) c.args.line.now c.args.syntax c.in-Err.refusal) _ _ c.add_fault.result
    c.add_fault.ensures.answer c.add_fault.ensures.told
