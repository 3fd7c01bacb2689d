use Rattle.std.proofs.Common.{subst, sym}
use Rattle.icu_locale_lines.specs.Answers.{IsAnswerBy}
use Rattle.icu_locale_lines.proofs.LineAnswers.{if_adds}
use Rattle.icu_locale_lines.proofs.work.Work.add_unplaced.Goals as goal

pub returns-in-Form-clause-answer : goal.returns-in-Form-clause-answer
returns-in-Form-clause-answer c =
    if_adds _ _ (λ t a h. subst (λ tools. IsAnswerBy c.args.self.now.syntax tools c.args.line.now t a) (sym c.in-Form.is) h) _ _
    c.add_form.result c.add_form.ensures.answer

pub returns-in-Key-clause-answer : goal.returns-in-Key-clause-answer
returns-in-Key-clause-answer c =
    if_adds _ _ (λ t a h. subst (λ tools. IsAnswerBy c.args.self.now.syntax tools c.args.line.now t a) (sym c.in-Key.is) h) _ _
    c.add_key.result c.add_key.ensures.answer
