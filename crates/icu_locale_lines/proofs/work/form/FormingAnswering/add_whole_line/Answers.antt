use Rattle.icu_locale_lines.proofs.LineAnswers.{if_adds}
use Rattle.icu_locale_lines.proofs.work.form.FormingAnswering.add_whole_line.Goals as goal

pub returns-clause-answer : goal.returns-clause-answer
returns-clause-answer c = let form = c.apply-changed in
    if_adds _ _ (λ t a h. (form.new.identifier, form.result, form.ensures, h.0, h.1)) _ _ c.add_changed.result c.add_changed.ensures.answer
