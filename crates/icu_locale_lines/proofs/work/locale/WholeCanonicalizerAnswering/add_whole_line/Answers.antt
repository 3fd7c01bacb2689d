use Rattle.std.proofs.Common.{inl, inr, ap, ◌∙◌}
use Rattle.icu_locale_lines.specs.Texts.{whole_line}
use Rattle.icu_locale_lines.proofs.LineAnswers.{if_adds}
use Rattle.icu_locale_lines.proofs.work.locale.WholeCanonicalizerAnswering.add_whole_line.Goals as goal

-- the line of the whole canonical form
pub returns-in-Ok-clause-answer : goal.returns-in-Ok-clause-answer
returns-in-Ok-clause-answer c =
    let new = c.bring_to_canonical.new.whole in
    if_adds _ _ (λ t a h. inl (
      new,
      c.in-Ok.ensures.form,
      (h.0 ∙ ap (whole_line new) c.in-Ok.ensures.changed, h.1),
    )) _ _ c.add_changed.result c.add_changed.ensures.answer

-- the line of what came again
pub returns-in-Err-clause-answer : goal.returns-in-Err-clause-answer
returns-in-Err-clause-answer c =
    if_adds _ _ (λ t a h. inr (c.in-Err.refusal, c.in-Err.ensures.refused, h)) _ _ c.add_refusal.result c.add_refusal.ensures.answer
