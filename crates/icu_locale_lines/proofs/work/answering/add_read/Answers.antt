use Rattle.std.proofs.Common.{inl, inr, sym, subst}
use Rattle.icu_locale_lines.specs.Answers.{IsAnswerOf}
use Rattle.icu_locale_lines.specs.Lists.{IsFault}
use Rattle.icu_locale_lines.proofs.LineAnswers.{if_adds, if_fault}
use Rattle.icu_locale_lines.proofs.ListReading.{refusal_from_reading}
use Rattle.icu_locale_lines.proofs.work.answering.add_read.Goals as goal

pub returns-in-Ok-clause-answer : goal.returns-in-Ok-clause-answer
returns-in-Ok-clause-answer g c =
    let line = c.args.line.now in
    if_adds _ _ (λ t a h. subst (λ s. IsAnswerOf s (g.A.Answering.is_line c.args.answering.now) (g.A.Answering.is_whole_line c.args.answering.now) line t a)
    (sym c.in-None.is) (inl (c.in-Ok.identifier, c.in-Ok.ensures.found, h))) _ _ c.add_line.result c.add_line.ensures.answer

pub returns-in-Err-clause-answer : goal.returns-in-Err-clause-answer
returns-in-Err-clause-answer g c =
    let line = c.args.line.now in
    if_fault _ c.in-Err.refusal (IsFault line c.in-Err.refusal) (refusal_from_reading line c.in-Err.refusal c.in-Err.ensures)
    (λ t a fault text failed. subst (λ s. IsAnswerOf s (g.A.Answering.is_line c.args.answering.now) (g.A.Answering.is_whole_line c.args.answering.now) line t a)
    (sym c.in-None.is) (inr (c.in-Err.refusal, fault, text, failed))) _ _ c.add_fault.result
    c.add_fault.ensures.answer c.add_fault.ensures.told
