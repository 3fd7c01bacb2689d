use Rattle.std.proofs.Common.{inl, inr}
use Rattle.icu_locale_extensions.specs.Syntaxes.{IsFaultBy}
use Rattle.icu_locale_lines.proofs.LineAnswers.{if_adds, if_fault}
use Rattle.icu_locale_lines.proofs.ListReading.{fault_from_reading}
use Rattle.icu_locale_lines.proofs.work.answering.add_spelled.Goals as goal

pub returns-in-Ok-clause-answer : goal.returns-in-Ok-clause-answer
returns-in-Ok-clause-answer g c =
    if_adds _ _ (λ t a h. inl (c.in-Ok.whole, c.in-Ok.ensures.found, h)) _ _ c.add_whole_line.result c.add_whole_line.ensures.answer

pub returns-in-Err-clause-answer : goal.returns-in-Err-clause-answer
returns-in-Err-clause-answer g c =
    if_fault _ c.in-Err.refusal (IsFaultBy c.args.syntax c.args.line.now c.in-Err.refusal)
    (fault_from_reading c.args.syntax c.args.line.now c.in-Err.refusal c.in-Err.ensures)
    (λ t a fault text failed. inr (c.in-Err.refusal, fault, text, failed)) _ _ c.add_fault.result c.add_fault.ensures.answer c.add_fault.ensures.told
