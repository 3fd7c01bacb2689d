use Rattle.std.proofs.Common.{inl, inr}
use Rattle.icu_locale_lines.specs.Lists.{listed, IsFirstFault}
use Rattle.icu_locale_lines.proofs.LineAnswers.{if_adds, if_fault}
use Rattle.icu_locale_lines.proofs.work.serve.add_resolved.Goals as goal

pub returns-in-Ok-clause-answer : goal.returns-in-Ok-clause-answer
returns-in-Ok-clause-answer c =
    if_adds _ _ (λ t a h. inl (c.in-Ok.wanted.items, c.in-Ok.ensures.read, h)) _ _ c.add_resolved_for.result c.add_resolved_for.ensures.answer

pub returns-in-Err-clause-answer : goal.returns-in-Err-clause-answer
returns-in-Err-clause-answer c =
    if_fault _ c.in-Err.refusal (IsFirstFault c.args.syntax (listed c.args.line.now) c.in-Err.refusal) c.in-Err.ensures.refused
    (λ t a fault text failed. inr (c.in-Err.refusal, fault, text, failed)) _ _ c.add_fault.result c.add_fault.ensures.answer c.add_fault.ensures.told
