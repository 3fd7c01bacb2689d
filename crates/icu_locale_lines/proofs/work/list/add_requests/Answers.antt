use Rattle.std.proofs.Common.{inl, inr, subst}
use Rattle.icu_locale_lines.specs.Lists.{listed, IsFirstFault, IsNegotiatedLine}
use Rattle.icu_locale_lines.proofs.LineAnswers.{if_adds, if_fault}
use Rattle.icu_locale_lines.proofs.work.list.add_requests.Goals as goal

pub returns-in-Ok-clause-answer : goal.returns-in-Ok-clause-answer
returns-in-Ok-clause-answer c =
    if_adds _ _ (λ t a h. inl (
      c.in-Ok.requests.items,
      c.in-Ok.ensures.read,
      subst (λ list. IsNegotiatedLine c.args.negotiator.now c.args.offered.now.wholes.items list t a) c.deref.ensures.value h,
    )) _ _ c.add_negotiated.result c.add_negotiated.ensures.answer

pub returns-in-Err-clause-answer : goal.returns-in-Err-clause-answer
returns-in-Err-clause-answer c =
    if_fault _ c.in-Err.refusal (IsFirstFault c.args.syntax (listed c.args.line.now) c.in-Err.refusal) c.in-Err.ensures.refused
    (λ t a fault text failed. inr (c.in-Err.refusal, fault, text, failed)) _ _ c.add_fault.result c.add_fault.ensures.answer c.add_fault.ensures.told
