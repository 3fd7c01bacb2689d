use Rattle.std.proofs.Common.{inl, inr, subst}
use Rattle.icu_locale.specs.LikelyTable.{likely}
use Rattle.icu_locale_lines.specs.Lists.{listed, IsFirstFault}
use Rattle.icu_locale_lines.specs.Serving.{IsDistanceLine}
use Rattle.icu_locale_lines.proofs.LineAnswers.{if_adds, if_fault}
use Rattle.icu_locale_lines.proofs.work.serve.add_distance.Goals as goal

pub returns-in-Ok-clause-answer : goal.returns-in-Ok-clause-answer
returns-in-Ok-clause-answer c =
    if_adds _ _ (λ t a h. inl (
      c.in-Ok.identifiers.items,
      c.in-Ok.ensures.read,
      subst (λ list. IsDistanceLine c.args.matching.now (likely c.args.expander.now) list t a) c.deref.ensures.value h,
    )) _ _ c.add_distance_of.result c.add_distance_of.ensures.answer

pub returns-in-Err-clause-answer : goal.returns-in-Err-clause-answer
returns-in-Err-clause-answer c =
    if_fault _ c.in-Err.refusal (IsFirstFault c.args.syntax (listed c.args.line.now) c.in-Err.refusal) c.in-Err.ensures.refused
    (λ t a fault text failed. inr (c.in-Err.refusal, fault, text, failed)) _ _ c.add_fault.result c.add_fault.ensures.answer c.add_fault.ensures.told
