use Rattle.icu_locale_lines.specs.Chains.{IsChained}
use Rattle.icu_locale_lines.specs.Lists.{IsFaultIn}
use Rattle.icu_locale_lines.proofs.LineAnswers.{if_adds, if_fault, answer_in, refused_in}
use Rattle.icu_locale_lines.proofs.work.fallback.add_chain.Goals as goal

pub returns-in-Ok-clause-answer : goal.returns-in-Ok-clause-answer
returns-in-Ok-clause-answer c =
    if_adds _ _ (answer_in (IsChained c.args.fallbacker.now) c.args.line.now c.args.syntax c.in-Ok.identifier c.in-Ok.ensures.read) _ _
    c.add_chain_of.result c.add_chain_of.ensures.answer

pub returns-in-Err-clause-answer : goal.returns-in-Err-clause-answer
returns-in-Err-clause-answer c =
    if_fault _ c.in-Err.refusal (IsFaultIn c.args.syntax c.args.line.now c.in-Err.refusal) c.in-Err.ensures.refused
    (refused_in (IsChained c.args.fallbacker.now) c.args.line.now c.args.syntax c.in-Err.refusal) _ _ c.add_fault.result
    c.add_fault.ensures.answer c.add_fault.ensures.told
