use Rattle.std.proofs.Common.{inl, inr, sym, subst}
use Rattle.icu_locale_lines.specs.Answers.{IsNamedWith}
use Rattle.icu_locale_lines.proofs.LineAnswers.{if_adds}
use Rattle.icu_locale_lines.proofs.work.name.NamingAnswering.add_whole_line.Goals as goal

-- without rules what is written is named
pub returns-in-None-clause-answer : goal.returns-in-None-clause-answer
returns-in-None-clause-answer c =
    let n = c.args.self.now in
    if_adds _ _ (λ t a h. subst (λ by. IsNamedWith n by c.args.whole.now t a) (sym c.in-None.is) h) _ _ c.add_spelled.result c.add_spelled.ensures.answer

-- by rules the canonical form is
pub returns-in-Ok-clause-answer : goal.returns-in-Ok-clause-answer
returns-in-Ok-clause-answer c =
    let n = c.args.self.now in
    if_adds _ _ (λ t a h. subst (λ by. IsNamedWith n by c.args.whole.now t a) (sym c.in-Some.is)
    (inl (c.bring_to_canonical.new.whole, c.in-Ok.ensures.form, h))) _ _ c.add_spelled-in-Ok.result c.add_spelled-in-Ok.ensures.answer

pub returns-in-Err-clause-answer : goal.returns-in-Err-clause-answer
returns-in-Err-clause-answer c =
    let n = c.args.self.now in
    if_adds _ _ (λ t a h. subst (λ by. IsNamedWith n by c.args.whole.now t a) (sym c.in-Some.is)
    (inr (c.in-Err.refusal, c.in-Err.ensures.refused, h))) _ _ c.add_refusal.result c.add_refusal.ensures.answer
