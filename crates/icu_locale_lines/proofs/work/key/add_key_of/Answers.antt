use Rattle.std.proofs.Common.{inl, inr}
use Rattle.icu_locale_lines.proofs.LineAnswers.{if_adds}
use Rattle.icu_locale_lines.proofs.work.key.add_key_of.Goals as goal

-- the line of the key
pub returns-in-Ok-clause-answer : goal.returns-in-Ok-clause-answer
returns-in-Ok-clause-answer c = if_adds _ _ (λ t a h. inl (c.bring_whole_to_key.new.locale, c.in-Ok.changed, c.in-Ok.ensures.key, c.in-Ok.ensures.told, h.0, h.1))
    _ _ c.add_changed.result c.add_changed.ensures.answer

-- and of why there is none
pub returns-in-Err-clause-answer : goal.returns-in-Err-clause-answer
returns-in-Err-clause-answer c = if_adds _ _ (λ t a h. inr (c.in-Err.refusal, c.in-Err.ensures.refused, h))
    _ _ c.add_refusal.result c.add_refusal.ensures.answer
