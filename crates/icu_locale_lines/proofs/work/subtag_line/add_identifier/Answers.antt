use Rattle.std.proofs.Common.{subst, inl, inr}
use Rattle.icu_locale_lines.specs.Names.{IsNamedLine}
use Rattle.icu_locale_lines.proofs.LineAnswers.{if_adds, if_unnamed}
use Rattle.icu_locale_lines.proofs.work.subtag_line.add_identifier.Goals as goal

-- a refusal is that of the name, or for want of memory, which has no line
pub returns-in-Err-clause-answer : goal.returns-in-Err-clause-answer
returns-in-Err-clause-answer c = elim c.in-Err.ensures [
  | inl given ↦ if_adds _ _ (λ t a h. subst (λ name. IsNamedLine name t a) given h) _ _ c.add_nameless.result c.add_nameless.ensures.answer
  | inr lacks ↦ if_unnamed c.in-Err.refusal lacks.refused _ _ _ c.add_nameless.result c.add_nameless.ensures.told
]
