use Rattle.std.proofs.Common.{ap, IfOk, refl, subst, sym, ◌∙◌}
use Rattle.icu_locale_lines.specs.Answers.{AddsLine}
use Rattle.icu_locale_lines.specs.Subtags.{IsToldLine, language_line, language_name}
use Rattle.icu_locale_lines.proofs.LineAnswers.{if_adds}
use Rattle.icu_locale_lines.proofs.ToldLines.{language_named, when_true}
use Rattle.icu_locale_lines.proofs.work.subtag_line.add_if_language.Goals as goal

pub returns-in-Ok-clause-answer : goal.returns-in-Ok-clause-answer
returns-in-Ok-clause-answer c =
    let n = c.args.naming.now in
    subst (λ told. IfOk c.add_language.result (AddsLine (IsToldLine told) c.args.text.now.items c.add_language.new.text.items))
    (ap (λ x. language_line (language_name n c.args.chain x)) c.in-Ok.ensures.read ∙ sym (when_true _ _ _ (c.in-Ok.ensures.accepted.0 refl)))
    (if_adds _ _ (language_named (language_name n c.args.chain c.in-Ok.language)) _ _ c.add_language.result c.add_language.ensures.answer)
