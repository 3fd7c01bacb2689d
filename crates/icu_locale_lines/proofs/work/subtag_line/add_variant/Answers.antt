use Rattle.std.proofs.Common.{ap, IfOk, Ok, subst, sym, ◌∙◌}
use Rattle.icu_locale_lines.specs.Answers.{AddsLine}
use Rattle.icu_locale_lines.specs.Subtags.{IsToldLine, subtag_line}
use Rattle.icu_locale_lines.proofs.work.subtag_line.add_variant.Goals as goal

pub returns-in-Ok-clause-answer : goal.returns-in-Ok-clause-answer
returns-in-Ok-clause-answer c = subst (λ named. IfOk c.add_given.result
    (AddsLine (IsToldLine (subtag_line c.args.variant named)) c.args.text.now.items c.add_given.new.text.items))
    (ap (λ t. Ok t) c.as_borrowed.ensures ∙ sym c.in-Ok.is ∙ c.try_new_heavy_unstable.ensures) (c.add_given.ensures.answer c.args.variant)
