use Rattle.std.proofs.Common.{ap, IfOk, subst, sym, ◌∙◌}
use Rattle.icu_locale_lines.specs.Answers.{AddsLine}
use Rattle.icu_locale_lines.specs.Subtags.{IsToldLine, told_by}
use Rattle.icu_locale_lines.proofs.ToldLines.{subtag_told}
use Rattle.icu_locale_lines.proofs.work.subtag_line.add_subtag_name.Goals as goal

pub returns-in-Language-clause-answer : goal.returns-in-Language-clause-answer
returns-in-Language-clause-answer c = subst (λ told. IfOk c.add_if_language.result (AddsLine (IsToldLine told) c.args.text.now.items c.add_if_language.new.text.items))
    (ap (λ k. told_by c.args.naming.now k c.in-Some.word.now) (sym c.in-Language.is)
    ∙ subtag_told c.args.naming.now c.args.line.now c.in-Some.word.now c.in-Some.ensures.0 c.in-Some.ensures.1) c.add_if_language.ensures.answer

pub returns-in-Script-clause-answer : goal.returns-in-Script-clause-answer
returns-in-Script-clause-answer c = subst (λ told. IfOk c.add_if_script.result (AddsLine (IsToldLine told) c.args.text.now.items c.add_if_script.new.text.items))
    (ap (λ k. told_by c.args.naming.now k c.in-Some.word.now) (sym c.in-Script.is)
    ∙ subtag_told c.args.naming.now c.args.line.now c.in-Some.word.now c.in-Some.ensures.0 c.in-Some.ensures.1) c.add_if_script.ensures.answer

pub returns-in-Region-clause-answer : goal.returns-in-Region-clause-answer
returns-in-Region-clause-answer c = subst (λ told. IfOk c.add_if_region.result (AddsLine (IsToldLine told) c.args.text.now.items c.add_if_region.new.text.items))
    (ap (λ k. told_by c.args.naming.now k c.in-Some.word.now) (sym c.in-Region.is)
    ∙ subtag_told c.args.naming.now c.args.line.now c.in-Some.word.now c.in-Some.ensures.0 c.in-Some.ensures.1) c.add_if_region.ensures.answer

pub returns-in-Variant-clause-answer : goal.returns-in-Variant-clause-answer
returns-in-Variant-clause-answer c = subst (λ told. IfOk c.add_if_variant.result (AddsLine (IsToldLine told) c.args.text.now.items c.add_if_variant.new.text.items))
    (ap (λ k. told_by c.args.naming.now k c.in-Some.word.now) (sym c.in-Variant.is)
    ∙ subtag_told c.args.naming.now c.args.line.now c.in-Some.word.now c.in-Some.ensures.0 c.in-Some.ensures.1) c.add_if_variant.ensures.answer
