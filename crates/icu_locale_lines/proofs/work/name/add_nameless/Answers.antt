use Rattle.std.proofs.Common.{sym, ap, ◌∙◌}
use Rattle.icu_locale_lines.specs.Texts.{refused_line}
use Rattle.icu_provider.specs.Provider.{kind_name}
use Rattle.icu_locale_lines.proofs.LineAnswers.{if_adds}
use Rattle.icu_locale_lines.proofs.work.name.add_nameless.Goals as goal

pub returns-in-IdentifierNotFound-clause-answer : goal.returns-in-IdentifierNotFound-clause-answer
returns-in-IdentifierNotFound-clause-answer c =
    if_adds _ _ (λ t a h. (h.0 ∙ ap (λ kind. refused_line (kind_name kind)) (sym c.in-IdentifierNotFound.is), h.1)) _ _ c.add_known.result
    c.add_known.ensures.answer
