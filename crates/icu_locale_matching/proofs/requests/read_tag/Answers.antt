use Rattle.std.proofs.Common.{sym, ◌∙◌}
use Rattle.icu_locale_extensions.specs.declared.syntax.Syntax.TheVariants.{Bcp47}
use Rattle.icu_locale_matching.proofs.requests.read_tag.Goals as goal

-- what is refused spells nothing
pub returns-in-Err-InvalidLanguage : goal.returns-in-Err-InvalidLanguage
returns-in-Err-InvalidLanguage c = λ x is.
    let e = c.in-Err-InvalidLanguage.field-0 in
    c.refusals_are_faults.ensures.nothing Bcp47 c.args.range.now e x
    (c.refusals_are_faults.ensures.told Bcp47 c.args.range.now e c.in-Err-InvalidLanguage.ensures (λ m. cc (sym c.in-Err-InvalidLanguage.field-0-is ∙ m))) is.1

pub returns-in-Err-InvalidSubtag : goal.returns-in-Err-InvalidSubtag
returns-in-Err-InvalidSubtag c = λ x is.
    let e = c.in-Err-InvalidSubtag.field-0 in
    c.refusals_are_faults.ensures.nothing Bcp47 c.args.range.now e x
    (c.refusals_are_faults.ensures.told Bcp47 c.args.range.now e c.in-Err-InvalidSubtag.ensures (λ m. cc (sym c.in-Err-InvalidSubtag.field-0-is ∙ m))) is.1
