use Rattle.std.proofs.Common.{refl, ap, sym, ◌∙◌}
use Rattle.std.specs.Option.{option_or}
use Rattle.icu_locale.proofs.Rows.{bare_from_test, script_taken, script_fails}
use Rattle.icu_locale.proofs.expander.LocaleExpander.script_first_of_region.Goals as goal

-- the language with the script has the region
pub returns-then-script_leads : goal.returns-then-script_leads
returns-then-script_leads c =
    let found = ap (λ own. option_or own c.row_at-plain.result) (sym c.row_at-own.ensures) ∙ sym c.or.ensures ∙ c.in-Some.is in
    let bare = bare_from_test _ c.in-Some.row.1 c.is_unknown.result c.is_unknown.ensures c.if-is_unknown.false in
    c.locale_with-then-script_leads.ensures ∙ script_taken _ _ c.requires.known _ (sym c.row_at-plain.ensures) _ _
    (sym c.gives.ensures ∙ c.if-gives.false) c.requires.region c.in-Some.row found refl bare (sym c.script_leads.ensures ∙ c.if-script_leads.true)

-- it has another one
pub returns : goal.returns
returns c =
    let found = ap (λ own. option_or own c.row_at-plain.result) (sym c.row_at-own.ensures) ∙ sym c.or.ensures ∙ c.in-Some.is in
    let bare = bare_from_test _ c.in-Some.row.1 c.is_unknown.result c.is_unknown.ensures c.if-is_unknown.false in
    c.locale_with-2.ensures ∙ script_fails _ _ c.requires.known _ (sym c.row_at-plain.ensures) _ _
    (sym c.gives.ensures ∙ c.if-gives.false) c.requires.region c.in-Some.row found refl bare (sym c.script_leads.ensures ∙ c.if-script_leads.false)
