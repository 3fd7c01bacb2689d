use Rattle.std.proofs.Common.{sym, ◌∙◌}
use Rattle.icu_locale.proofs.Rows.{script_second, region_third, none_of_script_first}
use Rattle.icu_locale.proofs.expander.LocaleExpander.script_first_of_full.Goals as goal

pub returns-then-script_leads : goal.returns-then-script_leads
returns-then-script_leads c = c.locale_with-then-script_leads.ensures ∙ script_second _ _ c.requires.known _
    (sym c.row_at-plain.ensures) _ _ (sym c.gives.ensures ∙ c.if-gives.false) c.requires.script (sym c.script_leads.ensures ∙ c.if-script_leads.true)

pub returns-then-region_leads : goal.returns-then-region_leads
returns-then-region_leads c = c.locale_with-then-region_leads.ensures ∙ region_third _ _ c.requires.known _ (sym c.row_at-plain.ensures) _ _
    (sym c.gives.ensures ∙ c.if-gives.false) c.requires.script c.requires.region (sym c.script_leads.ensures ∙ c.if-script_leads.false)
    (sym c.region_leads.ensures ∙ c.if-region_leads.true)

pub returns : goal.returns
returns c = c.locale_with-2.ensures ∙ none_of_script_first _ _ c.requires.known _ (sym c.row_at-plain.ensures) _ _
    (sym c.gives.ensures ∙ c.if-gives.false) c.requires.script c.requires.region (sym c.script_leads.ensures ∙ c.if-script_leads.false)
    (sym c.region_leads.ensures ∙ c.if-region_leads.false)
