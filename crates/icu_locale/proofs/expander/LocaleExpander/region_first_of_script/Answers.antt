use Rattle.std.proofs.Common.{refl, ap, sym, ◌∙◌}
use Rattle.std.specs.Option.{option_or}
use Rattle.icu_locale.proofs.Rows.{bare_from_test, gone_from_test, region_taken, region_fails, region_unknown}
use Rattle.icu_locale.proofs.expander.LocaleExpander.region_first_of_script.Goals as goal

-- the region that is filled in stands for none
pub returns-then-is_unknown : goal.returns-then-is_unknown
returns-then-is_unknown c =
    let found = ap (λ own. option_or own c.row_at-plain.result) (sym c.row_at-own.ensures) ∙ sym c.or.ensures ∙ c.in-Some.is in
    let gone = gone_from_test _ c.in-Some.row.2 c.is_unknown.result c.is_unknown.ensures c.if-is_unknown.true in
    c.locale_with-then-is_unknown.ensures ∙ region_unknown _ _ c.requires.known _ (sym c.row_at-plain.ensures) _ _
    (sym c.gives.ensures ∙ c.if-gives.false) c.requires.script c.in-Some.row found refl gone

-- the language with the region has the script
pub returns-then-region_leads : goal.returns-then-region_leads
returns-then-region_leads c =
    let found = ap (λ own. option_or own c.row_at-plain.result) (sym c.row_at-own.ensures) ∙ sym c.or.ensures ∙ c.in-Some.is in
    let bare = bare_from_test _ c.in-Some.row.2 c.is_unknown.result c.is_unknown.ensures c.if-is_unknown.false in
    c.locale_with-then-region_leads.ensures ∙ region_taken _ _ c.requires.known _ (sym c.row_at-plain.ensures) _ _
    (sym c.gives.ensures ∙ c.if-gives.false) c.requires.script c.in-Some.row found refl bare (sym c.region_leads.ensures ∙ c.if-region_leads.true)

-- it has another one
pub returns : goal.returns
returns c =
    let found = ap (λ own. option_or own c.row_at-plain.result) (sym c.row_at-own.ensures) ∙ sym c.or.ensures ∙ c.in-Some.is in
    let bare = bare_from_test _ c.in-Some.row.2 c.is_unknown.result c.is_unknown.ensures c.if-is_unknown.false in
    c.locale_with-2.ensures ∙ region_fails _ _ c.requires.known _ (sym c.row_at-plain.ensures) _ _
    (sym c.gives.ensures ∙ c.if-gives.false) c.requires.script c.in-Some.row found refl bare (sym c.region_leads.ensures ∙ c.if-region_leads.false)
