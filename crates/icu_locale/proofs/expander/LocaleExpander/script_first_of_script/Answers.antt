use Rattle.std.proofs.Common.{sym, ◌∙◌}
use Rattle.icu_locale.proofs.Rows.{script_drops, script_stays}
use Rattle.icu_locale.proofs.expander.LocaleExpander.script_first_of_script.Goals as goal

pub returns-then-drops_script : goal.returns-then-drops_script
returns-then-drops_script c = c.locale_with.ensures ∙ script_drops _ _ c.requires.known _ c.requires.script
    (sym c.drops_script.ensures ∙ c.if-drops_script.true)

pub returns : goal.returns
returns c = c.locale_with-2.ensures ∙ script_stays _ _ c.requires.known _ c.requires.script
    (sym c.drops_script.ensures ∙ c.if-drops_script.false)
