use Rattle.std.proofs.Common.{sym, ◌∙◌}
use Rattle.icu_locale.proofs.Rows.{region_drops, region_stays}
use Rattle.icu_locale.proofs.expander.LocaleExpander.region_first_of_region.Goals as goal

pub returns-then-drops_region : goal.returns-then-drops_region
returns-then-drops_region c = c.locale_with.ensures ∙ region_drops _ _ c.requires.known _ c.requires.region
    (sym c.drops_region.ensures ∙ c.if-drops_region.true)

pub returns : goal.returns
returns c = c.locale_with-2.ensures ∙ region_stays _ _ c.requires.known _ c.requires.region
    (sym c.drops_region.ensures ∙ c.if-drops_region.false)
