use Rattle.std.proofs.Common.{ap, sym, ◌∙◌}
use Rattle.std.specs.Option.{option_map}
use Rattle.icu_locale.specs.LikelyTable.{row_at}
use Rattle.icu_locale.specs.inner.SettledRows.{map_rows}
use Rattle.icu_locale.proofs.expander.looks.LikelyMaps.row_at.Goals as goal

-- the value that was found is between the key's own subtags
pub returns-in_ok-script-in-LanguageRegion : goal.returns-in_ok-script-in-LanguageRegion
returns-in_ok-script-in-LanguageRegion c = ap (option_map (λ s. (c.in-LanguageRegion.language, s, c.in-LanguageRegion.region)))
    (sym c.in_ok-script-in-LanguageRegion.was ∙ c.value_at.ensures) ∙ ap (row_at (map_rows c.args.self.now)) (sym c.in-LanguageRegion.is)

pub returns-in_ok-region-in-LanguageScript : goal.returns-in_ok-region-in-LanguageScript
returns-in_ok-region-in-LanguageScript c = ap (option_map (λ r. (c.in-LanguageScript.language, c.in-LanguageScript.script, r)))
    (sym c.in_ok-region-in-LanguageScript.was ∙ c.value_at-in-LanguageScript.ensures) ∙ ap (row_at (map_rows c.args.self.now)) (sym c.in-LanguageScript.is)

pub returns-in_ok-language-in-ScriptRegion : goal.returns-in_ok-language-in-ScriptRegion
returns-in_ok-language-in-ScriptRegion c = ap (option_map (λ l. (l, c.in-ScriptRegion.script, c.in-ScriptRegion.region)))
    (sym c.in_ok-language-in-ScriptRegion.was ∙ c.value_at-in-ScriptRegion.ensures) ∙ ap (row_at (map_rows c.args.self.now)) (sym c.in-ScriptRegion.is)
