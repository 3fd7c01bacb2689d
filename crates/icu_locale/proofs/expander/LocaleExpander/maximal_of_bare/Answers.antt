use Rattle.std.proofs.Common.{◌∙◌}
use Rattle.icu_locale.proofs.expander.LocaleExpander.maximal_of_bare.Goals as goal

-- what is missing is taken from the row
pub returns-in-Some : goal.returns-in-Some
returns-in-Some c = c.fill_in.ensures.value ∙ c.in-Some.ensures.fills
