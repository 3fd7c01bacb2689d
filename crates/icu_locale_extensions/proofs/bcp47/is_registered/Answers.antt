use Rattle.icu_locale_extensions.specs.ExtendedLanguages.{extended_languages}
use Rattle.icu_locale_extensions.specs.Syntaxes.{is_registered}
use Rattle.icu_locale_extensions.proofs.bcp47.is_registered.Goals as goal

-- the rows are those of the definition
pub returns : goal.returns
unfolding is_registered extended_languages
returns c = c.has_row.ensures
