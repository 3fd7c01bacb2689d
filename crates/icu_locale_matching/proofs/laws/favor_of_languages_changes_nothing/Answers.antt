use Rattle.icu_locale_matching.proofs.Favors.{favor_of_languages}
use Rattle.icu_locale_matching.proofs.laws.favor_of_languages_changes_nothing.Goals as goal

pub returns-clause-question : goal.returns-clause-question
returns-clause-question c = favor_of_languages
