use Rattle.icu_locale_matching.proofs.Choices.{chosen_may}
use Rattle.icu_locale_matching.proofs.laws.what_is_chosen_may_be.Goals as goal

pub returns : goal.returns
returns c = chosen_may
