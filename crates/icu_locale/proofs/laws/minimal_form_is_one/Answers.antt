use Rattle.icu_locale.proofs.Classes.{minimal_form_exists}
use Rattle.icu_locale.proofs.laws.minimal_form_is_one.Goals as goal

pub returns-clause-exists : goal.returns-clause-exists
returns-clause-exists c = minimal_form_exists
