use Rattle.icu_locale_values.proofs.Stills.{maps_of, one_whole}
use Rattle.icu_locale_values.proofs.laws.whole_form_is_one.Goals as goal

pub returns-clause-one : goal.returns-clause-one
returns-clause-one c = one_whole

pub returns-clause-maps : goal.returns-clause-maps
returns-clause-maps c = maps_of
