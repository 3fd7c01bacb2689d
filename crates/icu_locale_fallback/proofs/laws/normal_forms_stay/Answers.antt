use Rattle.icu_locale_fallback.proofs.Again.{normal_again, other_again}
use Rattle.icu_locale_fallback.proofs.laws.normal_forms_stay.Goals as goal

pub returns : goal.returns
returns c = record { same = normal_again; not_by_region = other_again }
