use Rattle.icu_locale_values.proofs.Stills.{whole_stays, whole_unapplied, whole_free}
use Rattle.icu_locale_values.proofs.laws.whole_form_stays.Goals as goal

pub returns : goal.returns
returns c = record { whole = whole_stays; unapplied = whole_unapplied; free = whole_free }
