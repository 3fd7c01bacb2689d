use Rattle.icu_locale_matching.proofs.Wished.{unread_alike}
use Rattle.icu_locale_matching.proofs.laws.what_cannot_be_read_changes_nothing.Goals as goal

pub returns : goal.returns
returns c = unread_alike
