use Rattle.icu_locale_full_names.proofs.Bare.{bare_identifier}
use Rattle.icu_locale_full_names.proofs.laws.identifiers_keep_their_names.Goals as goal

pub returns : goal.returns
returns c = bare_identifier
