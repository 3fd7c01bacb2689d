use Rattle.icu_locale_fallback.proofs.Again.{data_key_again}
use Rattle.icu_locale_fallback.proofs.laws.keys_stay.Goals as goal

pub returns : goal.returns
returns c = data_key_again
