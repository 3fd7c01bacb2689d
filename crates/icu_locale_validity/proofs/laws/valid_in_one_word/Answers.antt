use Rattle.icu_locale_validity.proofs.WholeLaws.{one_word}
use Rattle.icu_locale_validity.proofs.laws.valid_in_one_word.Goals as goal

pub returns : goal.returns
returns c = one_word
