use Rattle.icu_locale.proofs.Lengths.{third_letter}
use Rattle.icu_locale.proofs.canonicalizer.kinds.has_two_letters.Goals as goal

pub returns : goal.returns
returns c = third_letter c.args.language.now c.number.result c.number.ensures c.as_str.ensures.known
