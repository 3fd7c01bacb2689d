use Rattle.icu_locale.proofs.Canonicals.{nothing_to_copy}
use Rattle.icu_locale.proofs.laws.canonicalization.nothing_to_copy.Goals as goal

pub returns : goal.returns
returns c = nothing_to_copy
