use Rattle.std.proofs.Common.{◌∷◌, [], arith}
use Rattle.icu_locale_core.proofs.Padding.{IsPadded-padded, unpadded-zeros}
use Rattle.icu_locale_core.proofs.tiny.TinyText+4.of_four.Goals as goal

-- four characters leave no room for zeros
pub invariant_of-result : goal.invariant_of-result
invariant_of-result c = IsPadded-padded 4 (c.args.first ∷ c.args.second ∷ c.args.third ∷ c.args.fourth ∷ []) (omega arith) c.requires (omega arith)

pub returns : goal.returns
returns c = unpadded-zeros (c.args.first ∷ c.args.second ∷ c.args.third ∷ c.args.fourth ∷ []) 0 c.requires
