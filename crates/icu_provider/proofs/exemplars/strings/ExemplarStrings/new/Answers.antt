use Rattle.icu_provider.proofs.StringSets.{same_set_of}
use Rattle.icu_provider.proofs.exemplars.strings.ExemplarStrings.new.Goals as goal

-- a sort keeps the texts, so the set is the same
pub returns : goal.returns
returns c = same_set_of c.args.texts.items c.sort_unstable.new.self.items c.sort_unstable.ensures.permutation
