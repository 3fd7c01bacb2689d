use Rattle.icu_provider.proofs.Bounds.{has_character_at}
use Rattle.icu_provider.proofs.exemplars.ranges.CharacterRanges.contains.Goals as goal

pub returns : goal.returns
returns c = has_character_at c.args.character c.args.self.now c.passed-place.result c.passed-place.ensures.even c.passed-place.ensures.place
