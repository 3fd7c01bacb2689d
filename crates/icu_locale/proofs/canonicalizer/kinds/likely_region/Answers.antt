use Rattle.std.proofs.Common.{rules}
use Rattle.icu_locale.specs.Kinds.{likely_region}
use Rattle.icu_locale.proofs.canonicalizer.kinds.likely_region.Goals as goal

pub returns : goal.returns
unfolding likely_region
returns c = search rules
