use Rattle.std.proofs.Common.{◌≡◌, map, take, Some}
use Rattle.icu_locale_matching.specs.Distance.{greatest_to, with_region, greatest}
use Rattle.icu_locale_matching.specs.inner.Levels.{shown}
use Rattle.icu_locale_matching.proofs.distances.LentLevels.greatest_from.Given as goal

abbrev pub invariant-loop-region : goal.invariant-loop-region
invariant-loop-region l = l.most ≡ greatest (map (λ r. greatest_to (shown l.self) (with_region l.desired (Some r)) l.supported) (take l.region-index l.row))
