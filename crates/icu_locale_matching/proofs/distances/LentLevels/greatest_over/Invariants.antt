use Rattle.std.proofs.Common.{◌≡◌, map, take, Some}
use Rattle.icu_locale_matching.specs.Distance.{level_distance, with_region, greatest}
use Rattle.icu_locale_matching.specs.inner.Levels.{shown_level}
use Rattle.icu_locale_matching.proofs.distances.LentLevels.greatest_over.Given as goal

abbrev pub invariant-loop-region : goal.invariant-loop-region
invariant-loop-region l = l.most ≡ greatest (map (λ r. level_distance (shown_level l.self.region) l.desired (with_region l.supported (Some r))) (take l.region-index l.row))
