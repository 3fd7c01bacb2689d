use Rattle.std.proofs.Common.{◌≡◌}
use Rattle.icu_locale_matching.specs.Distance.{level_distance}
use Rattle.icu_locale_matching.specs.inner.Levels.{shown_level}
use Rattle.icu_locale_matching.proofs.Firsts.{distance_from}
use Rattle.icu_locale_matching.proofs.distances.LentLevel.distance_known.Given as goal

abbrev pub invariant-loop-place : goal.invariant-loop-place
invariant-loop-place l = distance_from (shown_level l.self) l.desired l.supported l.place ≡ level_distance (shown_level l.self) l.desired l.supported
