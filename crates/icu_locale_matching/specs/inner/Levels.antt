-- The levels as the code holds them.
use Rattle.std.specs.Prelude.{◌≡◌, ℕ, ◌+◌, ◌<◌, ◌≤◌, Option, Some, None, if◌then◌else◌}
use Rattle.std.specs.Option.{option_eq}
use Rattle.std.specs.Str.{bytes_eq}
use Rattle.icu_provider.specs.declared.data_locale.DataLocale.{DataLocale}
use Rattle.icu_locale_matching.specs.Distance.{Level, Levels, level_distance, region_distance, share}
use Rattle.icu_locale_matching.specs.declared.limits.FavorSubtag.{FavorSubtag}
use Rattle.icu_locale_matching.specs.declared.distances.LentLevel.{LentLevel}
use Rattle.icu_locale_matching.specs.declared.distances.LentLevels.{LentLevels}

-- a level behind its reference
abbrev pub shown_level : LentLevel → Level
shown_level l = record { rules = l.rules.now; other = l.other }

-- the levels behind their references
abbrev pub shown : LentLevels → Levels
shown l = record {
  language = shown_level l.language;
  script = shown_level l.script;
  region = shown_level l.region;
  macros = l.macros.now;
}

-- the sum of the levels, where the distance of two languages counts by what is favored
abbrev pub distance_favoring : FavorSubtag → Levels → DataLocale → DataLocale → ℕ
distance_favoring favor levels d s =
    share favor (if bytes_eq d.language s.language then 0 else level_distance levels.language d s)
    + (if option_eq bytes_eq d.script s.script then 0 else level_distance levels.script d s)
    + (if option_eq bytes_eq d.region s.region then 0 else region_distance levels d s)

-- a number, if it is below a limit
abbrev pub IsBelow : ℕ → ℕ → Option ℕ → Type 0
IsBelow limit n None = limit ≤ n
IsBelow limit n (Some x) = (x ≡ n) × (n < limit)
