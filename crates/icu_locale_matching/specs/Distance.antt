-- The distance of a supported form from a desired one, by match rules (UTS #35 Part 1, section 4.4, Language Matching).
use Rattle.std.specs.Prelude.{◌≡◌, ℕ, ◌+◌, ◌/◌, ◌<◌, Bool, true, false, ◌&&◌, not, max, List, [], ◌∷◌, map, length, Option, Some, None, is_some, Vec, if◌then◌else◌}
use Rattle.std.specs.Global.{Global}
use Rattle.std.specs.List.{All, find}
use Rattle.std.specs.Option.{option_eq, option_map_or}
use Rattle.std.specs.Str.{bytes_eq}
use Rattle.std.specs.Vec.{with_items}
use Rattle.icu_locale_core.specs.TextSet.{text_cmp}
use Rattle.icu_locale_core.specs.Maps.{value_at}
use Rattle.icu_provider.specs.SortedMaps.{is_listed, regions_at}
use Rattle.icu_provider.specs.declared.data_locale.DataLocale.{DataLocale}
use Rattle.icu_provider.specs.declared.matching.RegionPattern.{RegionPattern}
use Rattle.icu_provider.specs.declared.matching.RegionPattern.TheVariants.{Any, In, NotIn}
use Rattle.icu_provider.specs.declared.matching.MatchPattern.{MatchPattern}
use Rattle.icu_provider.specs.declared.matching.MatchRule.{MatchRule}
use Rattle.icu_provider.specs.declared.matching.MatchRules.{MatchRules}
use Rattle.icu_provider.specs.declared.matching.LanguageMatching.{LanguageMatching}
use Rattle.icu_locale_matching.specs.declared.limits.FavorSubtag.{FavorSubtag}
use Rattle.icu_locale_matching.specs.declared.limits.FavorSubtag.TheVariants.{Language, Script}

-- `*` fits any script and none; a script fits itself
abbrev pub fits_script : Option (List ℕ) → Option (List ℕ) → Bool
fits_script None s = true
fits_script (Some p) s = option_eq bytes_eq s (Some p)

-- a region that is there is one of a set
abbrev pub is_member : List (List ℕ × Unit {0}) → Option (List ℕ) → Bool
is_member regions None = false
is_member regions (Some r) = is_listed regions r

-- `*` fits any region and none; a set its members; a negated set all else
abbrev pub fits_region : RegionPattern → Option (List ℕ) → Bool
fits_region Any r = true
fits_region (In regions) r = is_member regions r
fits_region (NotIn regions) r = not (is_member regions r)

-- the script and the region of a form fit
abbrev pub fits_pattern : MatchPattern → DataLocale → Bool
fits_pattern p x = fits_script p.script x.script && fits_region p.region x.region

-- a rule for the desired language fits
abbrev pub fits : DataLocale → DataLocale → MatchRule → Bool
fits desired supported r = bytes_eq supported.language r.language
    && (fits_pattern r.desired desired && fits_pattern r.supported supported)

-- the rules of one level, in their order, and the distance where none fits
pub record Level : Type 0 where
  pub rules : List MatchRule
  pub other : ℕ

-- the distance of a level: that of the first rule that fits
abbrev pub level_distance : Level → DataLocale → DataLocale → ℕ
level_distance level desired supported =
    option_map_or (λ r. r.distance) (find (fits desired supported) level.rules) level.other

-- macro regions, and the regions that each stands for
abbrev pub Macros : Type 0
Macros = List (List ℕ × Vec (List ℕ) Global)

-- the levels for a desired language, and the macro regions
pub record Levels : Type 0 where
  pub language : Level
  pub script : Level
  pub region : Level
  pub macros : Macros

-- three lists of rules, and the distances where none fits
abbrev pub levels_over : LanguageMatching → List MatchRule → List MatchRule → List MatchRule
    → Levels
levels_over t language script region = record {
  language = record { rules = language; other = t.other_language };
  script = record { rules = script; other = t.other_script };
  region = record { rules = region; other = t.other_region };
  macros = t.macros;
}

-- the rules of a desired language, if it has any
abbrev pub levels_of : LanguageMatching → Option MatchRules → Levels
levels_of t None = levels_over t [] [] []
levels_of t (Some r) = levels_over t r.language.items r.script.items r.region.items

-- ---- macro regions

-- a region is a macro region: it has a row
abbrev pub is_macro : Macros → Option (List ℕ) → Bool
is_macro macros None = false
is_macro macros (Some r) = is_some (value_at text_cmp macros r)

-- the regions of its row
abbrev pub row_of : Macros → Option (List ℕ) → Option (List (List ℕ))
row_of macros None = None
row_of macros (Some r) = regions_at macros r

-- a form with another region
abbrev pub with_region : DataLocale → Option (List ℕ) → DataLocale
with_region x r = record { language = x.language; script = x.script; region = r }

-- the forms that a form stands for: with each region of the row, or itself alone
abbrev pub stands_for : Macros → DataLocale → List DataLocale
stands_for macros x =
    option_map_or (map (λ r. with_region x (Some r))) (row_of macros x.region) (x ∷ [])

-- the greatest of some numbers, and 0 of none
abbrev pub greatest : List ℕ → ℕ
greatest [] = 0
greatest (n ∷ ns) = max n (greatest ns)

-- the greatest distance of the region level to what the supported form stands for
abbrev pub greatest_to : Levels → DataLocale → DataLocale → ℕ
greatest_to levels d s =
    greatest (map (level_distance levels.region d) (stands_for levels.macros s))

-- the distance of the region level: the greatest over the pairs of regions that the two stand for
abbrev pub region_distance : Levels → DataLocale → DataLocale → ℕ
region_distance levels d s =
    greatest (map (λ x. greatest_to levels x s) (stands_for levels.macros d))

-- ---- the sum

-- at each of language, script and region: nothing where the subtags are equal, else the distance of the level
abbrev pub distance_by : Levels → DataLocale → DataLocale → ℕ
distance_by levels d s =
    (if bytes_eq d.language s.language then 0 else level_distance levels.language d s)
    + (if option_eq bytes_eq d.script s.script then 0 else level_distance levels.script d s)
    + (if option_eq bytes_eq d.region s.region then 0 else region_distance levels d s)

-- the levels for a language
abbrev pub levels_for : LanguageMatching → List ℕ → Levels
levels_for t l = levels_of t (value_at text_cmp t.rules l)

-- the distance of a supported form from a desired one
abbrev pub distance : LanguageMatching → DataLocale → DataLocale → ℕ
distance t desired supported = distance_by (levels_for t desired.language) desired supported

-- ---- favor of script: ICU's FavorSubtag

-- what a distance of two languages counts: where the script is favored, a quarter, rounded down
abbrev pub share : FavorSubtag → ℕ → ℕ
share Language n = n
share Script n = n / 4

-- a rule with a quarter of its distance
abbrev pub quartered : MatchRule → MatchRule
quartered r = record r { distance = r.distance / 4 }

-- the rules for a language, of which those of languages have a quarter
abbrev pub with_quarters : MatchRules → MatchRules
with_quarters r = record r { language = with_items r.language (map quartered r.language.items) }

-- the rules for each language, by what is favored
abbrev pub favored_rules : FavorSubtag → List (List ℕ × MatchRules) → List (List ℕ × MatchRules)
favored_rules Language rows = rows
favored_rules Script rows = map (λ row. (row.0, with_quarters row.1)) rows

-- match rules, by what is favored: the distances of two languages count so, and nothing else is changed
abbrev pub favored : FavorSubtag → LanguageMatching → LanguageMatching
favored favor t = record t {
  rules = favored_rules favor t.rules;
  other_language = share favor t.other_language;
}

-- ---- what laws ask of tables

-- each rule has a distance above 0
abbrev pub AreApart : List MatchRule → Type 0
AreApart rules = All (λ r. 0 < r.distance) rules

-- each rule for a language has a distance above 0
pub record HasApart (r : MatchRules) : Type 0 where
  pub language : AreApart r.language.items
  pub script : AreApart r.script.items
  pub region : AreApart r.region.items

-- only equal forms have the distance 0: each rule has one above it, and so has what no rule fits; a macro region stands
-- for some region
pub record TellsApart (t : LanguageMatching) : Type 0 where
  pub rules : All (λ row. HasApart row.1) t.rules
  pub language : 0 < t.other_language
  pub script : 0 < t.other_script
  pub region : 0 < t.other_region
  pub macros : All (λ row. 0 < length row.1.items) t.macros

-- two tables have the same rules for a language, the same distances where no rule fits, and the same macro regions
pub record AgreeAt (l : List ℕ) (t u : LanguageMatching) : Type 0 where
  pub rules : value_at text_cmp t.rules l ≡ value_at text_cmp u.rules l
  pub language : t.other_language ≡ u.other_language
  pub script : t.other_script ≡ u.other_script
  pub region : t.other_region ≡ u.other_region
  pub macros : t.macros ≡ u.macros
