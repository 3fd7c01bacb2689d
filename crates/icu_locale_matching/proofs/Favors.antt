-- What a distance counts by what is favored.
use Rattle.std.proofs.Common.{◌≡◌, ℕ, ◌+◌, ◌/◌, ◌≤◌, Bool, true, false, List, [], ◌∷◌, Option, Some, None, map, refl, ap, sym, ◌∙◌, arith, if◌then◌else◌}
use Rattle.std.specs.List.{find}
use Rattle.std.specs.Str.{bytes_eq}
use Rattle.std.specs.Option.{option_eq, option_map, option_map_or}
use Rattle.std.specs.BTreeMap.{is_at}
use Rattle.std.proofs.lemmas.Bool.{false≢true}
use Rattle.std.proofs.lemmas.Slice.Eq.{bytes_eq-Decides}
use Rattle.std.proofs.lemmas.List.{length-map, with_items_is}
use Rattle.std.proofs.lemmas.Map.Made.{lookup-map_values}
use Rattle.icu_locale_core.specs.TextSet.{text_cmp}
use Rattle.icu_locale_core.specs.Maps.{value_at}
use Rattle.icu_locale_core.specs.declared.langid.LanguageIdentifier.{LanguageIdentifier}
use Rattle.icu_provider.specs.declared.data_locale.DataLocale.{DataLocale}
use Rattle.icu_provider.specs.declared.matching.MatchRule.{MatchRule}
use Rattle.icu_provider.specs.declared.matching.MatchRules.{MatchRules}
use Rattle.icu_provider.specs.declared.matching.LanguageMatching.{LanguageMatching}
use Rattle.icu_locale_matching.specs.Distance.{fits, Level, Levels, level_distance, region_distance, levels_over, levels_of, levels_for, distance_by, distance, share, quartered, with_quarters, favored}
use Rattle.icu_locale_matching.specs.Nearest.{Matching, question}
use Rattle.icu_locale_matching.specs.inner.Levels.{distance_favoring}
use Rattle.icu_locale_matching.specs.declared.limits.FavorSubtag.{FavorSubtag}
use Rattle.icu_locale_matching.specs.declared.limits.FavorSubtag.TheVariants.{Language, Script}

-- a level of languages, by what is favored
abbrev favored_level : FavorSubtag → Level → Level
favored_level Language l = l
favored_level Script l = record { rules = map quartered l.rules; other = l.other / 4 }

abbrev favored_levels : FavorSubtag → Levels → Levels
favored_levels favor l = record l { language = favored_level favor l.language }

found_quarter : (d s : DataLocale) (rules : List MatchRule) (other : ℕ)
    → option_map_or (λ r. r.distance) (find (fits d s) (map quartered rules)) (other / 4)
    ≡ option_map_or (λ r. r.distance) (find (fits d s) rules) other / 4
found_quarter d s [] other = refl
found_quarter d s (r ∷ rules) other = by (fits d s r) (found_quarter d s rules other)
  where
    by : (b : Bool) → option_map_or (λ r. r.distance) (find (fits d s) (map quartered rules)) (other / 4)
        ≡ option_map_or (λ r. r.distance) (find (fits d s) rules) other / 4
        → option_map_or (λ r. r.distance) (if b then Some (quartered r) else find (fits d s) (map quartered rules)) (other / 4)
        ≡ option_map_or (λ r. r.distance) (if b then Some r else find (fits d s) rules) other / 4
    by true later = refl
    by false later = later

level_share : (favor : FavorSubtag) (level : Level) (d s : DataLocale)
    → level_distance (favored_level favor level) d s ≡ share favor (level_distance level d s)
level_share Language level d s = refl
level_share Script level d s = found_quarter d s level.rules level.other

-- no distance counts none
part_share : (favor : FavorSubtag) (b : Bool) (n : ℕ) → (if b then 0 else share favor n) ≡ share favor (if b then 0 else n)
part_share Language b n = refl
part_share Script true n = refl
part_share Script false n = refl

levels_share : (favor : FavorSubtag) (levels : Levels) (d s : DataLocale)
    → distance_by (favored_levels favor levels) d s ≡ distance_favoring favor levels d s
levels_share favor levels d s =
    let same = bytes_eq d.language s.language in
    let language = ap (λ n. if same then 0 else n) (level_share favor levels.language d s)
    ∙ part_share favor same (level_distance levels.language d s) in
    ap (λ n. n + (if option_eq bytes_eq d.script s.script then 0 else level_distance levels.script d s)
    + (if option_eq bytes_eq d.region s.region then 0 else region_distance levels d s)) language

favored_found : (t : LanguageMatching) (found : Option MatchRules)
    → levels_of (favored Script t) (option_map with_quarters found) ≡ favored_levels Script (levels_of t found)
favored_found t None = refl
favored_found t (Some r) = ap (λ rules. levels_over (favored Script t) rules r.script.items r.region.items)
    (with_items_is r.language (map quartered r.language.items) (length-map r.language.items quartered ∙ sym r.language.ok.0))

favored_for : (favor : FavorSubtag) (t : LanguageMatching) (l : List ℕ)
    → levels_for (favored favor t) l ≡ favored_levels favor (levels_for t l)
favored_for Language t l = refl
favored_for Script t l = ap (levels_of (favored Script t)) (lookup-map_values with_quarters (is_at (text_cmp l)) t.rules)
    ∙ favored_found t (value_at text_cmp t.rules l)

-- the distance over the match rules by what is favored, from the levels over the rules themselves
pub distance_favored : (favor : FavorSubtag) (t : LanguageMatching) (d s : DataLocale)
    → distance_favoring favor (levels_for t d.language) d s ≡ distance (favored favor t) d s
distance_favored favor t d s = sym (levels_share favor (levels_for t d.language) d s)
    ∙ ap (λ levels. distance_by levels d s) (sym (favored_for favor t d.language))

-- ---- what is favored and what is not

pub favor_of_languages : (m : Matching) (requests : List LanguageIdentifier) (may : ℕ → Bool) → m.limits.favor ≡ Language
    → (question m requests may).matching ≡ m.matching
favor_of_languages m requests may is = ap (λ favor. favored favor m.matching) is

share_least : (favor : FavorSubtag) (n : ℕ) → share favor n ≤ n
share_least Language n = omega arith
share_least Script n = omega arith

pub favored_no_farther : (favor : FavorSubtag) (t : LanguageMatching) (d s : DataLocale) → distance (favored favor t) d s ≤ distance t d s
favored_no_farther favor t d s =
    let level = levels_for t d.language in
    let least = share_least favor (if bytes_eq d.language s.language then 0 else level_distance level.language d s) in
    omega (arith, least, distance_favored favor t d s)

share_none : (favor : FavorSubtag) (b : Bool) (n : ℕ) → b ≡ true → share favor (if b then 0 else n) ≡ (if b then 0 else n)
share_none Language b n same = refl
share_none Script true n same = refl
share_none Script false n same = absurd (false≢true same)

pub favored_within : (favor : FavorSubtag) (t : LanguageMatching) (d s : DataLocale) → d.language ≡ s.language
    → distance (favored favor t) d s ≡ distance t d s
favored_within favor t d s same =
    let level = levels_for t d.language in
    sym (distance_favored favor t d s)
    ∙ ap (λ n. n + (if option_eq bytes_eq d.script s.script then 0 else level_distance level.script d s)
    + (if option_eq bytes_eq d.region s.region then 0 else region_distance level d s))
    (share_none favor (bytes_eq d.language s.language) (level_distance level.language d s) ((bytes_eq-Decides d.language s.language).1 same))
