-- When a distance is 0, and what it depends on.
use Rattle.std.proofs.Common.{◌≡◌, ◌↔◌, ℕ, ◌+◌, ◌<◌, ◌≤◌, ◌&&◌, ◌⊎◌, inl, inr, ⊎_elim, zero, suc, Bool, true, false, List, [], ◌∷◌, Option, Some, None, map, length, refl, ap, sym, ◌∙◌, arith, if◌then◌else◌}
use Rattle.std.specs.List.{All, find, slice_get}
use Rattle.std.specs.Prelude.{Vec}
use Rattle.std.specs.Global.{Global}
use Rattle.std.specs.Option.{option_eq, option_map, option_map_or}
use Rattle.std.proofs.Math.Nat.{le-max_left}
use Rattle.std.proofs.lemmas.List.{length-map}
use Rattle.std.specs.Str.{bytes_eq}
use Rattle.std.specs.Cmp.{Equal-is}
use Rattle.std.proofs.lemmas.Bool.{false≢true}
use Rattle.std.proofs.lemmas.List.Elements.{All-head, All-tail, All-nil, All-contains}
use Rattle.std.proofs.lemmas.Option.{none-some, same_Some}
use Rattle.std.proofs.lemmas.Map.Views.{Contains-from_lookup}
use Rattle.std.proofs.lemmas.Slice.Eq.{bytes_eq-Decides}
use Rattle.icu_locale_core.specs.TextSet.{text_cmp}
use Rattle.icu_locale_core.specs.Maps.{value_at}
use Rattle.icu_locale_core.specs.laws.TextSets.{text_same}
use Rattle.icu_locale_core.specs.laws.Identifiers.{options_tell, Tells}
use Rattle.icu_provider.specs.declared.data_locale.DataLocale.{DataLocale}
use Rattle.icu_locale_matching.specs.Distance.{fits, fits_pattern, Level, Levels, Macros, level_distance, levels_of, row_of, with_region, stands_for, greatest, greatest_to, region_distance, distance_by, distance, share, AreApart, HasApart, TellsApart, AgreeAt}
use Rattle.icu_locale_matching.specs.inner.Levels.{distance_favoring}
use Rattle.icu_locale_matching.specs.declared.limits.FavorSubtag.{FavorSubtag}
use Rattle.icu_provider.specs.declared.matching.MatchRule.{MatchRule}
use Rattle.icu_provider.specs.declared.matching.MatchRules.{MatchRules}
use Rattle.icu_provider.specs.declared.matching.LanguageMatching.{LanguageMatching}

-- ---- when it is 0

pub texts_tell : (t u : List ℕ) → Tells (bytes_eq t u) (t ≡ u)
texts_tell t u = bytes_eq-Decides t u

pub subtags_tell : (o p : Option (List ℕ)) → Tells (option_eq bytes_eq o p) (o ≡ p)
subtags_tell o p = options_tell bytes_eq texts_tell o p

first_above : (b : Bool) (r : MatchRule) (rest : Option MatchRule) (other : ℕ) → 0 < r.distance → 0 < option_map_or (λ r. r.distance) rest other
    → 0 < option_map_or (λ r. r.distance) (if b then Some r else rest) other
first_above true r rest other here later = here
first_above false r rest other here later = later

found_above : (test : MatchRule → Bool) (rules : List MatchRule) (other : ℕ) → 0 < other → AreApart rules
    → 0 < option_map_or (λ r. r.distance) (find test rules) other
found_above test [] other above apart = above
found_above test (r ∷ rules) other above apart = first_above (test r) r (find test rules) other
    (All-head (λ (r : MatchRule). 0 < r.distance) r rules apart)
    (found_above test rules other above (All-tail (λ (r : MatchRule). 0 < r.distance) r rules apart))

-- a level is apart where its rules and its other distance are above 0
record IsApart (level : Level) : Type 0 where
  rules : AreApart level.rules
  other : 0 < level.other

level_above : (level : Level) (d s : DataLocale) → IsApart level → 0 < level_distance level d s
level_above level d s apart = found_above _ level.rules level.other apart.other apart.rules

record AllApart (levels : Levels) : Type 0 where
  language : IsApart levels.language
  script : IsApart levels.script
  region : IsApart levels.region
  macros : All (λ row. 0 < length row.1.items) levels.macros

apart_of : (t : LanguageMatching) (found : Option MatchRules) → TellsApart t → ((r : MatchRules) → found ≡ Some r → HasApart r) → AllApart (levels_of t found)
apart_of t None tells has = record {
  language = record { rules = All-nil (λ (r : MatchRule). 0 < r.distance); other = tells.language };
  script = record { rules = All-nil (λ (r : MatchRule). 0 < r.distance); other = tells.script };
  region = record { rules = All-nil (λ (r : MatchRule). 0 < r.distance); other = tells.region };
  macros = tells.macros;
}
apart_of t (Some r) tells has = let apart = has r refl in record {
  language = record { rules = apart.language; other = tells.language };
  script = record { rules = apart.script; other = tells.script };
  region = record { rules = apart.region; other = tells.region };
  macros = tells.macros;
}

apart_at : (t : LanguageMatching) (l : List ℕ) → TellsApart t → AllApart (levels_of t (value_at text_cmp t.rules l))
apart_at t l tells = apart_of t (value_at text_cmp t.rules l) tells (λ r found.
    All-contains (λ row. HasApart row.1) t.rules (l, r) tells.rules
    (Contains-from_lookup (λ x y tied. text_same x y ((Equal-is (text_cmp x y)).0 tied)) l r t.rules found))

-- the greatest of some numbers above 0 is above 0
some_above : (f : DataLocale → ℕ) (xs : List DataLocale) → ((x : DataLocale) → 0 < f x) → 0 < length xs → 0 < greatest (map f xs)
some_above f [] each some = absurd (omega (arith, some))
some_above f (x ∷ xs) each some = omega (arith, each x, le-max_left (f x) (greatest (map f xs)))

forms_of_row : (x : DataLocale) (row : Option (Vec (List ℕ) Global)) → ((v : Vec (List ℕ) Global) → row ≡ Some v → 0 < length v.items)
    → 0 < length (option_map_or (map (λ r. with_region x (Some r))) (option_map (λ v. v.items) row) (x ∷ []))
forms_of_row x None some = omega arith
forms_of_row x (Some v) some = omega (arith, some v refl, length-map v.items (λ r. with_region x (Some r)))

-- a form stands for some form
stands_for_some : (macros : Macros) (x : DataLocale) (region : Option (List ℕ)) → All (λ row. 0 < length row.1.items) macros
    → 0 < length (option_map_or (map (λ r. with_region x (Some r))) (row_of macros region) (x ∷ []))
stands_for_some macros x None some = omega arith
stands_for_some macros x (Some r) some = forms_of_row x (value_at text_cmp macros r) (λ v found.
    All-contains (λ row. 0 < length row.1.items) macros (r, v) some
    (Contains-from_lookup (λ x y tied. text_same x y ((Equal-is (text_cmp x y)).0 tied)) r v macros found))

region_above : (levels : Levels) (d s : DataLocale) → AllApart levels → 0 < region_distance levels d s
region_above levels d s apart =
    some_above (λ x. greatest_to levels x s) (stands_for levels.macros d)
    (λ x. some_above (level_distance levels.region x) (stands_for levels.macros s)
    (λ y. level_above levels.region x y apart.region) (stands_for_some levels.macros s s.region apart.macros))
    (stands_for_some levels.macros d d.region apart.macros)

-- a part that is 0 is one of equal subtags
same_part : (b : Bool) (n : ℕ) → 0 < n → (if b then 0 else n) ≡ 0 → b ≡ true
same_part true n above none = refl
same_part false n above none = absurd (omega (arith, above, none))

no_part : (b : Bool) (n : ℕ) → b ≡ true → (if b then 0 else n) ≡ 0
no_part true n same = refl
no_part false n same = absurd (false≢true same)

first_none : (m n : ℕ) → m + n ≡ 0 → m ≡ 0
first_none m n e = omega (arith, e)

second_none : (m n : ℕ) → m + n ≡ 0 → n ≡ 0
second_none m n e = omega (arith, e)

zero_by : (levels : Levels) (d s : DataLocale) → AllApart levels → (distance_by levels d s ≡ 0) ↔ (d ≡ s)
zero_by levels d s apart = (
  (λ none.
      let two = first_none _ _ none in
      let language = (texts_tell d.language s.language).0 (same_part _ _ (level_above levels.language d s apart.language) (first_none _ _ two)) in
      let script = (subtags_tell d.script s.script).0 (same_part _ _ (level_above levels.script d s apart.script) (second_none _ _ two)) in
      let region = (subtags_tell d.region s.region).0 (same_part _ _ (region_above levels d s apart) (second_none _ _ none)) in
      λ i. record { language = language i; script = script i; region = region i }),
  (λ same.
      let language = no_part _ (level_distance levels.language d s) ((texts_tell d.language s.language).1 (ap (λ (x : DataLocale). x.language) same)) in
      let script = no_part _ (level_distance levels.script d s) ((subtags_tell d.script s.script).1 (ap (λ (x : DataLocale). x.script) same)) in
      let region = no_part _ (region_distance levels d s) ((subtags_tell d.region s.region).1 (ap (λ (x : DataLocale). x.region) same)) in
      λ i. language i + script i + region i),
)

pub distance_zero : (t : LanguageMatching) (d s : DataLocale) → TellsApart t → (distance t d s ≡ 0) ↔ (d ≡ s)
distance_zero t d s tells = zero_by (levels_of t (value_at text_cmp t.rules d.language)) d s (apart_at t d.language tells)

-- a form is at no distance from itself, over every table
pub distance_itself : (t : LanguageMatching) (d : DataLocale) → distance t d d ≡ 0
distance_itself t d =
    let levels = levels_of t (value_at text_cmp t.rules d.language) in
    let language = no_part _ (level_distance levels.language d d) ((texts_tell d.language d.language).1 refl) in
    let script = no_part _ (level_distance levels.script d d) ((subtags_tell d.script d.script).1 refl) in
    let region = no_part _ (region_distance levels d d) ((subtags_tell d.region d.region).1 refl) in
    λ i. language i + script i + region i

-- ---- what it depends on

levels_agree : (t u : LanguageMatching) (found : Option MatchRules) (l : List ℕ) → AgreeAt l t u → levels_of t found ≡ levels_of u found
levels_agree t u None l agree = λ i. record {
  language = record { rules = []; other = agree.language i };
  script = record { rules = []; other = agree.script i };
  region = record { rules = []; other = agree.region i };
  macros = agree.macros i;
}
levels_agree t u (Some r) l agree = λ i. record {
  language = record { rules = r.language.items; other = agree.language i };
  script = record { rules = r.script.items; other = agree.script i };
  region = record { rules = r.region.items; other = agree.region i };
  macros = agree.macros i;
}

pub distance_agrees : (t u : LanguageMatching) (d s : DataLocale) → AgreeAt d.language t u → distance t d s ≡ distance u d s
distance_agrees t u d s agree = (λ i. distance_by (levels_of t (agree.rules i)) d s)
    ∙ (λ i. distance_by (levels_agree t u (value_at text_cmp u.rules d.language) d.language agree i) d s)

-- ---- where the scripts are far

found_at_least : (n : ℕ) (test : MatchRule → Bool) (rules : List MatchRule) (other : ℕ) → n ≤ other → All (λ r. n ≤ r.distance) rules
    → n ≤ option_map_or (λ r. r.distance) (find test rules) other
found_at_least n test [] other least far = least
found_at_least n test (r ∷ rules) other least far = first_at_least (test r)
    (All-head (λ (r : MatchRule). n ≤ r.distance) r rules far)
    (found_at_least n test rules other least (All-tail (λ (r : MatchRule). n ≤ r.distance) r rules far))
  where
    first_at_least : (b : Bool) → n ≤ r.distance → n ≤ option_map_or (λ r. r.distance) (find test rules) other
        → n ≤ option_map_or (λ r. r.distance) (if b then Some r else find test rules) other
    first_at_least true here later = here
    first_at_least false here later = later

pub script_other : (t : LanguageMatching) (found : Option MatchRules) → (levels_of t found).script.other ≡ t.other_script
script_other t None = refl
script_other t (Some r) = refl

near_part : (b : Bool) (n m : ℕ) → m ≤ n → (if b then 0 else n) < m → b ≡ true
near_part true n m far near = refl
near_part false n m far near = absurd (omega (arith, far, near))

pub script_kept : (levels : Levels) (d s : DataLocale) (threshold : ℕ) → All (λ r. threshold ≤ r.distance) levels.script.rules
    → threshold ≤ levels.script.other → distance_by levels d s < threshold → d.script ≡ s.script
script_kept levels d s threshold rules other near =
    let far = found_at_least threshold (fits d s) levels.script.rules levels.script.other other rules in
    (subtags_tell d.script s.script).0 (near_part _ (level_distance levels.script d s) threshold far (omega (arith, near)))

-- ---- where no rule names the language

rest_fits : (b rest : Bool) (r : MatchRule) (f : Option MatchRule) → (b ≡ true → ⊥) → f ≡ None → (if b && rest then Some r else f) ≡ None
rest_fits true rest r f not_it none = absurd (not_it refl)
rest_fits false rest r f not_it none = none

none_fits : (d s : DataLocale) (rules : List MatchRule) → ((k : ℕ) (r : MatchRule) → slice_get rules k ≡ Some r → r.language ≡ s.language → ⊥)
    → find (fits d s) rules ≡ None
none_fits d s [] none = refl
none_fits d s (r ∷ rules) none = rest_fits (bytes_eq s.language r.language) (fits_pattern r.desired d && fits_pattern r.supported s) r
    (find (fits d s) rules) (λ same. none 0 r refl (sym ((texts_tell s.language r.language).0 same)))
    (none_fits d s rules (λ k t is. none (suc k) t is))

other_part : (b : Bool) (n m : ℕ) → b ≡ false → n ≡ m → (if b then 0 else n) ≡ m
other_part true n m is same = absurd (false≢true (sym is))
other_part false n m is same = same

-- then the distance is that of no rule at least
pub other_at_least : (favor : FavorSubtag) (levels : Levels) (d s : DataLocale) → bytes_eq d.language s.language ≡ false
    → ((k : ℕ) (r : MatchRule) → slice_get levels.language.rules k ≡ Some r → r.language ≡ s.language → ⊥)
    → share favor levels.language.other ≤ distance_favoring favor levels d s
other_at_least favor levels d s differ none =
    let found = none_fits d s levels.language.rules none in
    let far : level_distance levels.language d s ≡ levels.language.other = ap (λ o. option_map_or (λ r. r.distance) o levels.language.other) found in
    let part = other_part (bytes_eq d.language s.language) (level_distance levels.language d s) levels.language.other differ far in
    omega (arith, ap (share favor) part)

-- the place of a rule that names a language
pub record IsNamed (l : List ℕ) (rules : List MatchRule) : Type 0 where
  pub place : ℕ
  pub rule : MatchRule
  pub stands : slice_get rules place ≡ Some rule
  pub names : rule.language ≡ l

named_later : (l : List ℕ) (r : MatchRule) (rules : List MatchRule) → IsNamed l rules → IsNamed l (r ∷ rules)
named_later l r rules named = record { place = suc named.place; rule = named.rule; stands = named.stands; names = named.names }

not_named : (l : List ℕ) (r : MatchRule) (rules : List MatchRule) → (r.language ≡ l → ⊥)
    → ((k : ℕ) (t : MatchRule) → slice_get rules k ≡ Some t → t.language ≡ l → ⊥)
    → (k : ℕ) (t : MatchRule) → slice_get (r ∷ rules) k ≡ Some t → t.language ≡ l → ⊥
not_named l r rules first rest zero t is same = first (ap (λ (u : MatchRule). u.language) (same_Some r t is) ∙ same)
not_named l r rules first rest (suc k) t is same = rest k t is same

by_first : (l : List ℕ) (r : MatchRule) (rules : List MatchRule) (b : Bool) → b ≡ bytes_eq r.language l
    → IsNamed l rules ⊎ ((k : ℕ) (t : MatchRule) → slice_get rules k ≡ Some t → t.language ≡ l → ⊥)
    → IsNamed l (r ∷ rules) ⊎ ((k : ℕ) (t : MatchRule) → slice_get (r ∷ rules) k ≡ Some t → t.language ≡ l → ⊥)
by_first l r rules true is rest = inl (record { place = 0; rule = r; stands = refl; names = (texts_tell r.language l).0 (sym is) })
by_first l r rules false is rest = ⊎_elim
    (λ named. inl (named_later l r rules named))
    (λ none. inr (not_named l r rules (λ same. false≢true (is ∙ (texts_tell r.language l).1 same)) none))
    rest

pub named_or_not : (l : List ℕ) (rules : List MatchRule)
    → IsNamed l rules ⊎ ((k : ℕ) (t : MatchRule) → slice_get rules k ≡ Some t → t.language ≡ l → ⊥)
named_or_not l [] = inr (λ k t is same. none-some t is)
named_or_not l (r ∷ rules) = by_first l r rules (bytes_eq r.language l) refl (named_or_not l rules)
