-- What is served (RFC 9110, section 12.5.4; RFC 4647, section 3.3.1, basic filtering).
use Rattle.std.specs.Prelude.{◌≡◌, ℕ, Bool, true, false, ◌&&◌, ◌||◌, not, List, [], ◌∷◌, map, Option, None, if◌then◌else◌, ◌++◌, Some, ◌<◌, ◌≤◌, length, AllPairs}
use Rattle.std.specs.List.{AllZip, list_any, position, slice_get}
use Rattle.std.specs.Option.{option_map, option_or, option_to_list}
use Rattle.std.specs.Str.{bytes_eq}
use Rattle.icu_locale_core.specs.TextSet.{is_subset}
use Rattle.icu_locale_core.specs.declared.langid.LanguageIdentifier.{LanguageIdentifier}
use Rattle.icu_provider.specs.declared.matching.LanguageMatching.{LanguageMatching}
use Rattle.icu_locale.specs.LikelySubtags.{LikelySubtags}
use Rattle.icu_locale.specs.LikelyTable.{likely}
use Rattle.icu_locale.specs.declared.canonicalizer.rules.Rules.{Rules}
use Rattle.icu_locale.specs.declared.expander.LocaleExpander.{LocaleExpander}
use Rattle.icu_locale_extensions.specs.Built.{bare}
use Rattle.icu_locale_matching.specs.Distance.{distance, favored}
use Rattle.icu_locale_matching.specs.Header.{Wish, is_blank, parts_of, elements_of, read_element, wishes_of, AreByWeight, wanted, refused, refuses_any, wants_any}
use Rattle.icu_locale_matching.specs.Made.{IsMadeOver}
use Rattle.icu_locale_matching.specs.Nearest.{Matching, question, form_of, IsNearest, may_of, all_may}
use Rattle.icu_locale_matching.specs.Requests.{IsTag, IsRequest, AreRequests, AreCanonical, IsRefusal, AreRefusals, IsCanonicalOf}
use Rattle.icu_locale_matching.specs.declared.limits.MatchLimits.{MatchLimits}
use Rattle.icu_locale_matching.specs.declared.matcher.Match.{Match}
use Rattle.icu_locale_matching.specs.declared.server.ServedLocales.{ServedLocales}

-- ---- what ranges cover

-- the language, the script and the region of an identifier, those that are there
abbrev pub subtags_of : LanguageIdentifier → List (List ℕ)
subtags_of x = x.language ∷ (option_to_list x.script ++ option_to_list x.region)

-- one list of subtags is another, or its beginning
abbrev pub begins : List (List ℕ) → List (List ℕ) → Bool
begins [] tag = true
begins (p ∷ ps) [] = false
begins (p ∷ ps) (q ∷ qs) = bytes_eq p q && begins ps qs

-- a range covers an identifier: it is or begins that without variants, and each of its variants is one of that one's
abbrev pub covers : LanguageIdentifier → LanguageIdentifier → Bool
covers range x = begins (subtags_of range) (subtags_of x) && is_subset range.variants x.variants

-- one of some ranges covers an identifier
abbrev pub is_covered : List LanguageIdentifier → LanguageIdentifier → Bool
is_covered ranges x = list_any (λ range. covers range x) ranges

-- an identifier may be served: no range that is refused covers it, and where `*` is refused, one that is wanted does
abbrev pub is_allowed : (requests out : List LanguageIdentifier) → Bool → LanguageIdentifier → Bool
is_allowed requests out named x =
    not (is_covered out x) && (not named || is_covered requests x)

-- which identifiers may be served
abbrev pub allowed : (requests out : List LanguageIdentifier) → Bool → List LanguageIdentifier
    → List Bool
allowed requests out named xs = map (is_allowed requests out named) xs

-- ---- what is served

-- what a server is
pub record Service : Type 0 where
  pub expander : LocaleExpander
  pub rules : Rules
  pub matching : LanguageMatching
  pub limits : MatchLimits
  pub available : List LanguageIdentifier

-- what matches for it, over canonical forms
abbrev pub matching_of : Service → List LanguageIdentifier → Matching
matching_of s canonical = record {
  expander = s.expander;
  matching = s.matching;
  limits = s.limits;
  available = canonical;
}

-- the first that may be served, where any is wanted
abbrev pub first_allowed : Bool → List Bool → Option ℕ
first_allowed any may = if any then position (λ b. b) may else None

-- the place of a match
abbrev pub place_of : Option Match → Option ℕ
place_of found = option_map (λ m. m.available) found

-- the nearest of what may be served, else the first of it where any language is wanted, else none
pub record IsChoice (m : Matching) (requests : List LanguageIdentifier) (may : List Bool)
    (any : Bool) (result : Option ℕ) : Type 0 where
  pub found : Option Match
  pub nearest : IsNearest (question m requests (may_of may)) found
  pub is : result ≡ option_or (place_of found) (first_allowed any may)

-- the place that is served for wishes: the choice for what the wanted ranges ask for, among the canonical forms of what
-- is available that no refused range covers, and, where `*` is refused, that a wanted one covers
pub record IsServedFor (s : Service) (wishes : List Wish) (result : Option ℕ) : Type 0 where
  pub requests : List LanguageIdentifier
  pub requested : AreRequests (likely s.expander) s.rules (wanted wishes) requests
  pub out : List LanguageIdentifier
  pub taken_out : AreRefusals (likely s.expander) s.rules (refused wishes) out
  pub canonical : List LanguageIdentifier
  pub canonicalized : AreCanonical (likely s.expander) s.rules s.available canonical
  pub choice : IsChoice (matching_of s canonical) requests
      (allowed requests out (refuses_any wishes) canonical) (wants_any wishes) result

-- the place that is served for a header: that for its wishes by falling weight
pub record IsServed (s : Service) (header : List ℕ) (result : Option ℕ) : Type 0 where
  pub wishes : List Wish
  pub sorted : AreByWeight (wishes_of header) wishes
  pub served : IsServedFor s wishes result

-- a header has a part more than another, which cannot be read: it is empty, or there are at most a hundred elements
pub record IsUnread (more fewer : List ℕ) : Type 0 where
  pub before : List (List ℕ)
  pub part : List ℕ
  pub after : List (List ℕ)
  pub all : parts_of more ≡ before ++ part ∷ after
  pub others : parts_of fewer ≡ before ++ after
  pub few : is_blank part ≡ false → length (elements_of more) ≤ 100
  pub unread : read_element part ≡ None

-- a header has an element that refuses what a range asks for: its weight is 0
pub record IsRefusedIn (s : Service) (header : List ℕ) (range : LanguageIdentifier) : Type 0 where
  pub place : ℕ
  pub wish : Wish
  pub stands : slice_get (wishes_of header) place ≡ Some wish
  pub zero : wish.1 ≡ 0
  pub asks : IsRefusal (likely s.expander) s.rules wish.0 range

-- a header has an element that asks for a range: its weight is above 0
pub record IsWantedIn (s : Service) (header : List ℕ) (range : LanguageIdentifier) : Type 0 where
  pub place : ℕ
  pub wish : Wish
  pub stands : slice_get (wishes_of header) place ≡ Some wish
  pub above : 0 < wish.1
  pub asks : IsRequest (likely s.expander) s.rules wish.0 range

-- a header lets y be served: no range that is refused covers it, and where `*` is refused, one that is wanted does
pub record LetsServe (s : Service) (header : List ℕ) (y : LanguageIdentifier) : Type 0 where
  pub kept : (range : LanguageIdentifier) → IsRefusedIn s header range → covers range y ≡ false
  pub named : refuses_any (wishes_of header) ≡ true
      → (range : LanguageIdentifier) × IsWantedIn s header range × (covers range y ≡ true)

-- y is nearer to a range than the threshold
abbrev pub IsNear : Service → LanguageIdentifier → LanguageIdentifier → Type 0
IsNear s range y =
    distance (favored s.limits.favor s.matching) (form_of (likely s.expander) range)
    (form_of (likely s.expander) y) < s.limits.threshold

-- the wishes of a header fall in weight, none is refused, and their ranges are tags without extensions: those of
-- some identifiers
pub record IsPlain (header : List ℕ) (xs : List LanguageIdentifier) : Type 0 where
  pub falls : AllPairs (λ v w. w.1 ≤ v.1) (wishes_of header)
  pub wanted : refused (wishes_of header) ≡ []
  pub tags : AllZip (λ w x. IsTag w.0 (bare x)) (wishes_of header) xs

-- a place has the canonical form y
pub record IsCanonicalAt (s : Service) (place : ℕ) (y : LanguageIdentifier) : Type 0 where
  pub identifier : LanguageIdentifier
  pub stands : slice_get s.available place ≡ Some identifier
  pub canonical : IsCanonicalOf (likely s.expander) s.rules identifier y

-- the first place, if there is one
abbrev pub first_place : List LanguageIdentifier → Option ℕ
first_place [] = None
first_place (x ∷ xs) = Some 0

-- the nearest for requests, over canonical forms on both sides; each that is available may be served
pub record IsNearestTo (s : Service) (requests : List LanguageIdentifier) (result : Option Match)
    : Type 0 where
  pub asked : List LanguageIdentifier
  pub requested : AreCanonical (likely s.expander) s.rules requests asked
  pub canonical : List LanguageIdentifier
  pub canonicalized : AreCanonical (likely s.expander) s.rules s.available canonical
  pub nearest : IsNearest (question (matching_of s canonical) asked all_may) result

-- what is served for a header, and the nearest among what may be served
abbrev pub IsServedBy : Service → List ℕ → Option ℕ → Option Match → Type 0
IsServedBy s header result found =
    (is : IsServed s header result) × (is.served.choice.found ≡ found)

-- a server over other available identifiers
abbrev pub with_available : Service → List LanguageIdentifier → Service
with_available s ys = record s { available = ys }

-- each of some identifiers is one of others
abbrev pub AreAmong : (xs ys : List LanguageIdentifier) → Type 0
AreAmong xs ys = (k : ℕ) (x : LanguageIdentifier) → slice_get xs k ≡ Some x
    → (l : ℕ) × (slice_get ys l ≡ Some x)

-- ---- what is prepared

-- the available identifiers, as they were handed in
abbrev pub identifiers_of : ServedLocales → List LanguageIdentifier
identifiers_of s = s.identifiers.items

-- a list was prepared over a likely table, rules and match rules: from the canonical forms
pub record IsPreparedOver (likely : LikelySubtags) (rules : Rules) (t : LanguageMatching)
    (s : ServedLocales) : Type 0 where
  pub canonical : AreCanonical likely rules s.identifiers.items s.candidates.identifiers.items
  pub candidates : IsMadeOver likely t s.candidates
