-- The nearest available locale (UTS #35 Part 1, section 4.4, Language Matching).
use Rattle.std.specs.Prelude.{◌≡◌, ℕ, ◌+◌, ◌*◌, ◌<◌, ◌≤◌, min, Bool, true, false, ◌&&◌, not, List, map, Option, Some, None, if◌then◌else◌}
use Rattle.std.specs.List.{All, list_any, slice_get}
use Rattle.std.specs.Str.{bytes_eq}
use Rattle.std.specs.Option.{option_eq, option_map}
use Rattle.std.specs.Ordering.{ordering_then, nat_cmp, bool_cmp, is_le}
use Rattle.std.specs.declared.cmp.Ordering.{Ordering}
use Rattle.icu_locale_core.specs.laws.Identifiers.{same_parts, same_texts}
use Rattle.icu_locale_core.specs.declared.langid.LanguageIdentifier.{LanguageIdentifier}
use Rattle.icu_provider.specs.declared.data_locale.DataLocale.{DataLocale}
use Rattle.icu_locale.specs.LikelySubtags.{LikelySubtags, maximal_locale, subtags_of}
use Rattle.icu_locale.specs.LikelyTable.{likely}
use Rattle.icu_locale.specs.declared.expander.LocaleExpander.{LocaleExpander}
use Rattle.icu_locale_matching.specs.Distance.{distance, favored, levels_for, AgreeAt}
use Rattle.icu_provider.specs.declared.matching.LanguageMatching.{LanguageMatching}
use Rattle.icu_locale_matching.specs.declared.limits.MatchLimits.{MatchLimits}
use Rattle.icu_locale_matching.specs.declared.candidates.Candidates.{Candidates}
use Rattle.icu_locale_matching.specs.declared.rank.Rank.{Rank}
use Rattle.icu_locale_matching.specs.declared.matcher.Match.{Match}

-- the maximal form of an identifier, variants aside
abbrev pub form_of : LikelySubtags → LanguageIdentifier → DataLocale
form_of likely x = maximal_locale likely (subtags_of x)

-- two forms have the same subtags
abbrev pub same_form : DataLocale → DataLocale → Bool
same_form x y = bytes_eq x.language y.language
    && (option_eq bytes_eq x.script y.script && option_eq bytes_eq x.region y.region)

-- the language
abbrev pub alone : DataLocale → DataLocale
alone m = record { language = m.language; script = None; region = None }

-- the language and the script
abbrev pub without_region : DataLocale → DataLocale
without_region m = record { language = m.language; script = m.script; region = None }

-- 0 where m is the maximal form of its language alone, 1 where of its language and script, else 2
abbrev pub unlikeliness : LikelySubtags → DataLocale → ℕ
unlikeliness likely m =
    if same_form (maximal_locale likely (alone m)) m then 0
    else (if same_form (maximal_locale likely (without_region m)) m then 1 else 2)

-- the maximal forms of the paradigm locales
abbrev pub paradigms_of : LikelySubtags → LanguageMatching → List DataLocale
paradigms_of likely t = map (maximal_locale likely) t.paradigms.items

-- m is one of these forms
abbrev pub is_among : List DataLocale → DataLocale → Bool
is_among forms m = list_any (λ x. same_form x m) forms

-- the available identifiers, as they were handed in
abbrev pub identifiers_of : Candidates → List LanguageIdentifier
identifiers_of c = c.identifiers.items

-- what a matcher is
pub record Matching : Type 0 where
  pub expander : LocaleExpander
  pub matching : LanguageMatching
  pub limits : MatchLimits
  pub available : List LanguageIdentifier

-- what a match is asked over; `may` tells which places may be served
pub record Question : Type 0 where
  pub likely : LikelySubtags
  pub matching : LanguageMatching
  pub limits : MatchLimits
  pub requests : List LanguageIdentifier
  pub available : List LanguageIdentifier
  pub may : ℕ → Bool

-- each place may
abbrev pub all_may : ℕ → Bool
all_may j = true

-- true is there
abbrev pub is_true : Option Bool → Bool
is_true None = false
is_true (Some b) = b

-- those at which a list has true
abbrev pub may_of : List Bool → ℕ → Bool
may_of may j = is_true (slice_get may j)

-- what a matcher is asked by requests, over its match rules by what is favored
abbrev pub question : Matching → List LanguageIdentifier → (ℕ → Bool) → Question
question m requests may = record {
  likely = likely m.expander;
  matching = favored m.limits.favor m.matching;
  limits = m.limits;
  requests = requests;
  available = m.available;
  may = may;
}

-- what decides between a request at i and an available identifier at j: the cost; then the request, a like
-- spelling, like variants, how likely the form is, paradigm locales, the place
abbrev pub rank_at : Question → ℕ → ℕ → LanguageIdentifier → ℕ → LanguageIdentifier → Rank
rank_at q cost i request j identifier =
    let form = form_of q.likely identifier in record {
      cost = cost;
      request = i;
      spelled_otherwise = not (same_parts request identifier);
      varied = not (same_texts request.variants identifier.variants);
      unlikeliness = unlikeliness q.likely form;
      off_paradigm = not (is_among (paradigms_of q.likely q.matching) form);
      available = j;
    }

-- what a request costs for those before it: the demotion for each, and 65,535 at most
abbrev pub demotion_at : ℕ → ℕ → ℕ
demotion_at demotion i = min (demotion * i) 65535

-- the cost: the distance of the maximal forms, and what the request costs for those before it
abbrev pub rank_of : Question → ℕ → LanguageIdentifier → ℕ → LanguageIdentifier → Rank
rank_of q i request j identifier =
    rank_at q (distance q.matching (form_of q.likely request) (form_of q.likely identifier)
    + demotion_at q.limits.demotion i) i request j identifier

-- by cost, then the others in their order
abbrev pub rank_cmp : Rank → Rank → Ordering
rank_cmp r s =
    ordering_then (nat_cmp r.cost s.cost)
    (ordering_then (nat_cmp r.request s.request)
    (ordering_then (bool_cmp r.spelled_otherwise s.spelled_otherwise)
    (ordering_then (bool_cmp r.varied s.varied)
    (ordering_then (nat_cmp r.unlikeliness s.unlikeliness)
    (ordering_then (bool_cmp r.off_paradigm s.off_paradigm)
    (nat_cmp r.available s.available))))))

-- r is the rank of a request and an available identifier that may be served, whose distance is below the threshold
pub record IsOffer (q : Question) (r : Rank) : Type 0 where
  pub request : LanguageIdentifier
  pub identifier : LanguageIdentifier
  pub requested : slice_get q.requests r.request ≡ Some request
  pub offered : slice_get q.available r.available ≡ Some identifier
  pub is : r ≡ rank_of q r.request request r.available identifier
  pub below : distance q.matching (form_of q.likely request) (form_of q.likely identifier)
      < q.limits.threshold
  pub may : q.may r.available ≡ true

-- the least rank with P, if there is one
abbrev pub IsLeastOf : (Rank → Type 0) → Option Rank → Type 0
IsLeastOf P None = (s : Rank) → P s → ⊥
IsLeastOf P (Some r) = P r × ((s : Rank) → P s → is_le (rank_cmp r s) ≡ true)

-- what a rank says to the caller
abbrev pub match_of : Rank → Match
match_of r = record { request = r.request; available = r.available; cost = r.cost }

-- the match with the least rank, and none where no pair is below the threshold
pub record IsNearest (q : Question) (result : Option Match) : Type 0 where
  pub best : Option Rank
  pub least : IsLeastOf (IsOffer q) best
  pub is : result ≡ option_map match_of best

-- a match serves the first request at no distance, by an identifier with the maximal form of the request, variants aside
pub record ServesFirst (q : Question) (m : Match) : Type 0 where
  pub first : m.request ≡ 0
  pub near : m.cost ≡ 0
  pub request : LanguageIdentifier
  pub identifier : LanguageIdentifier
  pub requested : slice_get q.requests 0 ≡ Some request
  pub offered : slice_get q.available m.available ≡ Some identifier
  pub same : form_of q.likely request ≡ form_of q.likely identifier

-- the identifier at a place may be served and is the first request, in its own spelling, and none before it is that and
-- may
pub record IsSpelledFirst (q : Question) (j : ℕ) : Type 0 where
  pub request : LanguageIdentifier
  pub requested : slice_get q.requests 0 ≡ Some request
  pub offered : slice_get q.available j ≡ Some request
  pub may : q.may j ≡ true
  pub first : (k : ℕ) → slice_get q.available k ≡ Some request → q.may k ≡ true → j ≤ k

-- the identifier at a place may be served and has the maximal form and the variants of the first request; none that may
-- is that request in its own spelling, and none before it has those
pub record IsFormedFirst (q : Question) (j : ℕ) : Type 0 where
  pub request : LanguageIdentifier
  pub identifier : LanguageIdentifier
  pub requested : slice_get q.requests 0 ≡ Some request
  pub offered : slice_get q.available j ≡ Some identifier
  pub may : q.may j ≡ true
  pub form : form_of q.likely identifier ≡ form_of q.likely request
  pub variants : identifier.variants ≡ request.variants
  pub unspelled : (k : ℕ) → slice_get q.available k ≡ Some request → q.may k ≡ true → ⊥
  pub first : (k : ℕ) (x : LanguageIdentifier) → slice_get q.available k ≡ Some x
      → q.may k ≡ true → form_of q.likely x ≡ form_of q.likely request
      → x.variants ≡ request.variants → j ≤ k

-- what p may serve, q may too, perhaps at another place; they are asked the same
pub record IsAmong (p q : Question) : Type 0 where
  pub likely : p.likely ≡ q.likely
  pub matching : p.matching ≡ q.matching
  pub limits : p.limits ≡ q.limits
  pub requests : p.requests ≡ q.requests
  pub each : (k : ℕ) (x : LanguageIdentifier) → slice_get p.available k ≡ Some x → p.may k ≡ true
      → (l : ℕ) × (slice_get q.available l ≡ Some x) × (q.may l ≡ true)

-- what p is asked over is a part of what q is: at k what is at f k there, in the same order, and it may be served there
-- too
pub record IsPart (p q : Question) (f : ℕ → ℕ) : Type 0 where
  pub likely : p.likely ≡ q.likely
  pub matching : p.matching ≡ q.matching
  pub limits : p.limits ≡ q.limits
  pub requests : p.requests ≡ q.requests
  pub offered : (k : ℕ) (x : LanguageIdentifier) → slice_get p.available k ≡ Some x
      → slice_get q.available (f k) ≡ Some x
  pub may : (k : ℕ) → p.may k ≡ true → q.may (f k) ≡ true
  pub rises : (k l : ℕ) → k < l → f k < f l

-- a match costs less, or the same for an earlier request, or the same for the same
pub record IsNoFarther (m n : Match) : Type 0 where
  pub cost : n.cost ≤ m.cost
  pub request : n.cost ≡ m.cost → n.request ≤ m.request

-- the cost of a match, and the request that it serves
abbrev pub without_place : Match → ℕ × ℕ
without_place m = (m.cost, m.request)

-- a match at another place
abbrev pub moved_to : ℕ → Match → Match
moved_to k m = record { request = m.request; available = k; cost = m.cost }

-- a table agrees with that of a question on what is asked
pub record AgreeOn (q : Question) (u : LanguageMatching) : Type 0 where
  pub rules : (i : ℕ) (x : LanguageIdentifier) → slice_get q.requests i ≡ Some x
      → AgreeAt (form_of q.likely x).language q.matching u
  pub paradigms : q.matching.paradigms.items ≡ u.paradigms.items

-- a question over another table
abbrev pub with_matching : Question → LanguageMatching → Question
with_matching q u = record q { matching = u }

-- the script rules of each language that is asked, and the distance of two scripts that no rule fits, are not below the
-- threshold
pub record ScriptsAreFar (q : Question) : Type 0 where
  pub rules : (i : ℕ) (x : LanguageIdentifier) → slice_get q.requests i ≡ Some x
      → All (λ r. q.limits.threshold ≤ r.distance)
      (levels_for q.matching (form_of q.likely x).language).script.rules
  pub other : q.limits.threshold ≤ q.matching.other_script

-- a match serves a request by an identifier whose maximal form has the same script
pub record KeepsScript (q : Question) (m : Match) : Type 0 where
  pub request : LanguageIdentifier
  pub identifier : LanguageIdentifier
  pub requested : slice_get q.requests m.request ≡ Some request
  pub offered : slice_get q.available m.available ≡ Some identifier
  pub same : (form_of q.likely request).script ≡ (form_of q.likely identifier).script
