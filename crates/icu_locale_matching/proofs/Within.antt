-- What is served is among what is available.
use Rattle.std.proofs.Common.{◌≡◌, ℕ, ◌<◌, Bool, true, List, length, Option, Some, None, refl, sym, ap, ◌∙◌, subst}
use Rattle.std.specs.List.{slice_get}
use Rattle.std.specs.Option.{option_map}
use Rattle.std.proofs.lemmas.Bool.{false≢true}
use Rattle.std.proofs.lemmas.List.{length-map}
use Rattle.std.proofs.lemmas.Slice.Zip.{AllZip-long}
use Rattle.std.proofs.lemmas.Option.{none-some, same_Some, slice_get_within}
use Rattle.icu_locale_core.specs.declared.langid.LanguageIdentifier.{LanguageIdentifier}
use Rattle.icu_locale.specs.LikelySubtags.{LikelySubtags}
use Rattle.icu_locale.specs.LikelyTable.{likely}
use Rattle.icu_locale.specs.declared.canonicalizer.rules.Rules.{Rules}
use Rattle.icu_locale_matching.specs.Header.{refuses_any, wants_any}
use Rattle.icu_locale_matching.specs.Nearest.{Question, IsOffer, IsLeastOf, match_of, may_of, is_true}
use Rattle.icu_locale_matching.specs.Requests.{AreCanonical, IsCanonicalOf}
use Rattle.icu_locale_matching.specs.Service.{Service, IsServed, IsNearestTo, allowed, is_allowed, matching_of}
use Rattle.icu_locale_matching.specs.declared.matcher.Match.{Match}
use Rattle.icu_locale_matching.specs.declared.rank.Rank.{Rank}
use Rattle.icu_locale_matching.proofs.Choices.{chosen_may}

-- there are as many canonical forms as identifiers
canonical_long : (likely : LikelySubtags) (rules : Rules) (xs ys : List LanguageIdentifier) → AreCanonical likely rules xs ys → length ys ≡ length xs
canonical_long likely rules xs ys are = AllZip-long (IsCanonicalOf likely rules) xs ys are

within_by : (q : Question) (m : Match) (best : Option Rank) → IsLeastOf (IsOffer q) best → Some m ≡ option_map match_of best
    → m.available < length q.available
within_by q m None least is = absurd (none-some m (sym is))
within_by q m (Some r) least is =
    let same = ap (λ (n : Match). n.available) (same_Some m (match_of r) is) in
    subst (λ k. k < length q.available) (sym same) (slice_get_within q.available r.available least.0.identifier least.0.offered)

-- a place that may be served is one of a list
may_within : (may : List Bool) (j : ℕ) → may_of may j ≡ true → j < length may
may_within may j true_there = by (slice_get may j) refl true_there
  where
    by : (found : Option Bool) → slice_get may j ≡ found → is_true found ≡ true → j < length may
    by None at there = absurd (false≢true there)
    by (Some b) at there = slice_get_within may j b at

pub served_within : (s : Service) (header : List ℕ) (place : ℕ) → IsServed s header (Some place) → place < length s.available
served_within s header place is =
    let f = is.served in
    let named = refuses_any is.wishes in
    let may = allowed f.requests f.out named f.canonical in
    let inside = may_within may place (chosen_may (matching_of s f.canonical) f.requests may (wants_any is.wishes) place f.choice) in
    subst (λ n. place < n) (length-map f.canonical (is_allowed f.requests f.out named) ∙ canonical_long (likely s.expander) s.rules s.available f.canonical f.canonicalized) inside

pub nearest_within : (s : Service) (requests : List LanguageIdentifier) (m : Match) → IsNearestTo s requests (Some m) → m.available < length s.available
nearest_within s requests m is =
    subst (λ n. m.available < n) (canonical_long (likely s.expander) s.rules s.available is.canonical is.canonicalized)
    (within_by _ m is.nearest.best is.nearest.least is.nearest.is)

request_by : (q : Question) (m : Match) (best : Option Rank) → IsLeastOf (IsOffer q) best → Some m ≡ option_map match_of best
    → m.request < length q.requests
request_by q m None least is = absurd (none-some m (sym is))
request_by q m (Some r) least is =
    let same = ap (λ (n : Match). n.request) (same_Some m (match_of r) is) in
    subst (λ k. k < length q.requests) (sym same) (slice_get_within q.requests r.request least.0.request least.0.requested)

-- and the request that it serves is among those that ask
pub asked_within : (s : Service) (requests : List LanguageIdentifier) (m : Match) → IsNearestTo s requests (Some m) → m.request < length requests
asked_within s requests m is =
    subst (λ n. m.request < n) (canonical_long (likely s.expander) s.rules requests is.asked is.requested)
    (request_by _ m is.nearest.best is.nearest.least is.nearest.is)
