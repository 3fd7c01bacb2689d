-- How the nearest is found: request by request, and group by group.
use Rattle.std.specs.Prelude.{◌≡◌, ◌⊎◌, ℕ, ◌+◌, ◌-◌, ◌<◌, ◌≤◌, min, nat_le, Bool, true, false, Option, Some, None, List, length, IfSome, if◌then◌else◌}
use Rattle.std.specs.List.{slice_get}
use Rattle.std.specs.Ordering.{is_lt, is_le}
use Rattle.icu_locale_core.specs.declared.langid.LanguageIdentifier.{LanguageIdentifier}
use Rattle.icu_locale.specs.LikelySubtags.{LikelySubtags}
use Rattle.icu_locale.specs.LikelyTable.{likely}
use Rattle.icu_provider.specs.declared.data_locale.DataLocale.{DataLocale}
use Rattle.icu_provider.specs.declared.matching.LanguageMatching.{LanguageMatching}
use Rattle.icu_locale_matching.specs.Distance.{favored, levels_for, level_distance, is_macro}
use Rattle.icu_locale_matching.specs.Nearest.{Question, all_may, may_of, IsOffer, form_of, rank_cmp, rank_at, demotion_at}
use Rattle.icu_locale_matching.specs.inner.Made.{candidate_of}
use Rattle.icu_locale_matching.specs.inner.Known.{AreKnown}
use Rattle.icu_locale_matching.specs.inner.Levels.{shown, shown_level}
use Rattle.icu_locale_matching.specs.declared.candidates.Candidate.{Candidate}
use Rattle.icu_locale_matching.specs.declared.rank.Rank.{Rank}
use Rattle.icu_locale_matching.specs.declared.search.Asked.{Asked}
use Rattle.icu_locale_matching.specs.declared.search.Search.{Search}
use denote.Ref.{Bor}

-- which places may be served: all, or those at which a list has true
abbrev pub may_shown : Option (Bor (List Bool)) → ℕ → Bool
may_shown None = all_may
may_shown (Some may) = may_of may.now

-- what a search is asked by requests, over its match rules by what is favored
abbrev pub asked_of : Search → List LanguageIdentifier → Question
asked_of m requests = record {
  likely = likely m.expander;
  matching = favored m.limits.favor m.matching.now;
  limits = m.limits;
  requests = requests;
  available = m.candidates.now.identifiers.items;
  may = may_shown m.may;
}

-- an offer for an earlier request than i
pub record IsOfferBefore (q : Question) (i : ℕ) (s : Rank) : Type 0 where
  pub offer : IsOffer q s
  pub before : s.request < i

-- an offer for request i
pub record IsOfferAt (q : Question) (i : ℕ) (s : Rank) : Type 0 where
  pub offer : IsOffer q s
  pub at : s.request ≡ i

-- the best so far is there, and no greater than s
abbrev pub Beats : Option Rank → Rank → Type 0
Beats None s = ⊥
Beats (Some r) s = is_le (rank_cmp r s) ≡ true

-- a later best is the earlier one or an offer for request i, and beats what that one beat
pub record Improves (q : Question) (i : ℕ) (old new : Option Rank) : Type 0 where
  pub among : (r : Rank) → new ≡ Some r → (old ≡ Some r) ⊎ IsOfferAt q i r
  pub keeps : (s : Rank) → Beats old s → Beats new s

-- the best beats each offer of request i by the first n of some candidates
abbrev pub BeatsUpto : Question → ℕ → List Candidate → ℕ → Option Rank → Type 0
BeatsUpto q i part n best = (k : ℕ) (c : Candidate) (s : Rank) → k < n → slice_get part k ≡ Some c
    → IsOfferAt q i s → s.available ≡ c.place → Beats best s

-- by each of them
abbrev pub BeatsEach : Question → ℕ → List Candidate → Option Rank → Type 0
BeatsEach q i part best = BeatsUpto q i part (length part) best

-- the best beats each offer of request i by those of the first n of some candidates that have a region
abbrev pub BeatsThere : Question → ℕ → Option (List ℕ) → List Candidate → ℕ → Option Rank → Type 0
BeatsThere q i region part n best = (k : ℕ) (c : Candidate) (s : Rank) → k < n
    → slice_get part k ≡ Some c → c.form.region ≡ region → IsOfferAt q i s
    → s.available ≡ c.place → Beats best s

-- the best costs less than the threshold and the greatest demotion
abbrev pub IsWithin : ℕ → Option Rank → Type 0
IsWithin threshold best = IfSome best (λ r. r.cost < threshold + 65535)

-- a candidate stands for the available identifier at its place
pub record IsRowOf (likely : LikelySubtags) (t : LanguageMatching)
    (available : List LanguageIdentifier) (c : Candidate) : Type 0 where
  pub identifier : LanguageIdentifier
  pub offered : slice_get available c.place ≡ Some identifier
  pub is : c ≡ candidate_of likely t c.place identifier

-- what is known of a request
pub record IsAsked (m : Search) (a : Asked) : Type 0 where
  pub stands : slice_get a.requests.now a.place ≡ Some a.request.now
  pub form : a.form ≡ form_of (likely m.expander) a.request.now
  pub is_macro : a.is_macro ≡ is_macro m.matching.now.macros a.form.region
  pub levels : shown a.levels ≡ levels_for m.matching.now a.form.language
  pub known : AreKnown a.levels.region.rules.now a.form a.known
  pub least : (d s : DataLocale)
      → a.least ≤ level_distance (shown_level a.levels.region) d s
  pub demoted : a.demoted ≡ demotion_at m.limits.demotion a.place

-- no later request can be better, since each costs as much before its distance is added
abbrev pub is_settled : ℕ → Option Rank → Bool
is_settled demoted None = false
is_settled demoted (Some r) = nat_le r.cost demoted

-- what the distance from a request that costs so much has to be less than, to be the best
abbrev pub limit : ℕ → ℕ → Option Rank → ℕ
limit threshold demoted None = threshold
limit threshold demoted (Some r) = min (r.cost + 1 - demoted) threshold

-- the lesser of two ranks, of which the first may be missing
abbrev pub lesser : Option Rank → Rank → Rank
lesser None s = s
lesser (Some r) s = if is_lt (rank_cmp s r) then s else r

-- r is the rank of a request and the available identifier of a candidate, at a distance
pub record IsRankAt (m : Search) (a : Asked) (c : Candidate) (distance : ℕ) (r : Rank)
    : Type 0 where
  pub identifier : LanguageIdentifier
  pub offered : slice_get m.candidates.now.identifiers.items c.place ≡ Some identifier
  pub is : r ≡ rank_at (asked_of m a.requests.now) (distance + a.demoted) a.place a.request.now
      c.place identifier
