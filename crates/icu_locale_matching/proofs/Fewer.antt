-- What is served of a part of what is available.
use Rattle.std.proofs.Common.{◌≡◌, ℕ, ◌<◌, ◌≤◌, true, Option, Some, None, IsSomeAnd, refl, ap, sym, ◌∙◌, subst, ⊎_elim, arith}
use Rattle.std.specs.List.{slice_get}
use Rattle.std.specs.Option.{option_map}
use Rattle.std.specs.declared.cmp.Ordering.{Ordering}
use Rattle.std.specs.declared.cmp.Ordering.TheVariants.{Less, Equal, Greater}
use Rattle.std.specs.Ordering.{is_le, nat_cmp, bool_cmp, ordering_then, MatchOrdering}
use Rattle.std.proofs.lemmas.Bool.{cases_lt}
use Rattle.std.proofs.lemmas.Cmp.{ranked}
use Rattle.std.proofs.lemmas.Option.{same_Some, none-some}
use Rattle.icu_locale_core.specs.declared.langid.LanguageIdentifier.{LanguageIdentifier}
use Rattle.icu_locale_matching.specs.Distance.{distance}
use Rattle.icu_locale_matching.specs.Nearest.{Question, IsOffer, IsLeastOf, form_of, rank_cmp, rank_of, match_of, IsNearest, IsAmong, IsPart, IsNoFarther, moved_to, without_place}
use Rattle.icu_locale_matching.specs.declared.rank.Rank.{Rank}
use Rattle.icu_locale_matching.specs.declared.matcher.Match.{Match}
use Rattle.icu_locale_matching.proofs.Serving.{no_dearer, no_later}

-- a rank at another place
abbrev at_place : ℕ → Rank → Rank
at_place k r = record {
  cost = r.cost;
  request = r.request;
  spelled_otherwise = r.spelled_otherwise;
  varied = r.varied;
  unlikeliness = r.unlikeliness;
  off_paradigm = r.off_paradigm;
  available = k;
}

upto_number : (m n : ℕ) (o : Ordering) → MatchOrdering o (m < n) (m ≡ n) (n < m) → is_le o ≡ true → m ≤ n
upto_number m n Less is le = omega (arith, is)
upto_number m n Equal is le = omega (arith, is)
upto_number m n Greater is le = absurd (cc)

number_upto : (m n : ℕ) (o : Ordering) → MatchOrdering o (m < n) (m ≡ n) (n < m) → m ≤ n → is_le o ≡ true
number_upto m n Less is le = refl
number_upto m n Equal is le = refl
number_upto m n Greater is le = absurd (omega (arith, is, le))

last_by : (o p q : Ordering) → (is_le p ≡ true → is_le q ≡ true) → is_le (ordering_then o p) ≡ true → is_le (ordering_then o q) ≡ true
last_by Less p q by le = le
last_by Equal p q by le = by le
last_by Greater p q by le = le

-- ranks in the order of their places stay in order where the places do
in_order : (r s : Rank) (k l : ℕ) → (r.available ≤ s.available → k ≤ l) → is_le (rank_cmp r s) ≡ true → is_le (rank_cmp (at_place k r) (at_place l s)) ≡ true
in_order r s k l places le =
    last_by (nat_cmp r.cost s.cost) _ _
    (last_by (nat_cmp r.request s.request) _ _
    (last_by (bool_cmp r.spelled_otherwise s.spelled_otherwise) _ _
    (last_by (bool_cmp r.varied s.varied) _ _
    (last_by (nat_cmp r.unlikeliness s.unlikeliness) _ _
    (last_by (bool_cmp r.off_paradigm s.off_paradigm) _ _
    (λ last. number_upto k l _ (ranked k l _ refl) (places (upto_number r.available s.available _ (ranked r.available s.available _ refl) last)))))))) le

module _ (p q : Question) (likely : p.likely ≡ q.likely) (matching : p.matching ≡ q.matching) (limits : p.limits ≡ q.limits) (requests : p.requests ≡ q.requests) where
  same_rank : (i : ℕ) (x : LanguageIdentifier) (j k : ℕ) (y : LanguageIdentifier) → at_place k (rank_of p i x j y) ≡ rank_of q i x k y
  same_rank i x j k y = λ e. at_place k (rank_of (record {
    likely = likely e;
    matching = matching e;
    limits = limits e;
    requests = requests e;
    available = p.available;
    may = p.may;
  }) i x j y)

  same_distance : (x y : LanguageIdentifier) → distance p.matching (form_of p.likely x) (form_of p.likely y)
      ≡ distance q.matching (form_of q.likely x) (form_of q.likely y)
  same_distance x y = λ e. distance (matching e) (form_of (likely e) x) (form_of (likely e) y)

  lifted_to : (s : Rank) (o : IsOffer p s) (l : ℕ) → slice_get q.available l ≡ Some o.identifier → q.may l ≡ true → IsOffer q (at_place l s)
  lifted_to s o l offered may = record {
    request = o.request;
    identifier = o.identifier;
    requested = ap (λ xs. slice_get xs s.request) (sym requests) ∙ o.requested;
    offered = offered;
    is = ap (at_place l) o.is ∙ same_rank s.request o.request s.available l o.identifier;
    below = omega (arith, o.below, ap (λ l. l.threshold) limits, same_distance o.request o.identifier);
    may = may;
  }

-- ---- the whole is no farther

module _ (p q : Question) (among : IsAmong p q) where
  lifted_among : (s : Rank) → IsOffer p s → (l : ℕ) × IsOffer q (at_place l s)
  lifted_among s o =
      let there = among.each s.available o.identifier o.offered o.may in
      (there.0, lifted_to p q among.likely among.matching among.limits among.requests s o there.0 there.1 there.2)

  farther_by : (m : Match) (r : Rank) (best : Option Rank) → IsLeastOf (IsOffer p) (Some r) → match_of r ≡ m → IsLeastOf (IsOffer q) best
      → IsSomeAnd (option_map match_of best) (IsNoFarther m)
  farther_by m r None least is whole = let there = lifted_among r least.0 in absurd (whole _ there.1)
  farther_by m r (Some s) least is whole =
      let there = lifted_among r least.0 in
      let le = whole.1 _ there.1 in
      let cost = ap (λ (n : Match). n.cost) is in
      let request = ap (λ (n : Match). n.request) is in
      let dear = no_dearer s (at_place there.0 r) le in
      record {
        cost = omega (arith, dear, cost);
        request = λ same. let early = no_later s (at_place there.0 r) le (same ∙ sym cost) in omega (arith, early, request);
      }

  whole_by : (m : Match) (result : Option Match) (best : Option Rank) → IsLeastOf (IsOffer p) best → Some m ≡ option_map match_of best → IsNearest q result
      → IsSomeAnd result (IsNoFarther m)
  whole_by m result None least is nearest = absurd (none-some m (sym is))
  whole_by m result (Some r) least is nearest = subst (λ o. IsSomeAnd o (IsNoFarther m)) (sym nearest.is)
      (farther_by m r nearest.best least (same_Some (match_of r) m (sym is)) nearest.least)

pub whole_is_no_farther : (p q : Question) (m : Match) (result : Option Match) → IsAmong p q → IsNearest p (Some m) → IsNearest q result
    → IsSomeAnd result (IsNoFarther m)
whole_is_no_farther p q m result among nearest whole = whole_by p q among m result nearest.best nearest.least nearest.is whole

-- each the other's part
pub order_alike : (p q : Question) (a b : Option Match) → IsAmong p q → IsAmong q p → IsNearest p a → IsNearest q b
    → option_map without_place a ≡ option_map without_place b
order_alike p q None None there back first second = refl
order_alike p q None (Some n) there back first second = absurd (whole_is_no_farther q p n None back second first)
order_alike p q (Some m) None there back first second = absurd (whole_is_no_farther p q m None there first second)
order_alike p q (Some m) (Some n) there back first second =
    let less : IsNoFarther m n = whole_is_no_farther p q m (Some n) there first second in
    let more : IsNoFarther n m = whole_is_no_farther q p n (Some m) back second first in
    let cost : m.cost ≡ n.cost = omega (arith, less.cost, more.cost) in
    let request : m.request ≡ n.request = omega (arith, less.request (sym cost), more.request cost) in
    λ i. Some (cost i, request i)

-- ---- the part has the same

module _ (p q : Question) (f : ℕ → ℕ) (part : IsPart p q f) where
  lifted : (s : Rank) → IsOffer p s → IsOffer q (at_place (f s.available) s)
  lifted s o = lifted_to p q part.likely part.matching part.limits part.requests s o (f s.available)
      (part.offered s.available o.identifier o.offered) (part.may s.available o.may)

  places_back : (k l : ℕ) → f k ≤ f l → k ≤ l
  places_back k l le = ⊎_elim (λ less. absurd (let rise = part.rises l k less in omega (arith, rise, le))) (λ upto. upto) (cases_lt l k)

  module _ (k : ℕ) (x : LanguageIdentifier) (stands : slice_get p.available k ≡ Some x) (may : p.may k ≡ true) where
    kept : (r : Rank) → r.available ≡ f k → IsLeastOf (IsOffer q) (Some r) → IsLeastOf (IsOffer p) (Some (at_place k r))
    kept r there least =
        let o = least.0 in
        let same : x ≡ o.identifier = same_Some x o.identifier (sym (part.offered k x stands) ∙ ap (slice_get q.available) (sym there) ∙ o.offered) in (
          record {
            request = o.request;
            identifier = o.identifier;
            requested = ap (λ xs. slice_get xs r.request) part.requests ∙ o.requested;
            offered = stands ∙ ap Some same;
            is = ap (at_place k) o.is ∙ sym (same_rank p q part.likely part.matching part.limits part.requests r.request o.request k k o.identifier);
            below = omega (arith, o.below, ap (λ l. l.threshold) part.limits, same_distance p q part.likely part.matching part.limits part.requests o.request o.identifier);
            may = may;
          },
          λ s offer. in_order r (at_place (f s.available) s) k s.available
              (λ le. places_back k s.available (omega (arith, le, there)))
              (least.1 _ (lifted s offer)),
        )

    kept_by : (m : Match) (best : Option Rank) → m.available ≡ f k → IsLeastOf (IsOffer q) best → Some m ≡ option_map match_of best → IsNearest p (Some (moved_to k m))
    kept_by m None there least is = absurd (none-some m (sym is))
    kept_by m (Some r) there least is =
        let same : match_of r ≡ m = same_Some (match_of r) m (sym is) in
        record {
          best = Some (at_place k r);
          least = kept r (ap (λ (n : Match). n.available) same ∙ there) least;
          is = ap Some (sym (ap (moved_to k) same));
        }

pub part_has_the_same : (p q : Question) (f : ℕ → ℕ) (k : ℕ) (x : LanguageIdentifier) (m : Match) → IsPart p q f → slice_get p.available k ≡ Some x
    → p.may k ≡ true → m.available ≡ f k → IsNearest q (Some m) → IsNearest p (Some (moved_to k m))
part_has_the_same p q f k x m part stands may there nearest = kept_by p q f part k x stands may m nearest.best there nearest.least nearest.is
