-- The best of a growing set of ranks.
use Rattle.std.proofs.Common.{◌≡◌, ◌⊎◌, ℕ, ◌+◌, ◌<◌, ◌≤◌, Bool, true, false, List, length, Option, Some, None, refl, ap, sym, ◌∙◌, subst, inl, inr, ⊎_elim, arith, if◌then◌else◌}
use Rattle.std.specs.List.{slice_get}
use Rattle.std.proofs.Math.Nat.{mul-le-mul_left}
use Rattle.std.specs.declared.cmp.Ordering.{Ordering}
use Rattle.std.specs.declared.cmp.Ordering.TheVariants.{Less, Equal, Greater}
use Rattle.std.specs.Ordering.{is_lt, is_le, is_gt, ordering_reverse, ordering_then, MatchOrdering}
use Rattle.std.specs.Cmp.{IsTotalOrder, bool_cmp_total}
use Rattle.std.specs.Ordering.{bool_cmp}
use Rattle.std.proofs.lemmas.Bool.{cases_lt, false≢true, leb-true}
use Rattle.std.proofs.lemmas.Cmp.{then_total, on_total, nat_cmp_total, tied_itself, ranked, upto}
use Rattle.std.proofs.lemmas.Option.{same_Some, slice_get_within}
use Rattle.icu_locale_core.specs.declared.langid.LanguageIdentifier.{LanguageIdentifier}
use Rattle.icu_locale_matching.specs.Nearest.{Question, IsOffer, IsLeastOf, demotion_at, form_of, rank_cmp, rank_of}
use Rattle.icu_locale_matching.specs.inner.Asked.{IsAsked, IsOfferBefore, IsOfferAt, Beats, Improves, BeatsUpto, BeatsThere, IsWithin, is_settled, limit, lesser}
use Rattle.icu_locale.specs.LikelyTable.{likely}
use Rattle.icu_provider.specs.declared.data_locale.DataLocale.{DataLocale}
use Rattle.icu_locale_matching.specs.Distance.{distance, favored}
use Rattle.icu_locale_matching.specs.inner.Levels.{shown, distance_favoring}
use Rattle.icu_locale_matching.specs.declared.search.Asked.{Asked}
use Rattle.icu_locale_matching.specs.declared.search.Search.{Search}
use Rattle.icu_locale_matching.specs.declared.rank.Rank.{Rank}
use Rattle.icu_locale_matching.specs.declared.candidates.Candidate.{Candidate}
use Rattle.icu_locale_matching.proofs.Favors.{distance_favored}

-- ---- the order

pub rank_total : IsTotalOrder rank_cmp
rank_total = then_total (on_total (λ (r : Rank). r.cost) nat_cmp_total)
    (then_total (on_total (λ (r : Rank). r.request) nat_cmp_total)
    (then_total (on_total (λ (r : Rank). r.spelled_otherwise) bool_cmp_total)
    (then_total (on_total (λ (r : Rank). r.varied) bool_cmp_total)
    (then_total (on_total (λ (r : Rank). r.unlikeliness) nat_cmp_total)
    (then_total (on_total (λ (r : Rank). r.off_paradigm) bool_cmp_total) (on_total (λ (r : Rank). r.available) nat_cmp_total))))))

le_from_not_gt : (o : Ordering) → is_gt o ≡ false → is_le o ≡ true
le_from_not_gt Less e = refl
le_from_not_gt Equal e = refl
le_from_not_gt Greater e = absurd (cc)

not_gt_from_le : (o : Ordering) → is_le o ≡ true → is_gt o ≡ false
not_gt_from_le Less e = refl
not_gt_from_le Equal e = refl
not_gt_from_le Greater e = absurd (cc)

le_from_lt : (o : Ordering) → is_lt o ≡ true → is_le o ≡ true
le_from_lt Less e = refl
le_from_lt Equal e = absurd (cc)
le_from_lt Greater e = absurd (cc)

le_from_not_lt_back : (o p : Ordering) → p ≡ ordering_reverse o → is_lt o ≡ false → is_le p ≡ true
le_from_not_lt_back Less p back e = absurd (cc)
le_from_not_lt_back Equal p back e = ap is_le back
le_from_not_lt_back Greater p back e = ap is_le back

le_itself : (r : Rank) → is_le (rank_cmp r r) ≡ true
le_itself r = ap is_le (tied_itself rank_total r)

le_through : (r s t : Rank) → is_le (rank_cmp r s) ≡ true → is_le (rank_cmp s t) ≡ true → is_le (rank_cmp r t) ≡ true
le_through r s t a b = le_from_not_gt _ (upto rank_total r s t (not_gt_from_le _ a) (not_gt_from_le _ b))

le_first : (m n : ℕ) (o p : Ordering) → MatchOrdering o (m < n) (m ≡ n) (n < m) → m < n → is_le (ordering_then o p) ≡ true
le_first m n Less p is less = refl
le_first m n Equal p is less = absurd (omega (arith, is))
le_first m n Greater p is less = absurd (omega (arith, is))

le_second : (m n : ℕ) (o p : Ordering) → MatchOrdering o (m < n) (m ≡ n) (n < m) → m ≤ n → is_le p ≡ true → is_le (ordering_then o p) ≡ true
le_second m n Less p is least rest = refl
le_second m n Equal p is least rest = rest
le_second m n Greater p is least rest = absurd (omega (arith, is))

-- a lesser cost is a lesser rank
le_by_cost : (r s : Rank) → r.cost < s.cost → is_le (rank_cmp r s) ≡ true
le_by_cost r s less = le_first r.cost s.cost _ _ (ranked r.cost s.cost _ refl) less

-- so is an earlier request at no greater cost
le_by_request : (r s : Rank) → r.cost ≤ s.cost → r.request < s.request → is_le (rank_cmp r s) ≡ true
le_by_request r s least less = le_second r.cost s.cost _ _ (ranked r.cost s.cost _ refl) least
    (le_first r.request s.request _ _ (ranked r.request s.request _ refl) less)

-- a flag that is raised no sooner
le_flag : (a b : Bool) (p : Ordering) → (a ≡ true → b ≡ true) → is_le p ≡ true → is_le (ordering_then (bool_cmp a b) p) ≡ true
le_flag true true p raised rest = rest
le_flag true false p raised rest = absurd (false≢true (raised refl))
le_flag false true p raised rest = refl
le_flag false false p raised rest = rest

le_last : (m n : ℕ) (o : Ordering) → MatchOrdering o (m < n) (m ≡ n) (n < m) → m ≤ n → is_le o ≡ true
le_last m n Less is least = refl
le_last m n Equal is least = refl
le_last m n Greater is least = absurd (omega (arith, is, least))

-- a rank that is no greater in each step is no greater
pub le_in_each : (r s : Rank) → r.cost ≤ s.cost → r.request ≤ s.request → (r.spelled_otherwise ≡ true → s.spelled_otherwise ≡ true)
    → (r.varied ≡ true → s.varied ≡ true) → r.unlikeliness ≤ s.unlikeliness → (r.off_paradigm ≡ true → s.off_paradigm ≡ true)
    → r.available ≤ s.available → is_le (rank_cmp r s) ≡ true
le_in_each r s cost request spelled varied unlikely paradigm place =
    le_second r.cost s.cost _ _ (ranked r.cost s.cost _ refl) cost
    (le_second r.request s.request _ _ (ranked r.request s.request _ refl) request
    (le_flag r.spelled_otherwise s.spelled_otherwise _ spelled
    (le_flag r.varied s.varied _ varied
    (le_second r.unlikeliness s.unlikeliness _ _ (ranked r.unlikeliness s.unlikeliness _ refl) unlikely
    (le_flag r.off_paradigm s.off_paradigm _ paradigm
    (le_last r.available s.available _ (ranked r.available s.available _ refl) place))))))

-- what beats a rank beats a greater one
pub beats_greater : (best : Option Rank) (r s : Rank) → Beats best r → is_le (rank_cmp r s) ≡ true → Beats best s
beats_greater None r s beats le = absurd beats
beats_greater (Some b) r s beats le = le_through b r s beats le

-- ---- the least of a set

-- sets with the same members have the same least
pub IsLeastOf-same : {P Q : Rank → Type 0} (best : Option Rank) → ((s : Rank) → P s → Q s) → ((s : Rank) → Q s → P s)
    → IsLeastOf P best → IsLeastOf Q best
IsLeastOf-same None to back least = λ s h. least s (back s h)
IsLeastOf-same (Some r) to back least = (to r least.0, λ s h. least.1 s (back s h))

least_beats : (P : Rank → Type 0) (best : Option Rank) → IsLeastOf P best → (s : Rank) → P s → Beats best s
least_beats P None least s h = least s h
least_beats P (Some r) least s h = least.1 s h

-- ---- a better one

pub improves_itself : (q : Question) (i : ℕ) (best : Option Rank) → Improves q i best best
improves_itself q i best = record { among = λ r e. inl e; keeps = λ s h. h }

pub improves_through : (q : Question) (i : ℕ) (a b c : Option Rank) → Improves q i a b → Improves q i b c → Improves q i a c
improves_through q i a b c first second = record {
  among = λ r e. ⊎_elim (λ f. first.among r f) (λ o. inr o) (second.among r e);
  keeps = λ s h. second.keeps s (first.keeps s h);
}

-- the demotion of a request is small
pub demoted_small : (demotion i : ℕ) → demotion_at demotion i ≤ 65535
demoted_small demotion i = omega arith

-- and it rises
pub demoted_mono : (demotion i j : ℕ) → i ≤ j → demotion_at demotion i ≤ demotion_at demotion j
demoted_mono demotion i j upto = omega (arith, mul-le-mul_left demotion upto)

-- the cost of an offer
pub offer_cost : (q : Question) (r : Rank) (o : IsOffer q r)
    → r.cost ≡ distance q.matching (form_of q.likely o.request) (form_of q.likely o.identifier) + demotion_at q.limits.demotion r.request
offer_cost q r o = ap (λ (s : Rank). s.cost) o.is

offer_within : (q : Question) (r : Rank) → IsOffer q r → r.cost < q.limits.threshold + 65535
offer_within q r o = omega (arith, o.below, offer_cost q r o, demoted_small q.limits.demotion r.request)

pub within_improved : (q : Question) (i : ℕ) (old new : Option Rank) → IsWithin q.limits.threshold old → Improves q i old new → IsWithin q.limits.threshold new
within_improved q i old None within better = tt
within_improved q i old (Some r) within better =
    ⊎_elim (λ e. subst (IsWithin q.limits.threshold) e within) (λ o. offer_within q r o.offer) (better.among r refl)

pub beats_kept : (q : Question) (i : ℕ) (part : List Candidate) (n : ℕ) (old new : Option Rank) → Improves q i old new
    → BeatsUpto q i part n old → BeatsUpto q i part n new
beats_kept q i part n old new better beats = λ k c s within is o at. better.keeps s (beats k c s within is o at)

-- one more candidate
pub beats_more : (q : Question) (i : ℕ) (part : List Candidate) (n : ℕ) (c : Candidate) (old new : Option Rank) → slice_get part n ≡ Some c
    → Improves q i old new → BeatsUpto q i part n old → ((s : Rank) → IsOfferAt q i s → s.available ≡ c.place → Beats new s)
    → BeatsUpto q i part (n + 1) new
beats_more q i part n c old new stands better beats here = λ k d s upto is o at. ⊎_elim
    (λ earlier. better.keeps s (beats k d s earlier is o at))
    (λ later.
    let same : k ≡ n = omega arith in
    let one : d ≡ c = same_Some _ _ (sym is ∙ ap (slice_get part) same ∙ stands) in
    here s o (at ∙ ap (λ (e : Candidate). e.place) one))
    (cases_lt k n)

pub there_kept : (q : Question) (i : ℕ) (region : Option (List ℕ)) (part : List Candidate) (n : ℕ) (old new : Option Rank) → Improves q i old new
    → BeatsThere q i region part n old → BeatsThere q i region part n new
there_kept q i region part n old new better beats = λ k c s within is has o at. better.keeps s (beats k c s within is has o at)

-- one more candidate, that may have a region
pub there_more : (q : Question) (i : ℕ) (region : Option (List ℕ)) (part : List Candidate) (n : ℕ) (c : Candidate) (old new : Option Rank)
    → slice_get part n ≡ Some c → Improves q i old new → BeatsThere q i region part n old
    → ((s : Rank) → c.form.region ≡ region → IsOfferAt q i s → s.available ≡ c.place → Beats new s) → BeatsThere q i region part (n + 1) new
there_more q i region part n c old new stands better beats here = λ k d s upto is has o at. ⊎_elim
    (λ earlier. better.keeps s (beats k d s earlier is has o at))
    (λ later.
    let same : k ≡ n = omega arith in
    let one : d ≡ c = same_Some _ _ (sym is ∙ ap (slice_get part) same ∙ stands) in
    here s (ap (λ (e : Candidate). e.form.region) (sym one) ∙ has) o (at ∙ ap (λ (e : Candidate). e.place) one))
    (cases_lt k n)

-- an offer that is too far is beaten
pub dear_beaten : (q : Question) (best : Option Rank) (s : Rank) (o : IsOffer q s)
    → limit q.limits.threshold (demotion_at q.limits.demotion s.request) best ≤ distance q.matching (form_of q.likely o.request) (form_of q.likely o.identifier)
    → Beats best s
dear_beaten q None s o dear = omega (arith, o.below, dear)
dear_beaten q (Some r) s o dear =
    le_by_cost r s (omega (arith, dear, o.below, offer_cost q s o))

-- which of two is the lesser
lesser_cases : (b n : Rank) (t : Bool) → t ≡ is_lt (rank_cmp n b)
    → (((if t then n else b) ≡ b) × (is_le (rank_cmp b n) ≡ true)) ⊎ (((if t then n else b) ≡ n) × (is_le (rank_cmp n b) ≡ true))
lesser_cases b n true is = inr (refl, le_from_lt _ (sym is))
lesser_cases b n false is = inl (refl, le_from_not_lt_back _ _ (rank_total.antisymm b n) (sym is))

-- ---- one pair

module _ (q : Question) (i j : ℕ) (x y : LanguageIdentifier) (requested : slice_get q.requests i ≡ Some x) (offered : slice_get q.available j ≡ Some y) where
  pub is_this : (s : Rank) → IsOfferAt q i s → s.available ≡ j → s ≡ rank_of q i x j y
  is_this s o b =
      let same_x : o.offer.request ≡ x = same_Some _ _ (sym o.offer.requested ∙ ap (slice_get q.requests) o.at ∙ requested) in
      let same_y : o.offer.identifier ≡ y = same_Some _ _ (sym o.offer.offered ∙ ap (slice_get q.available) b ∙ offered) in
      o.offer.is ∙ (λ k. rank_of q (o.at k) (same_x k) (b k) (same_y k))

  module _ (may : q.may j ≡ true) where
    pub this : distance q.matching (form_of q.likely x) (form_of q.likely y) < q.limits.threshold → IsOfferAt q i (rank_of q i x j y)
    this below = record {
      offer = record { request = x; identifier = y; requested = requested; offered = offered; is = refl; below = below; may = may };
      at = refl;
    }

    -- where it is too far, it is beaten
    pub pair_beaten : (best : Option Rank)
        → limit q.limits.threshold (demotion_at q.limits.demotion i) best ≤ distance q.matching (form_of q.likely x) (form_of q.likely y)
        → (s : Rank) → IsOfferAt q i s → s.available ≡ j → Beats best s
    pair_beaten best dear s o at =
        let same_x : x ≡ o.offer.request = same_Some _ _ (sym requested ∙ ap (slice_get q.requests) (sym o.at) ∙ o.offer.requested) in
        let same_y : y ≡ o.offer.identifier = same_Some _ _ (sym offered ∙ ap (slice_get q.available) (sym at) ∙ o.offer.offered) in
        let far = subst (λ n. limit q.limits.threshold (demotion_at q.limits.demotion n) best ≤ distance q.matching (form_of q.likely x) (form_of q.likely y)) (sym o.at) dear in
        dear_beaten q best s o.offer (subst (λ d. limit q.limits.threshold (demotion_at q.limits.demotion s.request) best ≤ d)
        (λ k. distance q.matching (form_of q.likely (same_x k)) (form_of q.likely (same_y k))) far)

    -- else the lesser of both is better
    pub lesser_improves : (best : Option Rank) → distance q.matching (form_of q.likely x) (form_of q.likely y) < q.limits.threshold → Improves q i best (Some (lesser best (rank_of q i x j y)))
    lesser_improves None below = record {
      among = λ r e. inr (subst (IsOfferAt q i) (same_Some _ _ e) (this below));
      keeps = λ s h. absurd h;
    }
    lesser_improves (Some b) below = ⊎_elim
        (λ old. record {
          among = λ r e. inl (ap Some (sym old.0) ∙ e);
          keeps = λ s h. subst (λ t. is_le (rank_cmp t s) ≡ true) (sym old.0) h;
        })
        (λ new. record {
          among = λ r e. inr (subst (IsOfferAt q i) (sym new.0 ∙ same_Some _ _ e) (this below));
          keeps = λ s h. subst (λ t. is_le (rank_cmp t s) ≡ true) (sym new.0) (le_through _ b s new.1 h);
        })
        (lesser_cases b (rank_of q i x j y) _ refl)

    lesser_first : (best : Option Rank) → Beats (Some (lesser best (rank_of q i x j y))) (rank_of q i x j y)
    lesser_first None = le_itself (rank_of q i x j y)
    lesser_first (Some b) = ⊎_elim
        (λ old. subst (λ t. is_le (rank_cmp t (rank_of q i x j y)) ≡ true) (sym old.0) old.1)
        (λ new. subst (λ t. is_le (rank_cmp t (rank_of q i x j y)) ≡ true) (sym new.0) (le_itself (rank_of q i x j y)))
        (lesser_cases b (rank_of q i x j y) _ refl)

    pub lesser_beats : (best : Option Rank) (s : Rank) → IsOfferAt q i s → s.available ≡ j → Beats (Some (lesser best (rank_of q i x j y))) s
    lesser_beats best s o at = subst (Beats (Some (lesser best (rank_of q i x j y)))) (sym (is_this s o at)) (lesser_first best)

-- ---- request by request

-- before the first request nothing is offered
pub IsLeastOf-none : (q : Question) → IsLeastOf (IsOfferBefore q 0) None
IsLeastOf-none q = λ s h. omega (arith, h.before)

-- what beats each offer of a request is the least up to it
pub IsLeastOf-next : (q : Question) (i : ℕ) (best new : Option Rank) → IsLeastOf (IsOfferBefore q i) best → Improves q i best new
    → ((s : Rank) → IsOfferAt q i s → Beats new s) → IsLeastOf (IsOfferBefore q (i + 1)) new
IsLeastOf-next q i best new least better beats = by_new new better beats where
  by_new : (new : Option Rank) → Improves q i best new → ((s : Rank) → IsOfferAt q i s → Beats new s) → IsLeastOf (IsOfferBefore q (i + 1)) new
  by_new None better beats = λ s h. ⊎_elim
      (λ earlier. better.keeps s (least_beats (IsOfferBefore q i) best least s (record { offer = h.offer; before = earlier })))
      (λ later. beats s (record { offer = h.offer; at = omega (arith, h.before) }))
      (cases_lt s.request i)
  by_new (Some r) better beats = (
    ⊎_elim
        (λ e.
        let old : IsLeastOf (IsOfferBefore q i) (Some r) = subst (IsLeastOf (IsOfferBefore q i)) e least in
        record { offer = old.0.offer; before = omega (arith, old.0.before) })
        (λ o. record { offer = o.offer; before = omega (arith, o.at) })
        (better.among r refl),
    λ s h. ⊎_elim
        (λ earlier. better.keeps s (least_beats (IsOfferBefore q i) best least s (record { offer = h.offer; before = earlier })))
        (λ later. beats s (record { offer = h.offer; at = omega (arith, h.before) }))
        (cases_lt s.request i),
  )

-- the least costs less than the threshold and the greatest demotion
pub least_within : (q : Question) (i : ℕ) (best : Option Rank) → IsLeastOf (IsOfferBefore q i) best → IsWithin q.limits.threshold best
least_within q i None least = tt
least_within q i (Some r) least = offer_within q r least.0.offer

-- after the last request that is all
pub IsLeastOf-all : (q : Question) (i : ℕ) (best : Option Rank) → length q.requests ≤ i → IsLeastOf (IsOfferBefore q i) best → IsLeastOf (IsOffer q) best
IsLeastOf-all q i best all least = IsLeastOf-same best (λ s h. h.offer)
    (λ s o. record { offer = o; before = omega (arith, slice_get_within q.requests s.request o.request o.requested) }) least

-- a later request costs its demotion at least
demoted_at_least : (q : Question) (i : ℕ) (s : Rank) → IsOffer q s → i ≤ s.request → demotion_at q.limits.demotion i ≤ s.cost
demoted_at_least q i s o later = omega (arith, offer_cost q s o, demoted_mono q.limits.demotion i s.request later)

-- so where that is too much, it is all
pub IsLeastOf-early : (q : Question) (i : ℕ) (best : Option Rank) → is_settled (demotion_at q.limits.demotion i) best ≡ true
    → IsLeastOf (IsOfferBefore q i) best → IsLeastOf (IsOffer q) best
IsLeastOf-early q i None settled least = absurd (false≢true settled)
IsLeastOf-early q i (Some r) settled least =
    let dear = leb-true r.cost (demotion_at q.limits.demotion i) settled in (
      least.0.offer,
      λ s o. ⊎_elim
          (λ earlier. least.1 s (record { offer = o; before = earlier }))
          (λ later. le_by_request r s (omega (arith, dear, demoted_at_least q i s o later)) (omega (arith, least.0.before, later)))
          (cases_lt s.request i),
    )

-- the limit is the threshold at most
pub limit_within : (t d : ℕ) (best : Option Rank) → limit t d best ≤ t
limit_within t d None = omega arith
limit_within t d (Some r) = omega arith

-- ---- what the code holds

-- the distance over what is known of a request
pub asked_distance : (m : Search) (a : Asked) (y : LanguageIdentifier) (d : DataLocale) → IsAsked m a → d ≡ form_of (likely m.expander) y
    → distance_favoring m.limits.favor (shown a.levels) a.form d
    ≡ distance (favored m.limits.favor m.matching.now) (form_of (likely m.expander) a.request.now) (form_of (likely m.expander) y)
asked_distance m a y d known is = (λ k. distance_favoring m.limits.favor (known.levels k) a.form d)
    ∙ distance_favored m.limits.favor m.matching.now a.form d
    ∙ (λ k. distance (favored m.limits.favor m.matching.now) (known.form k) (is k))
