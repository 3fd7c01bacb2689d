-- What the nearest is: one, below the threshold, and at no distance where it can be.
use Rattle.std.proofs.Common.{◌≡◌, ℕ, ◌+◌, ◌<◌, ◌≤◌, Bool, true, false, Option, Some, None, refl, ap, sym, ◌∙◌, subst, arith, IsSomeAnd, is_some, map, not}
use Rattle.std.specs.List.{slice_get}
use Rattle.std.specs.Option.{option_map}
use Rattle.std.specs.declared.cmp.Ordering.{Ordering}
use Rattle.std.specs.declared.cmp.Ordering.TheVariants.{Less, Equal, Greater}
use Rattle.std.specs.Ordering.{is_le, nat_cmp, bool_cmp, ordering_reverse, ordering_then, MatchOrdering}
use Rattle.std.proofs.lemmas.Cmp.{ranked, tied_itself}
use Rattle.std.proofs.lemmas.Option.{same_Some, none-some}
use Rattle.std.proofs.lemmas.Bool.{not-false}
use Rattle.icu_locale_core.specs.declared.langid.LanguageIdentifier.{LanguageIdentifier}
use Rattle.icu_locale_core.specs.laws.Identifiers.{same_parts, same_texts, identifiers_decide, sets_tell}
use Rattle.icu_locale.specs.LikelySubtags.{maximal_locale, subtags_of}
use Rattle.icu_locale.specs.Negotiation.{IsMatch}
use Rattle.icu_locale_core.specs.TextSet.{text_cmp}
use Rattle.icu_locale_core.specs.Maps.{value_at}
use Rattle.icu_locale_matching.specs.Distance.{distance, distance_by, levels_for, TellsApart}
use Rattle.icu_locale_matching.specs.Nearest.{Question, IsOffer, IsLeastOf, demotion_at, form_of, rank_cmp, rank_of, is_among, match_of, IsNearest, ServesFirst, IsSpelledFirst, IsFormedFirst, unlikeliness, paradigms_of, AgreeOn, with_matching, ScriptsAreFar, KeepsScript}
use Rattle.icu_provider.specs.laws.Requests.{both_tied}
use Rattle.icu_provider.specs.declared.matching.LanguageMatching.{LanguageMatching}
use Rattle.icu_locale_matching.specs.declared.rank.Rank.{Rank}
use Rattle.icu_locale_matching.specs.declared.matcher.Match.{Match}
use Rattle.icu_locale_matching.proofs.Ranks.{rank_total, offer_cost, IsLeastOf-same}
use Rattle.icu_locale_matching.proofs.Apart.{distance_zero, distance_itself, distance_agrees, script_kept, script_other}

-- ---- ranks that tie

same_number : (m n : ℕ) (o : Ordering) → MatchOrdering o (m < n) (m ≡ n) (n < m) → o ≡ Equal → m ≡ n
same_number m n Less is e = absurd (cc)
same_number m n Equal is e = is
same_number m n Greater is e = absurd (cc)

numbers_tied : (m n : ℕ) → nat_cmp m n ≡ Equal → m ≡ n
numbers_tied m n e = same_number m n _ (ranked m n _ refl) e

bools_tied : (a b : Bool) → bool_cmp a b ≡ Equal → a ≡ b
bools_tied false false e = refl
bools_tied false true e = absurd (cc)
bools_tied true false e = absurd (cc)
bools_tied true true e = refl

ranks_tied : (r s : Rank) → rank_cmp r s ≡ Equal → r ≡ s
ranks_tied r s e =
    let a = both_tied _ _ e in
    let b = both_tied _ _ a.1 in
    let c = both_tied _ _ b.1 in
    let v = both_tied _ _ c.1 in
    let d = both_tied _ _ v.1 in
    let f = both_tied _ _ d.1 in
    let cost = numbers_tied r.cost s.cost a.0 in
    let request = numbers_tied r.request s.request b.0 in
    let spelled = bools_tied r.spelled_otherwise s.spelled_otherwise c.0 in
    let varied = bools_tied r.varied s.varied v.0 in
    let unlikely = numbers_tied r.unlikeliness s.unlikeliness d.0 in
    let paradigm = bools_tied r.off_paradigm s.off_paradigm f.0 in
    let available = numbers_tied r.available s.available f.1 in
    λ i. record {
      cost = cost i;
      request = request i;
      spelled_otherwise = spelled i;
      varied = varied i;
      unlikeliness = unlikely i;
      off_paradigm = paradigm i;
      available = available i;
    }

tied_both_ways : (o p : Ordering) → o ≡ ordering_reverse p → is_le o ≡ true → is_le p ≡ true → o ≡ Equal
tied_both_ways Less Less back a b = absurd (cc)
tied_both_ways Less Equal back a b = absurd (cc)
tied_both_ways Less Greater back a b = absurd (cc)
tied_both_ways Equal p back a b = refl
tied_both_ways Greater p back a b = absurd (cc)

same_rank : (r s : Rank) → is_le (rank_cmp r s) ≡ true → is_le (rank_cmp s r) ≡ true → r ≡ s
same_rank r s a b = ranks_tied r s (tied_both_ways _ _ (rank_total.antisymm r s) a b)

-- ---- the nearest is one

least_is_one : (P : Rank → Type 0) (a b : Option Rank) → IsLeastOf P a → IsLeastOf P b → a ≡ b
least_is_one P None None none others = refl
least_is_one P None (Some s) none least = absurd (none s least.0)
least_is_one P (Some r) None least none = absurd (none r least.0)
least_is_one P (Some r) (Some s) first second = ap Some (same_rank r s (first.1 s second.0) (second.1 r first.0))

pub nearest_is_one : (q : Question) (a b : Option Match) → IsNearest q a → IsNearest q b → a ≡ b
nearest_is_one q a b first second =
    first.is ∙ ap (option_map match_of) (least_is_one (IsOffer q) first.best second.best first.least second.least) ∙ sym second.is

-- ---- it is below the threshold, the demotion aside

below_of : (q : Question) (m : Match) (best : Option Rank) → IsLeastOf (IsOffer q) best → Some m ≡ option_map match_of best → m.cost < q.limits.threshold + demotion_at q.limits.demotion m.request
below_of q m None least is = absurd (none-some m (sym is))
below_of q m (Some r) least is =
    let same : m ≡ match_of r = same_Some m (match_of r) is in
    let cost = ap (λ (n : Match). n.cost) same in
    let request = ap (λ (n : Match). demotion_at q.limits.demotion n.request) same in
    omega (arith, cost, request, offer_cost q r least.0, least.0.below)

pub served_below : (q : Question) (m : Match) → IsNearest q (Some m) → m.cost < q.limits.threshold + demotion_at q.limits.demotion m.request
served_below q m nearest = below_of q m nearest.best nearest.least nearest.is

-- ---- it may be served

may_by : (q : Question) (m : Match) (best : Option Rank) → IsLeastOf (IsOffer q) best → Some m ≡ option_map match_of best → q.may m.available ≡ true
may_by q m None least is = absurd (none-some m (sym is))
may_by q m (Some r) least is =
    let same = ap (λ (n : Match). n.available) (same_Some m (match_of r) is) in ap q.may same ∙ least.0.may

pub served_may : (q : Question) (m : Match) → IsNearest q (Some m) → q.may m.available ≡ true
served_may q m nearest = may_by q m nearest.best nearest.least nearest.is

-- ---- it has the script of its request

script_by : (q : Question) (m : Match) (best : Option Rank) → ScriptsAreFar q → IsLeastOf (IsOffer q) best → Some m ≡ option_map match_of best → KeepsScript q m
script_by q m None far least is = absurd (none-some m (sym is))
script_by q m (Some r) far least is =
    let o = least.0 in
    let same = same_Some m (match_of r) is in
    let d = form_of q.likely o.request in
    let s = form_of q.likely o.identifier in
    let levels = levels_for q.matching d.language in
    let near : distance_by levels d s < q.limits.threshold = o.below in
    let other : q.limits.threshold ≤ levels.script.other = omega (arith, far.other, script_other q.matching (value_at text_cmp q.matching.rules d.language)) in
    record {
      request = o.request;
      identifier = o.identifier;
      requested = ap (λ (n : Match). slice_get q.requests n.request) same ∙ o.requested;
      offered = ap (λ (n : Match). slice_get q.available n.available) same ∙ o.offered;
      same = script_kept levels d s q.limits.threshold (far.rules r.request o.request o.requested) other near;
    }

pub served_script : (q : Question) (m : Match) → ScriptsAreFar q → IsNearest q (Some m) → KeepsScript q m
served_script q m far nearest = script_by q m nearest.best far nearest.least nearest.is

-- ---- the first request is met where it can be

no_more : (m n : ℕ) (o p : Ordering) → MatchOrdering o (m < n) (m ≡ n) (n < m) → is_le (ordering_then o p) ≡ true → m ≤ n
no_more m n Less p is le = omega (arith, is)
no_more m n Equal p is le = omega (arith, is)
no_more m n Greater p is le = absurd (cc)

rest_no_more : (m n : ℕ) (o p : Ordering) → MatchOrdering o (m < n) (m ≡ n) (n < m) → m ≡ n → is_le (ordering_then o p) ≡ true → is_le p ≡ true
rest_no_more m n Less p is same le = absurd (omega (arith, is, same))
rest_no_more m n Equal p is same le = le
rest_no_more m n Greater p is same le = absurd (cc)

pub no_dearer : (r s : Rank) → is_le (rank_cmp r s) ≡ true → r.cost ≤ s.cost
no_dearer r s le = no_more r.cost s.cost _ _ (ranked r.cost s.cost _ refl) le

pub no_later : (r s : Rank) → is_le (rank_cmp r s) ≡ true → r.cost ≡ s.cost → r.request ≤ s.request
no_later r s le same = no_more r.request s.request _ _ (ranked r.request s.request _ refl)
    (rest_no_more r.cost s.cost _ _ (ranked r.cost s.cost _ refl) same le)

module _ (q : Question) (j : ℕ) (tells : TellsApart q.matching) (room : 0 < q.limits.threshold)
    (match : IsMatch q.likely q.requests q.available 0 j)
    (may : q.may j ≡ true) where
  equal_forms : form_of q.likely match.request ≡ form_of q.likely match.identifier
  equal_forms = ap subtags_of match.same

  exact : Rank
  exact = rank_of q 0 match.request j match.identifier

  pub exact_costs_nothing : (rank_of q 0 match.request j match.identifier).cost ≡ 0
  exact_costs_nothing =
      let none = (distance_zero q.matching (form_of q.likely match.request) (form_of q.likely match.identifier) tells).1 equal_forms in
      omega (arith, none)

  exact_offer : IsOffer q (rank_of q 0 match.request j match.identifier)
  exact_offer = record {
    request = match.request;
    identifier = match.identifier;
    requested = match.requested;
    offered = match.offered;
    is = refl;
    below = omega (arith, (distance_zero q.matching (form_of q.likely match.request) (form_of q.likely match.identifier) tells).1 equal_forms, room);
    may = may;
  }

  serves : (r : Rank) → IsOffer q r → is_le (rank_cmp r (rank_of q 0 match.request j match.identifier)) ≡ true → ServesFirst q (match_of r)
  serves r o le =
      let none : r.cost ≡ 0 = omega (arith, no_dearer r _ le, exact_costs_nothing) in
      let first : r.request ≡ 0 = omega (arith, no_later r _ le (none ∙ sym exact_costs_nothing)) in
      let sum = ap (λ (s : Rank). s.cost) o.is in
      let near : distance q.matching (form_of q.likely o.request) (form_of q.likely o.identifier) ≡ 0 = omega (arith, sum, none) in
      record {
        first = first;
        near = none;
        request = o.request;
        identifier = o.identifier;
        requested = ap (slice_get q.requests) (sym first) ∙ o.requested;
        offered = o.offered;
        same = (distance_zero q.matching (form_of q.likely o.request) (form_of q.likely o.identifier) tells).0 near;
      }

  serves_by : (best : Option Rank) → IsLeastOf (IsOffer q) best → IsSomeAnd (option_map match_of best) (ServesFirst q)
  serves_by None least = absurd (least _ exact_offer)
  serves_by (Some r) least = serves r least.0 (least.1 _ exact_offer)

pub first_request_is_served : (q : Question) (j : ℕ) (result : Option Match) → TellsApart q.matching → 0 < q.limits.threshold
    → IsMatch q.likely q.requests q.available 0 j → q.may j ≡ true → IsNearest q result → IsSomeAnd result (ServesFirst q)
first_request_is_served q j result tells room match may nearest =
    subst (λ m. IsSomeAnd m (ServesFirst q)) (sym nearest.is) (serves_by q j tells room match may nearest.best nearest.least)

-- ---- the first request in its own spelling

same_flag_after : (a b : Bool) (p : Ordering) → a ≡ b → is_le (ordering_then (bool_cmp a b) p) ≡ true → is_le p ≡ true
same_flag_after false false p same le = le
same_flag_after true true p same le = le
same_flag_after false true p same le = absurd (cc)
same_flag_after true false p same le = absurd (cc)

no_flag_after : (a b : Bool) (p : Ordering) → b ≡ false → is_le (ordering_then (bool_cmp a b) p) ≡ true → a ≡ false
no_flag_after false b p none le = refl
no_flag_after true false p none le = absurd (cc)
no_flag_after true true p none le = absurd (cc)

upto_number : (m n : ℕ) (o : Ordering) → MatchOrdering o (m < n) (m ≡ n) (n < m) → is_le o ≡ true → m ≤ n
upto_number m n Less is le = omega (arith, is)
upto_number m n Equal is le = omega (arith, is)
upto_number m n Greater is le = absurd (cc)

module _ (q : Question) (j : ℕ) (room : 0 < q.limits.threshold) (spelled : IsSpelledFirst q j) where
  own : Rank
  own = rank_of q 0 spelled.request j spelled.request

  own_costs_nothing : (rank_of q 0 spelled.request j spelled.request).cost ≡ 0
  own_costs_nothing = omega (arith, distance_itself q.matching (form_of q.likely spelled.request))

  own_spelling : (rank_of q 0 spelled.request j spelled.request).spelled_otherwise ≡ false
  own_spelling = ap not ((identifiers_decide spelled.request spelled.request).1 refl)

  own_offer : IsOffer q (rank_of q 0 spelled.request j spelled.request)
  own_offer = record {
    request = spelled.request;
    identifier = spelled.request;
    requested = spelled.requested;
    offered = spelled.offered;
    is = refl;
    below = omega (arith, distance_itself q.matching (form_of q.likely spelled.request), room);
    may = spelled.may;
  }

  own_least : (r : Rank) → IsOffer q r → is_le (rank_cmp r (rank_of q 0 spelled.request j spelled.request)) ≡ true
      → r ≡ rank_of q 0 spelled.request j spelled.request
  own_least r o le =
      let s = rank_of q 0 spelled.request j spelled.request in
      let none : r.cost ≡ 0 = omega (arith, no_dearer r _ le, own_costs_nothing) in
      let cost : r.cost ≡ s.cost = none ∙ sym own_costs_nothing in
      let first : r.request ≡ 0 = omega (arith, no_later r _ le cost) in
      let a = rest_no_more r.cost s.cost _ _ (ranked r.cost s.cost _ refl) cost le in
      let b = rest_no_more r.request s.request _ _ (ranked r.request s.request _ refl) first a in
      let flag = no_flag_after r.spelled_otherwise s.spelled_otherwise _ own_spelling b in
      let c = same_flag_after r.spelled_otherwise s.spelled_otherwise _ (flag ∙ sym own_spelling) b in
      let asked : o.request ≡ spelled.request = same_Some o.request spelled.request
      (sym o.requested ∙ ap (slice_get q.requests) first ∙ spelled.requested) in
      let alike : not (same_parts o.request o.identifier) ≡ false = sym (ap (λ (x : Rank). x.spelled_otherwise) o.is) ∙ flag in
      let same : o.request ≡ o.identifier = (identifiers_decide o.request o.identifier).0 (not-false _ alike) in
      let served : o.identifier ≡ spelled.request = sym same ∙ asked in
      let varied : r.varied ≡ s.varied = ap (λ (x : Rank). x.varied) o.is
      ∙ ap (λ (x : LanguageIdentifier). not (same_texts x.variants o.identifier.variants)) asked
      ∙ ap (λ (x : LanguageIdentifier). not (same_texts spelled.request.variants x.variants)) served in
      let unlikely : r.unlikeliness ≡ s.unlikeliness = ap (λ (x : Rank). x.unlikeliness) o.is
      ∙ ap (λ (x : LanguageIdentifier). (rank_of q r.request o.request r.available x).unlikeliness) served in
      let paradigm : r.off_paradigm ≡ s.off_paradigm = ap (λ (x : Rank). x.off_paradigm) o.is
      ∙ ap (λ (x : LanguageIdentifier). (rank_of q r.request o.request r.available x).off_paradigm) served in
      let v = same_flag_after r.varied s.varied _ varied c in
      let d = rest_no_more r.unlikeliness s.unlikeliness _ _ (ranked r.unlikeliness s.unlikeliness _ refl) unlikely v in
      let e = same_flag_after r.off_paradigm s.off_paradigm _ paradigm d in
      let before : r.available ≤ j = upto_number r.available j _ (ranked r.available j _ refl) e in
      let behind : j ≤ r.available = spelled.first r.available (o.offered ∙ ap Some served) o.may in
      let place : r.available ≡ j = omega (arith, before, behind) in
      λ i. record {
        cost = cost i;
        request = first i;
        spelled_otherwise = (flag ∙ sym own_spelling) i;
        varied = varied i;
        unlikeliness = unlikely i;
        off_paradigm = paradigm i;
        available = place i;
      }

  own_match : match_of (rank_of q 0 spelled.request j spelled.request) ≡ record { request = 0; available = j; cost = 0 }
  own_match = λ i. record { request = 0; available = j; cost = own_costs_nothing i }

  own_same : (s : Rank) → s ≡ rank_of q 0 spelled.request j spelled.request → is_le (rank_cmp (rank_of q 0 spelled.request j spelled.request) s) ≡ true
  own_same s same = ap is_le (ap (rank_cmp (rank_of q 0 spelled.request j spelled.request)) same
      ∙ tied_itself rank_total (rank_of q 0 spelled.request j spelled.request))

  -- it is no greater than another, by which of the two is
  own_upto : (s : Rank) → IsOffer q s → (o : Ordering) → rank_cmp s (rank_of q 0 spelled.request j spelled.request) ≡ o
      → rank_cmp (rank_of q 0 spelled.request j spelled.request) s ≡ ordering_reverse o
      → is_le (rank_cmp (rank_of q 0 spelled.request j spelled.request) s) ≡ true
  own_upto s offer Less is back = own_same s (own_least s offer (ap is_le is))
  own_upto s offer Equal is back = own_same s (own_least s offer (ap is_le is))
  own_upto s offer Greater is back = ap is_le back

  own_by : (best : Option Rank) → IsLeastOf (IsOffer q) best → option_map match_of best ≡ Some (record { request = 0; available = j; cost = 0 })
  own_by None least = absurd (least _ own_offer)
  own_by (Some r) least = ap Some (ap match_of (own_least r least.0 (least.1 _ own_offer)) ∙ own_match)

  own_is_least : IsLeastOf (IsOffer q) (Some (rank_of q 0 spelled.request j spelled.request))
  own_is_least = (own_offer, λ s offer. own_upto s offer (rank_cmp s (rank_of q 0 spelled.request j spelled.request)) refl (rank_total.antisymm (rank_of q 0 spelled.request j spelled.request) s))

pub own_spelling_is_served : (q : Question) (j : ℕ) (result : Option Match) → 0 < q.limits.threshold → IsSpelledFirst q j → IsNearest q result
    → result ≡ Some (record { request = 0; available = j; cost = 0 })
own_spelling_is_served q j result room spelled nearest = nearest.is ∙ own_by q j room spelled nearest.best nearest.least

-- and it is the nearest
pub own_spelling_is_nearest : (q : Question) (j : ℕ) → 0 < q.limits.threshold → IsSpelledFirst q j
    → IsNearest q (Some (record { request = 0; available = j; cost = 0 }))
own_spelling_is_nearest q j room spelled = record {
  best = Some (rank_of q 0 spelled.request j spelled.request);
  least = own_is_least q j room spelled;
  is = sym (ap Some (own_match q j room spelled));
}

-- ---- the first request by another spelling

flagged : (b : Bool) → (b ≡ true → ⊥) → not b ≡ true
flagged true never = absurd (never refl)
flagged false never = refl

module _ (q : Question) (j : ℕ) (tells : TellsApart q.matching) (room : 0 < q.limits.threshold) (formed : IsFormedFirst q j) where
  formed_costs_nothing : (rank_of q 0 formed.request j formed.identifier).cost ≡ 0
  formed_costs_nothing =
      let none = (distance_zero q.matching (form_of q.likely formed.request) (form_of q.likely formed.identifier) tells).1 (sym formed.form) in
      omega (arith, none)

  formed_otherwise : (rank_of q 0 formed.request j formed.identifier).spelled_otherwise ≡ true
  formed_otherwise = flagged (same_parts formed.request formed.identifier)
      (λ e. formed.unspelled j (formed.offered ∙ ap Some (sym ((identifiers_decide formed.request formed.identifier).0 e))) formed.may)

  formed_varied : (rank_of q 0 formed.request j formed.identifier).varied ≡ false
  formed_varied = ap not ((sets_tell formed.request.variants formed.identifier.variants).1 (sym formed.variants))

  formed_offer : IsOffer q (rank_of q 0 formed.request j formed.identifier)
  formed_offer = record {
    request = formed.request;
    identifier = formed.identifier;
    requested = formed.requested;
    offered = formed.offered;
    is = refl;
    below = omega (arith, (distance_zero q.matching (form_of q.likely formed.request) (form_of q.likely formed.identifier) tells).1 (sym formed.form), room);
    may = formed.may;
  }

  formed_least : (r : Rank) → IsOffer q r → is_le (rank_cmp r (rank_of q 0 formed.request j formed.identifier)) ≡ true
      → match_of r ≡ record { request = 0; available = j; cost = 0 }
  formed_least r o le =
      let s = rank_of q 0 formed.request j formed.identifier in
      let none : r.cost ≡ 0 = omega (arith, no_dearer r _ le, formed_costs_nothing) in
      let cost : r.cost ≡ s.cost = none ∙ sym formed_costs_nothing in
      let first : r.request ≡ 0 = omega (arith, no_later r _ le cost) in
      let a = rest_no_more r.cost s.cost _ _ (ranked r.cost s.cost _ refl) cost le in
      let b = rest_no_more r.request s.request _ _ (ranked r.request s.request _ refl) first a in
      let asked : o.request ≡ formed.request = same_Some o.request formed.request
      (sym o.requested ∙ ap (slice_get q.requests) first ∙ formed.requested) in
      let sum = ap (λ (x : Rank). x.cost) o.is in
      let near : distance q.matching (form_of q.likely o.request) (form_of q.likely o.identifier) ≡ 0 = omega (arith, sum, none) in
      let alike = (distance_zero q.matching (form_of q.likely o.request) (form_of q.likely o.identifier) tells).0 near in
      let form : form_of q.likely o.identifier ≡ form_of q.likely formed.request = sym alike ∙ ap (form_of q.likely) asked in
      let forms : form_of q.likely o.identifier ≡ form_of q.likely formed.identifier = form ∙ sym formed.form in
      let unspelled = flagged (same_parts o.request o.identifier)
      (λ e. formed.unspelled r.available
      (o.offered ∙ ap Some (sym ((identifiers_decide o.request o.identifier).0 e) ∙ asked)) o.may) in
      let other : r.spelled_otherwise ≡ true = ap (λ (x : Rank). x.spelled_otherwise) o.is ∙ unspelled in
      let c = same_flag_after r.spelled_otherwise s.spelled_otherwise _ (other ∙ sym formed_otherwise) b in
      let flag = no_flag_after r.varied s.varied _ formed_varied c in
      let v = same_flag_after r.varied s.varied _ (flag ∙ sym formed_varied) c in
      let unvaried : not (same_texts o.request.variants o.identifier.variants) ≡ false = sym (ap (λ (x : Rank). x.varied) o.is) ∙ flag in
      let variants : o.identifier.variants ≡ formed.request.variants =
      sym ((sets_tell o.request.variants o.identifier.variants).0 (not-false _ unvaried)) ∙ ap (λ (x : LanguageIdentifier). x.variants) asked in
      let unlikely : r.unlikeliness ≡ s.unlikeliness = ap (λ (x : Rank). x.unlikeliness) o.is ∙ ap (unlikeliness q.likely) forms in
      let paradigm : r.off_paradigm ≡ s.off_paradigm = ap (λ (x : Rank). x.off_paradigm) o.is
      ∙ ap (λ m. not (is_among (paradigms_of q.likely q.matching) m)) forms in
      let d = rest_no_more r.unlikeliness s.unlikeliness _ _ (ranked r.unlikeliness s.unlikeliness _ refl) unlikely v in
      let e = same_flag_after r.off_paradigm s.off_paradigm _ paradigm d in
      let before : r.available ≤ j = upto_number r.available j _ (ranked r.available j _ refl) e in
      let behind : j ≤ r.available = formed.first r.available o.identifier o.offered o.may form variants in
      let place : r.available ≡ j = omega (arith, before, behind) in
      λ i. record { request = first i; available = place i; cost = none i }

  -- an offer that is no greater is this one
  formed_one : (r : Rank) → IsOffer q r → is_le (rank_cmp r (rank_of q 0 formed.request j formed.identifier)) ≡ true
      → r ≡ rank_of q 0 formed.request j formed.identifier
  formed_one r o le =
      let same = formed_least r o le in
      let first : r.request ≡ 0 = ap (λ (m : Match). m.request) same in
      let place : r.available ≡ j = ap (λ (m : Match). m.available) same in
      let asked : o.request ≡ formed.request = same_Some o.request formed.request
      (sym o.requested ∙ ap (slice_get q.requests) first ∙ formed.requested) in
      let served : o.identifier ≡ formed.identifier = same_Some o.identifier formed.identifier
      (sym o.offered ∙ ap (slice_get q.available) place ∙ formed.offered) in
      o.is ∙ (λ i. rank_of q (first i) (asked i) (place i) (served i))

  formed_same : (s : Rank) → s ≡ rank_of q 0 formed.request j formed.identifier
      → is_le (rank_cmp (rank_of q 0 formed.request j formed.identifier) s) ≡ true
  formed_same s same = ap is_le (ap (rank_cmp (rank_of q 0 formed.request j formed.identifier)) same
      ∙ tied_itself rank_total (rank_of q 0 formed.request j formed.identifier))

  formed_upto : (s : Rank) → IsOffer q s → (o : Ordering) → rank_cmp s (rank_of q 0 formed.request j formed.identifier) ≡ o
      → rank_cmp (rank_of q 0 formed.request j formed.identifier) s ≡ ordering_reverse o
      → is_le (rank_cmp (rank_of q 0 formed.request j formed.identifier) s) ≡ true
  formed_upto s offer Less is back = formed_same s (formed_one s offer (ap is_le is))
  formed_upto s offer Equal is back = formed_same s (formed_one s offer (ap is_le is))
  formed_upto s offer Greater is back = ap is_le back

  formed_is_least : IsLeastOf (IsOffer q) (Some (rank_of q 0 formed.request j formed.identifier))
  formed_is_least = (
    formed_offer,
    λ s offer. formed_upto s offer (rank_cmp s (rank_of q 0 formed.request j formed.identifier)) refl
        (rank_total.antisymm (rank_of q 0 formed.request j formed.identifier) s),
  )

  formed_match : match_of (rank_of q 0 formed.request j formed.identifier) ≡ record { request = 0; available = j; cost = 0 }
  formed_match = λ i. record { request = 0; available = j; cost = formed_costs_nothing i }

  formed_by : (best : Option Rank) → IsLeastOf (IsOffer q) best → option_map match_of best ≡ Some (record { request = 0; available = j; cost = 0 })
  formed_by None least = absurd (least _ formed_offer)
  formed_by (Some r) least = ap Some (formed_least r least.0 (least.1 _ formed_offer))

pub own_form_is_served : (q : Question) (j : ℕ) (result : Option Match) → TellsApart q.matching → 0 < q.limits.threshold → IsFormedFirst q j
    → IsNearest q result → result ≡ Some (record { request = 0; available = j; cost = 0 })
own_form_is_served q j result tells room formed nearest = nearest.is ∙ formed_by q j tells room formed nearest.best nearest.least

-- and it is the nearest
pub own_form_is_nearest : (q : Question) (j : ℕ) → TellsApart q.matching → 0 < q.limits.threshold → IsFormedFirst q j
    → IsNearest q (Some (record { request = 0; available = j; cost = 0 }))
own_form_is_nearest q j tells room formed = record {
  best = Some (rank_of q 0 formed.request j formed.identifier);
  least = formed_is_least q j tells room formed;
  is = sym (ap Some (formed_match q j tells room formed));
}

-- ---- what it depends on

module _ (q : Question) (u : LanguageMatching) (agree : AgreeOn q u) where
  same_ranks : (i : ℕ) (x : LanguageIdentifier) (j : ℕ) (y : LanguageIdentifier) → slice_get q.requests i ≡ Some x
      → rank_of q i x j y ≡ rank_of (with_matching q u) i x j y
  same_ranks i x j y stands =
      let far = distance_agrees q.matching u (form_of q.likely x) (form_of q.likely y) (agree.rules i x stands) in
      let paradigm = ap (λ ps. not (is_among (map (maximal_locale q.likely) ps) (form_of q.likely y))) agree.paradigms in
      let r = rank_of q i x j y in
      λ k. record {
        cost = far k + demotion_at q.limits.demotion i;
        request = i;
        spelled_otherwise = r.spelled_otherwise;
        varied = r.varied;
        unlikeliness = r.unlikeliness;
        off_paradigm = paradigm k;
        available = j;
      }

  to_other : (s : Rank) → IsOffer q s → IsOffer (with_matching q u) s
  to_other s o = record {
    request = o.request;
    identifier = o.identifier;
    requested = o.requested;
    offered = o.offered;
    is = o.is ∙ same_ranks s.request o.request s.available o.identifier o.requested;
    below = omega (arith, o.below, distance_agrees q.matching u (form_of q.likely o.request) (form_of q.likely o.identifier) (agree.rules s.request o.request o.requested));
    may = o.may;
  }

  from_other : (s : Rank) → IsOffer (with_matching q u) s → IsOffer q s
  from_other s o = record {
    request = o.request;
    identifier = o.identifier;
    requested = o.requested;
    offered = o.offered;
    is = o.is ∙ sym (same_ranks s.request o.request s.available o.identifier o.requested);
    below = omega (arith, o.below, distance_agrees q.matching u (form_of q.likely o.request) (form_of q.likely o.identifier) (agree.rules s.request o.request o.requested));
    may = o.may;
  }

pub other_rules : (q : Question) (u : LanguageMatching) (result : Option Match) → AgreeOn q u → IsNearest q result → IsNearest (with_matching q u) result
other_rules q u result agree nearest = record {
  best = nearest.best;
  least = IsLeastOf-same nearest.best (to_other q u agree) (from_other q u agree) nearest.least;
  is = nearest.is;
}

-- ---- what is near is not lost

offered_best : (q : Question) (r : Rank) → IsOffer q r → (best : Option Rank) → IsLeastOf (IsOffer q) best → is_some (option_map match_of best) ≡ true
offered_best q r offer None least = absurd (least r offer)
offered_best q r offer (Some s) least = refl

pub near_is_served : (q : Question) (i j : ℕ) (request identifier : LanguageIdentifier) (result : Option Match) → slice_get q.requests i ≡ Some request
    → slice_get q.available j ≡ Some identifier → q.may j ≡ true
    → distance q.matching (form_of q.likely request) (form_of q.likely identifier) < q.limits.threshold → IsNearest q result → is_some result ≡ true
near_is_served q i j request identifier result requested offered may near nearest =
    let offer : IsOffer q (rank_of q i request j identifier) = record {
      request = request;
      identifier = identifier;
      requested = requested;
      offered = offered;
      is = refl;
      below = near;
      may = may;
    } in
    ap is_some nearest.is ∙ offered_best q (rank_of q i request j identifier) offer nearest.best nearest.least

pub spelled_is_served : (q : Question) (i j : ℕ) (request : LanguageIdentifier) (result : Option Match) → 0 < q.limits.threshold
    → slice_get q.requests i ≡ Some request → slice_get q.available j ≡ Some request → q.may j ≡ true → IsNearest q result → is_some result ≡ true
spelled_is_served q i j request result room requested offered may nearest =
    near_is_served q i j request request result requested offered may (omega (arith, distance_itself q.matching (form_of q.likely request), room)) nearest
