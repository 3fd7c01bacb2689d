-- What is served where more is available.
use Rattle.std.proofs.Common.{◌≡◌, ℕ, zero, suc, Bool, true, false, List, [], ◌∷◌, Option, Some, None, IsSomeAnd, is_some, refl, sym, ap, ◌∙◌, subst, arith}
use Rattle.std.specs.List.{position, slice_get}
use Rattle.std.specs.Option.{option_map, option_or}
use Rattle.std.proofs.lemmas.Bool.{false≢true}
use Rattle.std.proofs.lemmas.List.Sums.{fails_before_first}
use Rattle.std.proofs.lemmas.Option.{none-some, same_Some, slice_get-map, slice_get_within, get_or_from_slice_get}
use Rattle.icu_locale_core.specs.declared.langid.LanguageIdentifier.{LanguageIdentifier}
use Rattle.icu_locale.specs.LikelySubtags.{LikelySubtags}
use Rattle.icu_locale.specs.LikelyTable.{likely}
use Rattle.icu_locale.specs.declared.canonicalizer.rules.Rules.{Rules}
use Rattle.icu_locale_extensions.specs.Syntaxes.{SpellsBy}
use Rattle.icu_locale_extensions.specs.declared.identifier.LocaleIdentifier.{LocaleIdentifier}
use Rattle.icu_locale_extensions.specs.declared.syntax.Syntax.{Syntax}
use Rattle.icu_locale_matching.specs.Header.{Wish, wanted, refused, refuses_any, wants_any, wishes_of}
use Rattle.icu_locale_matching.specs.Nearest.{Question, question, IsAmong, IsNearest, IsNoFarther, without_place, may_of, is_true, all_may}
use Rattle.icu_locale_matching.specs.Requests.{IsRequest, IsRefusal, AreRequests, AreRefusals, IsCanonicalOf, AreCanonical}
use Rattle.icu_locale_matching.specs.Service.{Service, IsServed, IsServedFor, IsServedBy, IsNearestTo, AreAmong, with_available, allowed, is_allowed, first_allowed, matching_of, place_of}
use Rattle.icu_locale_matching.specs.declared.matcher.Match.{Match}
use Rattle.icu_locale_matching.proofs.Choices.{chosen_may, found_is_chosen}
use Rattle.icu_locale_matching.proofs.Fewer.{order_alike, whole_is_no_farther}
use Rattle.icu_locale_matching.proofs.Inserts.{place_none}
use Rattle.icu_locale_matching.proofs.OneService.{wishes_one, asks_one, asked_one, canonical_one}
use Rattle.icu_locale_matching.proofs.Wished.{canonical_at}

-- ---- canonical forms of more

module _ (likely : LikelySubtags) (rules : Rules) where
  pub canonical_back : (xs ys : List LanguageIdentifier) (k : ℕ) (y : LanguageIdentifier) → AreCanonical likely rules xs ys → slice_get ys k ≡ Some y
      → (x : LanguageIdentifier) × (slice_get xs k ≡ Some x) × IsCanonicalOf likely rules x y
  canonical_back [] [] k y are at = absurd (none-some y at)
  canonical_back [] (w ∷ ys) k y are at = absurd are
  canonical_back (x ∷ xs) [] k y are at = absurd are
  canonical_back (x ∷ xs) (w ∷ ys) zero y are at = (x, refl, subst (IsCanonicalOf likely rules x) (same_Some w y at) are.0)
  canonical_back (x ∷ xs) (w ∷ ys) (suc k) y are at = canonical_back xs ys k y are.1 at

  canonical_among : (xs ys cs ds : List LanguageIdentifier) → AreCanonical likely rules xs cs → AreCanonical likely rules ys ds → AreAmong xs ys → AreAmong cs ds
  canonical_among xs ys cs ds first second among k y at =
      let back = canonical_back xs cs k y first at in
      let there = among k back.0 back.1 in
      (there.0, canonical_at likely rules ys ds there.0 back.0 y second there.1 back.2)

-- ---- for requests

requests_among : (s : Service) (more requests : List LanguageIdentifier) (a b : Option Match) → AreAmong s.available more
    → (p : IsNearestTo s requests a) (q : IsNearestTo (with_available s more) requests b)
    → IsAmong (question (matching_of s p.canonical) p.asked all_may) (question (matching_of s q.canonical) q.asked all_may)
requests_among s more requests a b among p q =
    let l = likely s.expander in
    let r = s.rules in
    let cs = canonical_among l r s.available more p.canonical q.canonical p.canonicalized q.canonicalized among in
    record {
      likely = refl;
      matching = refl;
      limits = refl;
      requests = canonical_one l r requests p.asked q.asked p.requested q.requested;
      each = λ k x at may. let there = cs k x at in (there.0, there.1, refl);
    }

pub more_is_no_farther : (s : Service) (more requests : List LanguageIdentifier) (m : Match) (result : Option Match) → AreAmong s.available more
    → IsNearestTo s requests (Some m) → IsNearestTo (with_available s more) requests result → IsSomeAnd result (IsNoFarther m)
more_is_no_farther s more requests m result among p q =
    whole_is_no_farther (question (matching_of s p.canonical) p.asked all_may) (question (matching_of s q.canonical) q.asked all_may) m result
    (requests_among s more requests (Some m) result among p q) p.nearest q.nearest

pub order_for_requests : (s : Service) (more requests : List LanguageIdentifier) (a b : Option Match) → AreAmong s.available more → AreAmong more s.available
    → IsNearestTo s requests a → IsNearestTo (with_available s more) requests b → option_map without_place a ≡ option_map without_place b
order_for_requests s more requests a b there back p q =
    order_alike (question (matching_of s p.canonical) p.asked all_may) (question (matching_of s q.canonical) q.asked all_may) a b
    (requests_among s more requests a b there p q) (requests_among (with_available s more) s.available requests b a back q p) p.nearest q.nearest

-- ---- for a header

-- what the nearest is asked over
abbrev asked_for : (s : Service) (wishes : List Wish) (result : Option ℕ) → IsServedFor s wishes result → Question
asked_for s wishes result f =
    question (matching_of s f.canonical) f.requests (may_of (allowed f.requests f.out (refuses_any wishes) f.canonical))

pub mark_at : (requests out : List LanguageIdentifier) (named : Bool) (xs : List LanguageIdentifier) (k : ℕ) (x : LanguageIdentifier) → slice_get xs k ≡ Some x
    → may_of (allowed requests out named xs) k ≡ is_allowed requests out named x
mark_at requests out named xs k x at =
    ap is_true (slice_get-map (is_allowed requests out named) xs k ∙ ap (option_map (is_allowed requests out named)) at)

some_true : (may : List Bool) (l : ℕ) → slice_get may l ≡ Some true → is_some (position (λ b. b) may) ≡ true
some_true may l at = by (position (λ b. b) may) refl
  where
    by : (o : Option ℕ) → position (λ b. b) may ≡ o → is_some (position (λ b. b) may) ≡ true
    by (Some k) is = ap is_some is
    by None none =
        let long = place_none (λ b. b) may none in
        let within = slice_get_within may l true at in
        absurd (false≢true (sym (fails_before_first (λ b. b) may l false (omega (arith, long, within))) ∙ get_or_from_slice_get may l true false at))

true_there : (o : Option Bool) → is_true o ≡ true → o ≡ Some true
true_there None e = absurd (false≢true e)
true_there (Some b) e = ap Some e

or_second : (o p : Option ℕ) → is_some p ≡ true → is_some (option_or o p) ≡ true
or_second None p e = e
or_second (Some k) p e = refl

module _ (spelled : (s : Syntax) (t : List ℕ) (x y : LocaleIdentifier) → SpellsBy s t x → SpellsBy s t y → x ≡ y) (s : Service) (more : List LanguageIdentifier)
    (among : AreAmong s.available more) (header : List ℕ) (a b : Option ℕ) (p : IsServed s header a) (q : IsServed (with_available s more) header b) where
  same_wishes : p.wishes ≡ q.wishes
  same_wishes = wishes_one (wishes_of header) p.wishes q.wishes p.sorted q.sorted

  same_requests : p.served.requests ≡ q.served.requests
  same_requests =
      let l = likely s.expander in
      let r = s.rules in
      asked_one (IsRequest l r) (asks_one l r spelled false) (wanted q.wishes) p.served.requests q.served.requests
      (subst (λ (ws : List Wish). AreRequests l r (wanted ws) p.served.requests) same_wishes p.served.requested) q.served.requested

  same_out : p.served.out ≡ q.served.out
  same_out =
      let l = likely s.expander in
      let r = s.rules in
      asked_one (IsRefusal l r) (asks_one l r spelled true) (refused q.wishes) p.served.out q.served.out
      (subst (λ (ws : List Wish). AreRefusals l r (refused ws) p.served.out) same_wishes p.served.taken_out) q.served.taken_out

  -- what may be served may be still
  lets : (k : ℕ) (x : LanguageIdentifier) → slice_get p.served.canonical k ≡ Some x
      → may_of (allowed p.served.requests p.served.out (refuses_any p.wishes) p.served.canonical) k ≡ true
      → (l : ℕ) × (slice_get q.served.canonical l ≡ Some x)
      × (may_of (allowed q.served.requests q.served.out (refuses_any q.wishes) q.served.canonical) l ≡ true)
  lets k x at may =
      let there = canonical_among (likely s.expander) s.rules s.available more p.served.canonical q.served.canonical p.served.canonicalized q.served.canonicalized among k x at in
      let first = mark_at p.served.requests p.served.out (refuses_any p.wishes) p.served.canonical k x at in
      let second = mark_at q.served.requests q.served.out (refuses_any q.wishes) q.served.canonical there.0 x there.1 in
      let alike : is_allowed p.served.requests p.served.out (refuses_any p.wishes) x ≡ is_allowed q.served.requests q.served.out (refuses_any q.wishes) x =
      λ i. is_allowed (same_requests i) (same_out i) (refuses_any (same_wishes i)) x in
      (there.0, there.1, second ∙ sym alike ∙ sym first ∙ may)

  asked_among_more : IsAmong (asked_for s p.wishes a p.served) (asked_for (with_available s more) q.wishes b q.served)
  asked_among_more = record {
    likely = refl;
    matching = refl;
    limits = refl;
    requests = same_requests;
    each = lets;
  }

  pub found_no_farther : (m : Match) (found : Option Match) → p.served.choice.found ≡ Some m → q.served.choice.found ≡ found → IsSomeAnd found (IsNoFarther m)
  found_no_farther m found first second =
      whole_is_no_farther (asked_for s p.wishes a p.served) (asked_for (with_available s more) q.wishes b q.served) m found asked_among_more
      (subst (IsNearest (asked_for s p.wishes a p.served)) first p.served.choice.nearest)
      (subst (IsNearest (asked_for (with_available s more) q.wishes b q.served)) second q.served.choice.nearest)

  found_still : (o : Option Match) → p.served.choice.found ≡ o → is_some o ≡ true → is_some q.served.choice.found ≡ true
  found_still None first some = absurd (false≢true some)
  found_still (Some m) first some = there q.served.choice.found (found_no_farther m q.served.choice.found first refl)
    where
      there : (o : Option Match) → IsSomeAnd o (IsNoFarther m) → is_some o ≡ true
      there None is = absurd is
      there (Some n) is = refl

  -- what is allowed first
  pub first_still : (place : ℕ) → first_allowed (wants_any p.wishes) (allowed p.served.requests p.served.out (refuses_any p.wishes) p.served.canonical) ≡ Some place
      → may_of (allowed p.served.requests p.served.out (refuses_any p.wishes) p.served.canonical) place ≡ true
      → is_some b ≡ true
  first_still place first may = by (wants_any p.wishes) refl first
    where
      mask : List Bool
      mask = allowed p.served.requests p.served.out (refuses_any p.wishes) p.served.canonical

      by : (any : Bool) → wants_any p.wishes ≡ any → first_allowed any mask ≡ Some place → is_some b ≡ true
      by false is first = absurd (none-some place first)
      by true is first =
          let at = there_by (slice_get p.served.canonical place) refl in
          let still = lets place at.0 at.1 may in
          let masked = true_there (slice_get (allowed q.served.requests q.served.out (refuses_any q.wishes) q.served.canonical) still.0) still.2 in
          let some = some_true (allowed q.served.requests q.served.out (refuses_any q.wishes) q.served.canonical) still.0 masked in
          let any : wants_any q.wishes ≡ true = ap wants_any (sym same_wishes) ∙ is in
          ap is_some (q.served.choice.is ∙ ap (λ w. option_or (place_of q.served.choice.found)
          (first_allowed w (allowed q.served.requests q.served.out (refuses_any q.wishes) q.served.canonical))) any)
          ∙ or_second (place_of q.served.choice.found) _ some
        where
          there_by : (o : Option LanguageIdentifier) → slice_get p.served.canonical place ≡ o
              → (x : LanguageIdentifier) × (slice_get p.served.canonical place ≡ Some x)
          there_by (Some x) at = (x, at)
          there_by None at = absurd (false≢true (sym (ap is_true (slice_get-map (is_allowed p.served.requests p.served.out (refuses_any p.wishes)) p.served.canonical place
              ∙ ap (option_map (is_allowed p.served.requests p.served.out (refuses_any p.wishes))) at)) ∙ may))

  pub still_by : (place : ℕ) (found : Option Match) → a ≡ Some place → p.served.choice.found ≡ found → is_some b ≡ true
  still_by place (Some m) is here =
      found_is_chosen _ q.served.requests _ (wants_any q.wishes) b q.served.choice (found_still (Some m) here refl)
  still_by place None is here =
      let mask = allowed p.served.requests p.served.out (refuses_any p.wishes) p.served.canonical in
      let first : first_allowed (wants_any p.wishes) mask ≡ Some place =
      sym (ap (λ (o : Option Match). option_or (place_of o) (first_allowed (wants_any p.wishes) mask)) here) ∙ sym p.served.choice.is ∙ is in
      first_still place first (chosen_may (matching_of s p.served.canonical) p.served.requests mask (wants_any p.wishes) place
      (record { found = p.served.choice.found; nearest = p.served.choice.nearest; is = sym is ∙ p.served.choice.is }))

pub served_still : ((s : Syntax) (t : List ℕ) (x y : LocaleIdentifier) → SpellsBy s t x → SpellsBy s t y → x ≡ y)
    → (s : Service) (more : List LanguageIdentifier) (header : List ℕ) (place : ℕ) (result : Option ℕ) → AreAmong s.available more
    → IsServed s header (Some place) → IsServed (with_available s more) header result → is_some result ≡ true
served_still spelled s more header place result among p q =
    still_by spelled s more among header (Some place) result p q place p.served.choice.found refl refl

pub found_by_more : ((s : Syntax) (t : List ℕ) (x y : LocaleIdentifier) → SpellsBy s t x → SpellsBy s t y → x ≡ y)
    → (s : Service) (more : List LanguageIdentifier) (header : List ℕ) (a b : Option ℕ) (m : Match) (found : Option Match) → AreAmong s.available more
    → IsServedBy s header a (Some m) → IsServedBy (with_available s more) header b found → IsSomeAnd found (IsNoFarther m)
found_by_more spelled s more header a b m found among p q =
    found_no_farther spelled s more among header a b p.0 q.0 m found p.1 q.1

pub order_for_header : ((s : Syntax) (t : List ℕ) (x y : LocaleIdentifier) → SpellsBy s t x → SpellsBy s t y → x ≡ y)
    → (s : Service) (more : List LanguageIdentifier) (header : List ℕ) (a b : Option ℕ) (found other : Option Match) → AreAmong s.available more
    → AreAmong more s.available → IsServedBy s header a found → IsServedBy (with_available s more) header b other
    → option_map without_place found ≡ option_map without_place other
order_for_header spelled s more header a b found other there back p q =
    ap (option_map without_place) (sym p.1)
    ∙ order_alike (asked_for s p.0.wishes a p.0.served) (asked_for (with_available s more) q.0.wishes b q.0.served) p.0.served.choice.found q.0.served.choice.found
    (asked_among_more spelled s more there header a b p.0 q.0)
    (asked_among_more spelled (with_available s more) s.available back header b a q.0 p.0)
    p.0.served.choice.nearest q.0.served.choice.nearest
    ∙ ap (option_map without_place) q.1
