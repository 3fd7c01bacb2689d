-- What a header's elements do.
use Rattle.std.proofs.Common.{◌≡◌, ◌↔◌, ℕ, zero, suc, ◌≤◌, Bool, true, false, cond, ◌==◌, ◌||◌, not, codes, List, [], ◌∷◌, ◌++◌, length, take, Option, Some, None, refl, sym, ap, ◌∙◌, subst, arith, if◌then◌else◌}
use Rattle.std.specs.List.{filter, filter_map, cons_option, list_any, slice_get}
use Rattle.std.specs.Option.{option_map, option_or}
use Rattle.std.proofs.lemmas.Bool.{false≢true, and_parts, not-true}
use Rattle.std.proofs.lemmas.Bool.Decides.{nat_tests}
use Rattle.std.proofs.lemmas.List.Elements.{filter-append, filter_map-append}
use Rattle.std.proofs.lemmas.Option.{none-some, same_Some, slice_get-map}
use Rattle.icu_locale_core.specs.declared.langid.LanguageIdentifier.{LanguageIdentifier}
use Rattle.icu_locale.specs.LikelySubtags.{LikelySubtags}
use Rattle.icu_locale.specs.LikelyTable.{likely}
use Rattle.icu_locale.specs.declared.canonicalizer.rules.Rules.{Rules}
use Rattle.icu_locale_extensions.specs.Syntaxes.{SpellsBy}
use Rattle.icu_locale_extensions.specs.declared.identifier.LocaleIdentifier.{LocaleIdentifier}
use Rattle.icu_locale_extensions.specs.declared.syntax.Syntax.{Syntax}
use Rattle.icu_locale_extensions.specs.declared.syntax.Syntax.TheVariants.{Bcp47}
use Rattle.icu_locale_matching.specs.Header.{Wish, has_weight, is_blank, elements_among, elements_of, read_element, wishes_of, AreByWeight, refused, refuses_any, wants_any}
use Rattle.icu_locale_matching.specs.Nearest.{Matching, question, IsNearest, IsOffer, IsLeastOf, match_of, may_of, is_true}
use Rattle.icu_locale_matching.specs.Requests.{IsOnly, IsRequest, IsRefusal, AreAsked, IsCanonicalOf, AreCanonical}
use Rattle.icu_locale_matching.specs.Service.{Service, IsServed, IsServedFor, IsRefusedIn, IsCanonicalAt, IsUnread, covers, is_covered, is_allowed, allowed, first_allowed, first_place, place_of, matching_of}
use Rattle.icu_locale_matching.specs.declared.matcher.Match.{Match}
use Rattle.icu_locale_matching.specs.declared.rank.Rank.{Rank}
use Rattle.icu_locale_matching.proofs.Choices.{chosen_may, first_of_all}
use Rattle.icu_locale_matching.proofs.OneService.{wishes_one, brought_one, asks_one}

-- ---- elements that cannot be read

without_none : (o : Option Wish) (ws : List Wish) → o ≡ None → cons_option o ws ≡ ws
without_none None ws none = refl
without_none (Some w) ws none = absurd (none-some w (sym none))

abbrev holds : List ℕ → Bool
holds p = not (is_blank p)

unread_out : (e : List ℕ) (before after : List (List ℕ)) → read_element e ≡ None
    → filter_map read_element (before ++ e ∷ after) ≡ filter_map read_element (before ++ after)
unread_out e before after none =
    filter_map-append read_element before (e ∷ after)
    ∙ ap (λ ws. filter_map read_element before ++ ws) (without_none (read_element e) (filter_map read_element after) none)
    ∙ sym (filter_map-append read_element before after)

take_all : {X : Type 0} (n : ℕ) (xs : List X) → length xs ≤ n → take n xs ≡ xs
take_all zero [] le = refl
take_all (suc n) [] le = refl
take_all zero (x ∷ xs) le = absurd (omega arith)
take_all (suc n) (x ∷ xs) le = ap (λ ys. x ∷ ys) (take_all n xs (omega arith))

shorter : (before after : List (List ℕ)) (e : List ℕ) → length (before ++ after) ≤ length (before ++ e ∷ after)
shorter [] after e = omega arith
shorter (b ∷ before) after e = let rest = shorter before after e in omega (arith, rest)

-- without the part the elements are the same, or fewer by it
elements_by : (more fewer : List ℕ) (u : IsUnread more fewer) (b : Bool) → is_blank u.part ≡ b → wishes_of more ≡ wishes_of fewer
elements_by more fewer u true blank =
    let parts = ap elements_among u.all ∙ filter-append holds u.before (u.part ∷ u.after)
    ∙ ap (λ ps. elements_among u.before ++ ps) (ap (λ b. cond (not b) (u.part ∷ elements_among u.after) (elements_among u.after)) blank)
    ∙ sym (ap elements_among u.others ∙ filter-append holds u.before u.after) in
    ap (λ es. filter_map read_element (take 100 es)) parts
elements_by more fewer u false blank =
    let before = elements_among u.before in
    let after = elements_among u.after in
    let all : elements_of more ≡ before ++ u.part ∷ after = ap elements_among u.all ∙ filter-append holds u.before (u.part ∷ u.after)
    ∙ ap (λ ps. elements_among u.before ++ ps) (ap (λ b. cond (not b) (u.part ∷ elements_among u.after) (elements_among u.after)) blank) in
    let others : elements_of fewer ≡ before ++ after = ap elements_among u.others ∙ filter-append holds u.before u.after in
    let most = u.few blank in
    let few : length (elements_of fewer) ≤ 100 = omega (arith, ap length all, ap length others, shorter before after u.part, most) in
    ap (filter_map read_element) (take_all 100 (elements_of more) most ∙ all)
    ∙ unread_out u.part before after u.unread
    ∙ ap (filter_map read_element) (sym others ∙ sym (take_all 100 (elements_of fewer) few))

same_wishes : (more fewer : List ℕ) → IsUnread more fewer → wishes_of more ≡ wishes_of fewer
same_wishes more fewer u = elements_by more fewer u (is_blank u.part) refl

served_alike : (s : Service) (g h : List ℕ) (result : Option ℕ) → wishes_of g ≡ wishes_of h → IsServed s g result → IsServed s h result
served_alike s g h result same is = record {
  wishes = is.wishes;
  sorted = subst (λ ws. AreByWeight ws is.wishes) same is.sorted;
  served = is.served;
}

pub unread_alike : (s : Service) (more fewer : List ℕ) (result : Option ℕ) → IsUnread more fewer → (IsServed s more result) ↔ (IsServed s fewer result)
unread_alike s more fewer result u =
    (served_alike s more fewer result (same_wishes more fewer u), served_alike s fewer more result (sym (same_wishes more fewer u)))

-- ---- elements of weight 0

kept_first : {X : Type 0} (b : Bool) (x : X) (rest : List X) → b ≡ true → slice_get (if b then x ∷ rest else rest) 0 ≡ Some x
kept_first true x rest is = refl
kept_first false x rest is = absurd (false≢true is)

kept_later : {X : Type 0} (b : Bool) (x c : X) (rest : List X) (k : ℕ) → slice_get rest k ≡ Some c
    → (l : ℕ) × (slice_get (if b then x ∷ rest else rest) l ≡ Some c)
kept_later true x c rest k is = (suc k, is)
kept_later false x c rest k is = (k, is)

pub filter_has : {X : Type 0} (p : X → Bool) (xs : List X) (k : ℕ) (c : X) → slice_get xs k ≡ Some c → p c ≡ true
    → (l : ℕ) × (slice_get (filter p xs) l ≡ Some c)
filter_has p [] k c is passes = absurd (none-some c is)
filter_has p (x ∷ xs) zero c is passes =
    let same = same_Some x c is in (0, kept_first (p x) x (filter p xs) (ap p same ∙ passes) ∙ is)
filter_has p (x ∷ xs) (suc k) c is passes = let rest = filter_has p xs k c is passes in kept_later (p x) x c (filter p xs) rest.0 rest.1

or_left : (a b : Bool) → (a || b) ≡ false → a ≡ false
or_left false b none = refl
or_left true b none = absurd (cc)

or_right : (a b : Bool) → (a || b) ≡ false → b ≡ false
or_right false b none = none
or_right true b none = absurd (cc)

any_none : {X : Type 0} (p : X → Bool) (xs : List X) (k : ℕ) (x : X) → slice_get xs k ≡ Some x → list_any p xs ≡ false → p x ≡ false
any_none p [] k x is none = absurd (none-some x is)
any_none p (y ∷ ys) zero x is none = ap p (sym (same_Some y x is)) ∙ or_left (p y) (list_any p ys) none
any_none p (y ∷ ys) (suc k) x is none = any_none p ys k x is (or_right (p y) (list_any p ys) none)

not_none : (n : ℕ) → (suc n == 0) ≡ false
not_none n = grind (arith, nat_tests)

pub no_weight : (n : ℕ) → n ≡ 0 → (n == 0) ≡ true
no_weight n none = grind (arith, nat_tests)

module _ (P : List ℕ → LanguageIdentifier → Type 0) (one : (range : List ℕ) (y z : LanguageIdentifier) → P range y → P range z → y ≡ z) where
  asked_by : (w : Wish) (o : Option LanguageIdentifier) (rest ys : List LanguageIdentifier) (range : LanguageIdentifier)
      → IsOnly (P w.0) o → ys ≡ cons_option o rest → P w.0 range → slice_get ys 0 ≡ Some range
  asked_by w None rest ys range only is asks = absurd (only range asks)
  asked_by w (Some z) rest ys range only is asks =
      ap (λ (xs : List LanguageIdentifier). slice_get xs 0) is ∙ ap Some (one w.0 z range only asks)

  after_option : (o : Option LanguageIdentifier) (rest ys : List LanguageIdentifier) (k : ℕ) (x : LanguageIdentifier) → ys ≡ cons_option o rest
      → slice_get rest k ≡ Some x → (l : ℕ) × (slice_get ys l ≡ Some x)
  after_option None rest ys k x is at = (k, ap (λ (xs : List LanguageIdentifier). slice_get xs k) is ∙ at)
  after_option (Some z) rest ys k x is at = (suc k, ap (λ (xs : List LanguageIdentifier). slice_get xs (suc k)) is ∙ at)

  -- what a wish asks for is among what all ask for
  pub asked_among : (ws : List Wish) (ys : List LanguageIdentifier) (k : ℕ) (w : Wish) (range : LanguageIdentifier) → AreAsked P ws ys
      → slice_get ws k ≡ Some w → P w.0 range → (l : ℕ) × (slice_get ys l ≡ Some range)
  asked_among [] ys k w range are at asks = absurd (none-some w at)
  asked_among (v ∷ ws) ys zero w range are at asks =
      (0, asked_by v are.0 are.1 ys range are.2 are.4 (subst (λ (u : Wish). P u.0 range) (sym (same_Some v w at)) asks))
  asked_among (v ∷ ws) ys (suc k) w range are at asks =
      let later = asked_among ws are.1 k w range are.3 at asks in
      after_option are.0 are.1 ys later.0 range are.4 later.1

pub canonical_at : (likely : LikelySubtags) (rules : Rules) (xs ys : List LanguageIdentifier) (k : ℕ) (x y : LanguageIdentifier) → AreCanonical likely rules xs ys
    → slice_get xs k ≡ Some x → IsCanonicalOf likely rules x y → slice_get ys k ≡ Some y
canonical_at likely rules [] ys k x y are at is = absurd (none-some x at)
canonical_at likely rules (z ∷ xs) [] k x y are at is = absurd are
canonical_at likely rules (z ∷ xs) (w ∷ ys) zero x y are at is =
    let here = subst (λ (u : LanguageIdentifier). IsCanonicalOf likely rules u y) (sym (same_Some z x at)) is in
    ap Some (brought_one likely rules z w y are.0.0 here.0 are.0.1 here.1)
canonical_at likely rules (z ∷ xs) (w ∷ ys) (suc k) x y are at is = canonical_at likely rules xs ys k x y are.1 at is

pub refused_out : ((s : Syntax) (t : List ℕ) (x y : LocaleIdentifier) → SpellsBy s t x → SpellsBy s t y → x ≡ y)
    → (s : Service) (header : List ℕ) (place : ℕ) (range y : LanguageIdentifier) → IsRefusedIn s header range → IsCanonicalAt s place y
    → IsServed s header (Some place) → covers range y ≡ false
refused_out spelled s header place range y out at is =
    let l = likely s.expander in
    let f = is.served in
    let weight = no_weight out.wish.1 out.zero in
    let among = filter_has (has_weight 0) (wishes_of header) out.place out.wish out.stands weight in
    let listed : slice_get (refused is.wishes) among.0 ≡ Some out.wish =
    ap (λ (ws : List Wish). slice_get ws among.0) (is.sorted.same 0) ∙ among.1 in
    let taken = asked_among (IsRefusal l s.rules) (asks_one l s.rules spelled true) (refused is.wishes) f.out among.0 out.wish range f.taken_out listed out.asks in
    let here = canonical_at l s.rules s.available f.canonical place at.identifier y f.canonicalized at.stands at.canonical in
    let named = refuses_any is.wishes in
    let mask = allowed f.requests f.out named f.canonical in
    let may = chosen_may (matching_of s f.canonical) f.requests mask (wants_any is.wishes) place f.choice in
    let mark : may_of mask place ≡ is_allowed f.requests f.out named y =
    ap is_true (slice_get-map (is_allowed f.requests f.out named) f.canonical place ∙ ap (option_map (is_allowed f.requests f.out named)) here) in
    let both = and_parts (not (is_covered f.out y)) _ (sym mark ∙ may) in
    any_none (λ r. covers r y) f.out taken.0 range taken.1 (not-true _ both.0)

-- ---- `*` alone

abbrev any_wish : List Wish
any_wish = (codes "*", 1000) ∷ []

one_by_weight : (w : Wish) → AreByWeight (w ∷ []) (w ∷ [])
one_by_weight w = record { falls = λ i j d before within. absurd (omega (arith, before, within)); same = λ n. refl }

module _ (nothing : (x : LocaleIdentifier) → SpellsBy Bcp47 (codes "*") x → ⊥) (s : Service) where
  asks_nothing : (o : Option LanguageIdentifier) (rest ys : List LanguageIdentifier) → IsOnly (IsRequest (likely s.expander) s.rules (codes "*")) o
      → rest ≡ [] → ys ≡ cons_option o rest → ys ≡ []
  asks_nothing None rest ys only none is = is ∙ none
  asks_nothing (Some z) rest ys only none is = absurd (nothing only.tag only.spells)

  -- nothing is near to no request
  none_near : (m : Matching) (may : ℕ → Bool) (best : Option Rank) → IsLeastOf (IsOffer (question m [] may)) best → option_map match_of best ≡ None
  none_near m may None least = refl
  none_near m may (Some r) least = absurd (none-some least.0.request least.0.requested)

  first_of_canonical : (requests xs ys : List LanguageIdentifier) → AreCanonical (likely s.expander) s.rules xs ys
      → first_allowed true (allowed requests [] false ys) ≡ first_place xs
  first_of_canonical requests [] [] are = refl
  first_of_canonical requests [] (y ∷ ys) are = absurd are
  first_of_canonical requests (x ∷ xs) [] are = absurd are
  first_of_canonical requests (x ∷ xs) (y ∷ ys) are = sym (first_of_all requests true (y ∷ ys) refl (not_none (length ys)))

  for_any : (result : Option ℕ) → IsServedFor s any_wish result → result ≡ first_place s.available
  for_any result f =
      let none = asks_nothing f.requested.0 f.requested.1 f.requests f.requested.2 f.requested.3 f.requested.4 in
      let out : f.out ≡ [] = f.taken_out in
      let may = allowed f.requests f.out false f.canonical in
      let m = matching_of s f.canonical in
      let nearest = subst (λ (xs : List LanguageIdentifier). IsNearest (question m xs (may_of may)) f.choice.found) none f.choice.nearest in
      let found : f.choice.found ≡ None = nearest.is ∙ none_near m (may_of may) nearest.best nearest.least in
      f.choice.is
      ∙ ap (λ (o : Option Match). option_or (place_of o) (first_allowed true may)) found
      ∙ ap (λ (xs : List LanguageIdentifier). first_allowed true (allowed f.requests xs false f.canonical)) out
      ∙ first_of_canonical f.requests s.available f.canonical f.canonicalized

  pub any_serves_first : (result : Option ℕ) → IsServed s (codes "*") result → result ≡ first_place s.available
  any_serves_first result is =
      for_any result (subst (λ (ws : List Wish). IsServedFor s ws result)
      (wishes_one (wishes_of (codes "*")) is.wishes any_wish is.sorted (one_by_weight (codes "*", 1000))) is.served)
