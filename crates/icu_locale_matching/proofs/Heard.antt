-- What a header asks for is served.
use Rattle.std.proofs.Common.{◌≡◌, ℕ, zero, suc, ◌<◌, Bool, true, false, cond, not, nat_lt, ◌==◌, ◌||◌, ◌&&◌, codes, List, [], ◌∷◌, Option, Some, None, is_some, refl, sym, ap, ◌∙◌, subst, arith}
use Rattle.std.specs.List.{AllZip, filter, list_any, slice_get, cons_option}
use Rattle.std.specs.Option.{option_or}
use Rattle.std.specs.Str.{bytes_eq}
use Rattle.std.proofs.lemmas.Bool.{false≢true, eqb-true}
use Rattle.std.proofs.lemmas.Bool.Decides.{nat_tests}
use Rattle.std.proofs.lemmas.Option.{none-some, same_Some}
use Rattle.std.proofs.lemmas.Slice.Eq.{bytes_eq-Decides}
use Rattle.icu_locale_core.specs.declared.langid.LanguageIdentifier.{LanguageIdentifier}
use Rattle.icu_locale.specs.LikelySubtags.{LikelySubtags}
use Rattle.icu_locale.specs.LikelyTable.{likely}
use Rattle.icu_locale.specs.declared.canonicalizer.rules.Rules.{Rules}
use Rattle.icu_locale_extensions.specs.Built.{bare}
use Rattle.icu_locale_extensions.specs.Syntaxes.{SpellsBy}
use Rattle.icu_locale_extensions.specs.declared.identifier.LocaleIdentifier.{LocaleIdentifier}
use Rattle.icu_locale_extensions.specs.declared.syntax.Syntax.{Syntax}
use Rattle.icu_locale_extensions.specs.declared.syntax.Syntax.TheVariants.{Bcp47}
use Rattle.icu_locale_matching.specs.Header.{Wish, has_weight, is_any, wanted, refused, refuses_any, wants_any, wishes_of}
use Rattle.icu_locale_matching.specs.Nearest.{question, IsNearest, may_of, all_may}
use Rattle.icu_locale_matching.specs.Requests.{IsOnly, IsTag, IsRequest, IsRefusal, AreAsked, AreRequests, AreRefusals, AreCanonical}
use Rattle.icu_locale_matching.specs.Service.{Service, IsServed, IsServedFor, IsNearestTo, IsWantedIn, IsRefusedIn, IsCanonicalAt, LetsServe, IsNear, IsPlain, covers, is_covered, is_allowed, allowed, first_allowed, matching_of, place_of}
use Rattle.icu_locale_matching.specs.declared.matcher.Match.{Match}
use Rattle.icu_locale_matching.proofs.Additions.{mark_at}
use Rattle.icu_locale_matching.proofs.Choices.{found_is_chosen, nearest_of_all}
use Rattle.icu_locale_matching.proofs.OneService.{wishes_one, asks_one, asked_one, canonical_one}
use Rattle.icu_locale_matching.proofs.Serving.{near_is_served, nearest_is_one}
use Rattle.icu_locale_matching.proofs.Wished.{asked_among, canonical_at, filter_has}

-- ---- what passes a filter

passed : {X : Type 0} (p : X → Bool) (b : Bool) (x : X) (rest : List X) (k : ℕ) (c : X) → p x ≡ b → slice_get (cond b (x ∷ rest) rest) k ≡ Some c
    → ((j : ℕ) → slice_get rest j ≡ Some c → p c ≡ true) → p c ≡ true
passed p true x rest zero c is at later = ap p (sym (same_Some x c at)) ∙ is
passed p true x rest (suc k) c is at later = later k at
passed p false x rest k c is at later = later k at

filter_passes : {X : Type 0} (p : X → Bool) (xs : List X) (k : ℕ) (c : X) → slice_get (filter p xs) k ≡ Some c → p c ≡ true
filter_passes p [] k c at = absurd (none-some c at)
filter_passes p (x ∷ xs) k c at = passed p (p x) x (filter p xs) k c refl at (λ j there. filter_passes p xs j c there)

found_in : {X : Type 0} (b : Bool) (x : X) (rest xs : List X) (k : ℕ) (c : X) → slice_get (cond b (x ∷ rest) rest) k ≡ Some c
    → ((j : ℕ) → slice_get rest j ≡ Some c → (l : ℕ) × (slice_get xs l ≡ Some c)) → (l : ℕ) × (slice_get (x ∷ xs) l ≡ Some c)
found_in true x rest xs zero c at later = (0, at)
found_in true x rest xs (suc k) c at later = let there = later k at in (suc there.0, there.1)
found_in false x rest xs k c at later = let there = later k at in (suc there.0, there.1)

filter_in : {X : Type 0} (p : X → Bool) (xs : List X) (k : ℕ) (c : X) → slice_get (filter p xs) k ≡ Some c → (l : ℕ) × (slice_get xs l ≡ Some c)
filter_in p [] k c at = absurd (none-some c at)
filter_in p (x ∷ xs) k c at = found_in (p x) x (filter p xs) xs k c at (λ j there. filter_in p xs j c there)

none_any : {X : Type 0} (p : X → Bool) (xs : List X) → ((k : ℕ) (x : X) → slice_get xs k ≡ Some x → p x ≡ false) → list_any p xs ≡ false
none_any p [] none = refl
none_any p (x ∷ xs) none = both (p x) (list_any p xs) (none 0 x refl) (none_any p xs (λ k y at. none (suc k) y at))
  where
    both : (a b : Bool) → a ≡ false → b ≡ false → (a || b) ≡ false
    both true b e f = absurd (false≢true (sym e))
    both false b e f = f

some_any : {X : Type 0} (p : X → Bool) (xs : List X) (k : ℕ) (x : X) → slice_get xs k ≡ Some x → p x ≡ true → list_any p xs ≡ true
some_any p [] k x at is = absurd (none-some x at)
some_any p (y ∷ ys) zero x at is = first (p y) (list_any p ys) (ap p (same_Some y x at) ∙ is)
  where
    first : (a b : Bool) → a ≡ true → (a || b) ≡ true
    first true b e = refl
    first false b e = absurd (false≢true e)
some_any p (y ∷ ys) (suc k) x at is = second (p y) (list_any p ys) (some_any p ys k x at is)
  where
    second : (a b : Bool) → b ≡ true → (a || b) ≡ true
    second true b e = refl
    second false b e = e

itself : (n : ℕ) → (n == n) ≡ true
itself n = grind (arith, nat_tests)

above : (n : ℕ) → 0 < n → nat_lt 0 n ≡ true
above n e = grind (arith, nat_tests)

-- ---- what is asked for is asked for by a wish

module _ (P : List ℕ → LanguageIdentifier → Type 0) where
  asker_by : (w : Wish) (o : Option LanguageIdentifier) (rest : List LanguageIdentifier) (ws : List Wish) (k : ℕ) (y : LanguageIdentifier)
      → IsOnly (P w.0) o → slice_get (cons_option o rest) k ≡ Some y
      → ((j : ℕ) → slice_get rest j ≡ Some y → (l : ℕ) × (v : Wish) × (slice_get ws l ≡ Some v) × P v.0 y)
      → (l : ℕ) × (v : Wish) × (slice_get (w ∷ ws) l ≡ Some v) × P v.0 y
  asker_by w None rest ws k y only at later = let there = later k at in (suc there.0, there.1, there.2, there.3)
  asker_by w (Some z) rest ws zero y only at later = (0, w, refl, subst (P w.0) (same_Some z y at) only)
  asker_by w (Some z) rest ws (suc k) y only at later = let there = later k at in (suc there.0, there.1, there.2, there.3)

  asker_of : (ws : List Wish) (ys : List LanguageIdentifier) (k : ℕ) (y : LanguageIdentifier) → AreAsked P ws ys → slice_get ys k ≡ Some y
      → (l : ℕ) × (v : Wish) × (slice_get ws l ≡ Some v) × P v.0 y
  asker_of [] ys k y are at = absurd (none-some y (ap (λ (xs : List LanguageIdentifier). slice_get xs k) (sym are) ∙ at))
  asker_of (w ∷ ws) ys k y are at =
      asker_by w are.0 are.1 ws k y are.2 (ap (λ (xs : List LanguageIdentifier). slice_get xs k) (sym are.4) ∙ at)
      (λ j there. asker_of ws are.1 j y are.3 there)

-- ---- what is near is not lost

module _ (spelled : (s : Syntax) (t : List ℕ) (x y : LocaleIdentifier) → SpellsBy s t x → SpellsBy s t y → x ≡ y) (s : Service) (header : List ℕ) (result : Option ℕ)
    (is : IsServed s header result) where
  -- a wish of the header is among the sorted ones
  sorted_has : (k : ℕ) (w : Wish) → slice_get (wishes_of header) k ≡ Some w → (l : ℕ) × (slice_get is.wishes l ≡ Some w)
  sorted_has k w at =
      let here = filter_has (has_weight w.1) (wishes_of header) k w at (itself w.1) in
      filter_in (has_weight w.1) is.wishes here.0 w (ap (λ (ws : List Wish). slice_get ws here.0) (is.sorted.same w.1) ∙ here.1)

  asked_for : (range : LanguageIdentifier) → IsWantedIn s header range → (k : ℕ) × (slice_get is.served.requests k ≡ Some range)
  asked_for range want =
      let there = sorted_has want.place want.wish want.stands in
      let listed = filter_has (λ (w : Wish). nat_lt 0 w.1) is.wishes there.0 want.wish there.1 (above want.wish.1 want.above) in
      asked_among (IsRequest (likely s.expander) s.rules) (asks_one (likely s.expander) s.rules spelled false) (wanted is.wishes) is.served.requests listed.0
      want.wish range is.served.requested listed.1 want.asks

  refused_by : (k : ℕ) (range : LanguageIdentifier) → slice_get is.served.out k ≡ Some range → IsRefusedIn s header range
  refused_by k range at =
      let by = asker_of (IsRefusal (likely s.expander) s.rules) (refused is.wishes) is.served.out k range is.served.taken_out at in
      let listed : slice_get (refused (wishes_of header)) by.0 ≡ Some by.1 = ap (λ (ws : List Wish). slice_get ws by.0) (sym (is.sorted.same 0)) ∙ by.2 in
      let there = filter_in (has_weight 0) (wishes_of header) by.0 by.1 listed in
      record {
        place = there.0;
        wish = by.1;
        stands = there.1;
        zero = eqb-true by.1.1 0 (filter_passes (has_weight 0) (wishes_of header) by.0 by.1 listed);
        asks = by.3;
      }

  allowed_by : (y : LanguageIdentifier) → LetsServe s header y → (named : Bool) → refuses_any is.wishes ≡ named
      → is_allowed is.served.requests is.served.out named y ≡ true
  allowed_by y lets named at =
      both (is_covered is.served.out y) (not named || is_covered is.served.requests y)
      (none_any (λ range. covers range y) is.served.out (λ k range there. lets.kept range (refused_by k range there)))
      (by named at)
    where
      both : (a b : Bool) → a ≡ false → b ≡ true → (not a && b) ≡ true
      both true b e f = absurd (false≢true (sym e))
      both false b e f = f

      by : (b : Bool) → refuses_any is.wishes ≡ b → (not b || is_covered is.served.requests y) ≡ true
      by false at = refl
      by true at =
          let same : refuses_any (wishes_of header) ≡ refuses_any is.wishes = ap (list_any is_any) (sym (is.sorted.same 0)) in
          let range = lets.named (same ∙ at) in
          let there = asked_for range.0 range.1 in
          some_any (λ r. covers r y) is.served.requests there.0 range.0 there.1 range.2

  pub heard : (place : ℕ) (range y : LanguageIdentifier) → IsWantedIn s header range → IsCanonicalAt s place y → LetsServe s header y → IsNear s range y
      → is_some result ≡ true
  heard place range y want at lets near =
      let f = is.served in
      let named = refuses_any is.wishes in
      let there = asked_for range want in
      let here = canonical_at (likely s.expander) s.rules s.available f.canonical place at.identifier y f.canonicalized at.stands at.canonical in
      let may = mark_at f.requests f.out named f.canonical place y here ∙ allowed_by y lets named refl in
      found_is_chosen (matching_of s f.canonical) f.requests (allowed f.requests f.out named f.canonical) (wants_any is.wishes) result f.choice
      (near_is_served (question (matching_of s f.canonical) f.requests (may_of (allowed f.requests f.out named f.canonical))) there.0 place range y f.choice.found
      there.1 here may near f.choice.nearest)

-- ---- plain headers

none_zero : (n : ℕ) → (n == 0) ≡ false → nat_lt 0 n ≡ true
none_zero n e = grind (arith, nat_tests)

some_nil : {X : Type 0} (x : X) (xs : List X) → x ∷ xs ≡ [] → ⊥
some_nil x xs e = none-some x (sym (ap (λ ys. slice_get ys 0) e))

all_wanted : (ws : List Wish) → refused ws ≡ [] → wanted ws ≡ ws
all_wanted [] none = refl
all_wanted (w ∷ ws) none = by (w.1 == 0) refl none (λ rest. all_wanted ws rest)
  where
    by : (b : Bool) → (w.1 == 0) ≡ b → cond b (w ∷ refused ws) (refused ws) ≡ [] → (refused ws ≡ [] → wanted ws ≡ ws) → wanted (w ∷ ws) ≡ w ∷ ws
    by true is none later = absurd (some_nil w (refused ws) none)
    by false is none later =
        ap (λ b. cond b (w ∷ wanted ws) (wanted ws)) (none_zero w.1 is) ∙ ap (λ vs. w ∷ vs) (later none)

module _ (l : LikelySubtags) (r : Rules) where
  -- tags ask for the canonical forms of their identifiers
  tags_ask : (ws : List Wish) (xs ys : List LanguageIdentifier) → AllZip (λ w x. IsTag w.0 (bare x)) ws xs → AreCanonical l r xs ys → AreRequests l r ws ys
  tags_ask [] [] [] tags are = refl
  tags_ask [] [] (y ∷ ys) tags are = absurd are
  tags_ask [] (x ∷ xs) ys tags are = absurd tags
  tags_ask (w ∷ ws) [] ys tags are = absurd tags
  tags_ask (w ∷ ws) (x ∷ xs) [] tags are = absurd are
  tags_ask (w ∷ ws) (x ∷ xs) (y ∷ ys) tags are = (
    Some y,
    ys,
    record { tag = bare x; known = tags.0.0; spells = tags.0.1; plain = λ _. refl; canonical = are.0 },
    tags_ask ws xs ys tags.1 are.1,
    refl,
  )

module _ (nothing : (x : LocaleIdentifier) → SpellsBy Bcp47 (codes "*") x → ⊥) where
  -- no tag is `*`
  no_any : (ws : List Wish) (xs : List LanguageIdentifier) → AllZip (λ w x. IsTag w.0 (bare x)) ws xs → list_any is_any ws ≡ false
  no_any [] xs tags = refl
  no_any (w ∷ ws) [] tags = absurd tags
  no_any (w ∷ ws) (x ∷ xs) tags = by (bytes_eq w.0 (codes "*")) refl (no_any ws xs tags.1)
    where
      by : (b : Bool) → bytes_eq w.0 (codes "*") ≡ b → list_any is_any ws ≡ false → (b || list_any is_any ws) ≡ false
      by true is later = absurd (nothing (bare x) (subst (λ t. SpellsBy Bcp47 t (bare x)) ((bytes_eq-Decides w.0 (codes "*")).0 is) tags.0.1))
      by false is later = later

or_nothing : (o : Option ℕ) → option_or o None ≡ o
or_nothing None = refl
or_nothing (Some n) = refl

module _ (spelled : (s : Syntax) (t : List ℕ) (x y : LocaleIdentifier) → SpellsBy s t x → SpellsBy s t y → x ≡ y)
    (nothing : (x : LocaleIdentifier) → SpellsBy Bcp47 (codes "*") x → ⊥) (s : Service) (header : List ℕ) (xs : List LanguageIdentifier) (plain : IsPlain header xs) where
  plain_for : (result : Option ℕ) (found : Option Match) → IsServedFor s (wishes_of header) result → IsNearestTo s xs found → result ≡ place_of found
  plain_for result found f q =
      let l = likely s.expander in
      let r = s.rules in
      let ws = wishes_of header in
      let every = all_wanted ws plain.wanted in
      let requests = asked_one (IsRequest l r) (asks_one l r spelled false) ws f.requests q.asked
      (subst (λ (vs : List Wish). AreRequests l r vs f.requests) every f.requested) (tags_ask l r ws xs q.asked plain.tags q.requested) in
      let out : f.out ≡ [] = subst (λ (vs : List Wish). AreRefusals l r vs f.out) plain.wanted f.taken_out in
      let named : refuses_any ws ≡ false = ap (list_any is_any) plain.wanted in
      let any : wants_any ws ≡ false = ap (list_any is_any) every ∙ no_any nothing ws xs plain.tags in
      let canonical = canonical_one l r s.available f.canonical q.canonical f.canonicalized q.canonicalized in
      let m = matching_of s f.canonical in
      let near : IsNearest (question m f.requests (may_of (allowed f.requests [] false f.canonical))) f.choice.found =
      subst (λ b. IsNearest (question m f.requests (may_of (allowed f.requests [] b f.canonical))) f.choice.found) named
      (subst (λ (us : List LanguageIdentifier). IsNearest (question m f.requests (may_of (allowed f.requests us (refuses_any ws) f.canonical))) f.choice.found) out f.choice.nearest) in
      let here : IsNearest (question m f.requests all_may) found =
      subst (λ (us : List LanguageIdentifier). IsNearest (question m us all_may) found) (sym requests)
      (subst (λ (us : List LanguageIdentifier). IsNearest (question (matching_of s us) q.asked all_may) found) (sym canonical) q.nearest) in
      let same : f.choice.found ≡ found = nearest_is_one _ f.choice.found found near (nearest_of_all m f.requests found here) in
      f.choice.is
      ∙ ap (λ b. option_or (place_of f.choice.found) (first_allowed b (allowed f.requests f.out (refuses_any ws) f.canonical))) any
      ∙ or_nothing (place_of f.choice.found)
      ∙ ap place_of same

  pub plain_is_nearest : (result : Option ℕ) (found : Option Match) → IsServed s header result → IsNearestTo s xs found → result ≡ place_of found
  plain_is_nearest result found is q =
      plain_for result found (subst (λ (ws : List Wish). IsServedFor s ws result)
      (wishes_one (wishes_of header) is.wishes (wishes_of header) is.sorted (record { falls = plain.falls; same = λ n. refl })) is.served) q
