-- What is chosen.
use Rattle.std.proofs.Common.{◌≡◌, ◌∙◌, ℕ, suc, arith, ◌<◌, Bool, true, false, ◌&&◌, cond, nat_lt, ◌==◌, List, [], ◌∷◌, length, Option, Some, None, Result, Ok, Err, IfOk, is_some, refl, ap, sym, subst}
use Rattle.std.specs.List.{position, position_or_len, slice_get}
use Rattle.std.specs.Option.{option_map, option_or}
use Rattle.std.proofs.lemmas.Bool.{ltb-true, false≢true}
use Rattle.std.proofs.lemmas.Bool.Decides.{nat_tests}
use Rattle.std.proofs.lemmas.List.Sums.{passes_at_first}
use Rattle.std.proofs.lemmas.Option.{none-some, same_Some, slice_get-get_or, slice_get-map}
use Rattle.icu_locale_core.specs.declared.langid.LanguageIdentifier.{LanguageIdentifier}
use Rattle.icu_locale_matching.specs.Nearest.{Matching, question, all_may, may_of, is_true, IsOffer, IsNearest}
use Rattle.icu_locale_matching.specs.Service.{IsChoice, is_allowed, allowed, first_allowed, place_of}
use Rattle.icu_locale_matching.specs.declared.matcher.Match.{Match}
use Rattle.icu_locale_matching.specs.declared.rank.Rank.{Rank}
use Rattle.icu_locale_matching.proofs.Ranks.{IsLeastOf-same}
use Rattle.icu_locale_matching.proofs.Serving.{served_may}

-- the first that passes is one that does
first_true : (may : List Bool) (place : ℕ) → position (λ b. b) may ≡ Some place → slice_get may place ≡ Some true
first_true may place e = by (nat_lt (position_or_len (λ b. b) may) (length may)) refl e
  where
    by : (b : Bool) → nat_lt (position_or_len (λ b. b) may) (length may) ≡ b
        → cond b (Some (position_or_len (λ b. b) may)) None ≡ Some place → slice_get may place ≡ Some true
    by true inside is =
        let p : ℕ = position_or_len (λ b. b) may in
        let within : p < length may = ltb-true p (length may) inside in
        subst (λ k. slice_get may k ≡ Some true) (same_Some p place is)
        (slice_get-get_or may p false within ∙ ap Some (passes_at_first (λ b. b) may false within))
    by false past is = absurd (none-some place is)

chosen_by : (m : Matching) (requests : List LanguageIdentifier) (may : List Bool) (any : Bool) (place : ℕ) (found : Option Match)
    → IsNearest (question m requests (may_of may)) found → Some place ≡ option_or (place_of found) (first_allowed any may)
    → may_of may place ≡ true
chosen_by m requests may any place (Some x) nearest is =
    ap (may_of may) (same_Some place x.available is) ∙ served_may (question m requests (may_of may)) x nearest
chosen_by m requests may true place None nearest is = ap is_true (first_true may place (sym is))
chosen_by m requests may false place None nearest is = absurd (none-some place (sym is))

pub chosen_may : (m : Matching) (requests : List LanguageIdentifier) (may : List Bool) (any : Bool) (place : ℕ)
    → IsChoice m requests may any (Some place) → may_of may place ≡ true
chosen_may m requests may any place choice = chosen_by m requests may any place choice.found choice.nearest choice.is

-- what is found is chosen
chosen_if : (o p : Option ℕ) → is_some o ≡ true → is_some (option_or o p) ≡ true
chosen_if None p e = absurd (false≢true e)
chosen_if (Some n) p e = refl

placed_if : (found : Option Match) → is_some found ≡ true → is_some (place_of found) ≡ true
placed_if None e = absurd (false≢true e)
placed_if (Some x) e = refl

pub found_is_chosen : (m : Matching) (requests : List LanguageIdentifier) (may : List Bool) (any : Bool) (result : Option ℕ)
    (choice : IsChoice m requests may any result) → is_some choice.found ≡ true → is_some result ≡ true
found_is_chosen m requests may any result choice there =
    ap is_some choice.is ∙ chosen_if (place_of choice.found) (first_allowed any may) (placed_if choice.found there)

-- ---- where nothing is refused

all_allowed : (requests xs : List LanguageIdentifier) (j : ℕ) (x : LanguageIdentifier) → slice_get xs j ≡ Some x → may_of (allowed requests [] false xs) j ≡ true
all_allowed requests xs j x stands = ap is_true (slice_get-map (is_allowed requests [] false) xs j ∙ ap (option_map (is_allowed requests [] false)) stands)

module _ (m : Matching) (requests : List LanguageIdentifier) where
  to_allowed : (s : Rank) → IsOffer (question m requests all_may) s → IsOffer (question m requests (may_of (allowed requests [] false m.available))) s
  to_allowed s o = record {
    request = o.request;
    identifier = o.identifier;
    requested = o.requested;
    offered = o.offered;
    is = o.is;
    below = o.below;
    may = all_allowed requests m.available s.available o.identifier o.offered;
  }

  from_allowed : (s : Rank) → IsOffer (question m requests (may_of (allowed requests [] false m.available))) s → IsOffer (question m requests all_may) s
  from_allowed s o = record {
    request = o.request;
    identifier = o.identifier;
    requested = o.requested;
    offered = o.offered;
    is = o.is;
    below = o.below;
    may = refl;
  }

  pub nearest_of_all : (found : Option Match) → IsNearest (question m requests all_may) found
      → IsNearest (question m requests (may_of (allowed requests [] false m.available))) found
  nearest_of_all found nearest = record {
    best = nearest.best;
    least = IsLeastOf-same nearest.best to_allowed from_allowed nearest.least;
    is = nearest.is;
  }

pub if_ok : {X E : Type 0} {P Q : X → Type 0} (r : Result X E) → ((x : X) → P x → Q x) → IfOk r P → IfOk r Q
if_ok (Ok x) more here = more x here
if_ok (Err e) more here = tt

first_inside : (n : ℕ) → nat_lt 0 (suc n) ≡ true
first_inside n = grind (arith, nat_tests)

pub first_of_all : (requests : List LanguageIdentifier) (any : Bool) (xs : List LanguageIdentifier) → any ≡ true → (length xs == 0) ≡ false → Some 0 ≡ first_allowed any (allowed requests [] false xs)
first_of_all requests any [] is some = absurd (false≢true (sym some))
first_of_all requests true (x ∷ xs) is some = sym (ap (λ b. cond b (Some 0) None) (first_inside (length (allowed requests [] false xs))))
first_of_all requests false (x ∷ xs) is some = absurd (false≢true is)

pub and_true : (b : Bool) → (b && true) ≡ b
and_true true = refl
and_true false = refl
