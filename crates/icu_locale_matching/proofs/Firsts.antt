-- The first rule that fits, rule by rule, and what is known of the first rules.
use Rattle.std.proofs.Common.{◌≡◌, ℕ, zero, suc, ◌+◌, ◌≤◌, Bool, true, false, ◌&&◌, List, [], ◌∷◌, length, drop, Option, None, IfSome, Some, refl, ap, sym, ◌∙◌, arith, add-one, if◌then◌else◌}
use Rattle.std.specs.List.{find, slice_get}
use Rattle.std.specs.Option.{option_map_or}
use Rattle.std.specs.Str.{bytes_eq}
use Rattle.std.proofs.Math.Seq.{drop-cons}
use Rattle.std.proofs.lemmas.Option.{none-some, same_Some, get_or_from_slice_get, slice_get_within}
use Rattle.icu_provider.specs.declared.data_locale.DataLocale.{DataLocale}
use Rattle.icu_provider.specs.declared.matching.MatchRule.{MatchRule}
use Rattle.icu_locale_matching.specs.Distance.{fits, fits_pattern, Level, level_distance}
use Rattle.icu_locale_matching.specs.inner.Known.{serves_at, serving_of}
use Rattle.icu_locale_matching.specs.inner.Known.{AreKnown, AreServing, fits_at}

-- the distance of the rules from a place on
abbrev pub distance_from : Level → DataLocale → DataLocale → ℕ → ℕ
distance_from level d s i = option_map_or (λ r. r.distance) (find (fits d s) (drop i level.rules)) level.other

module _ (level : Level) (d s : DataLocale) (i : ℕ) (r : MatchRule) (stands : slice_get level.rules i ≡ Some r) where
  first : drop i level.rules ≡ r ∷ drop (suc i) level.rules
  first = drop-cons level.rules i r (slice_get_within level.rules i r stands)
      ∙ ap (λ x. x ∷ drop (suc i) level.rules) (get_or_from_slice_get level.rules i r r stands)

  by_test : (b : Bool) → fits d s r ≡ b
      → distance_from level d s i ≡ option_map_or (λ r. r.distance) (if b then Some r else find (fits d s) (drop (suc i) level.rules)) level.other
  by_test b is = ap (λ rs. option_map_or (λ r. r.distance) (find (fits d s) rs) level.other) first
      ∙ ap (λ t. option_map_or (λ r. r.distance) (if t then Some r else find (fits d s) (drop (suc i) level.rules)) level.other) is

  pub distance_here : fits d s r ≡ true → distance_from level d s i ≡ r.distance
  distance_here is = by_test true is

  pub distance_next : fits d s r ≡ false → distance_from level d s i ≡ distance_from level d s (i + 1)
  distance_next is = by_test false is ∙ ap (distance_from level d s) (sym (add-one i))

drop_all : {X : Type 0} (xs : List X) (i : ℕ) → length xs ≤ i → drop i xs ≡ []
drop_all [] zero most = refl
drop_all [] (suc i) most = refl
drop_all (x ∷ xs) zero most = absurd (omega arith)
drop_all (x ∷ xs) (suc i) most = drop_all xs i (omega arith)

pub distance_past : (level : Level) (d s : DataLocale) (i : ℕ) → length level.rules ≤ i → distance_from level d s i ≡ level.other
distance_past level d s i most = ap (λ rs. option_map_or (λ r. r.distance) (find (fits d s) rs) level.other) (drop_all level.rules i most)

-- ---- what is known

-- each of some marks says so of the rule that many places on
abbrev pub AreKnownFrom : List MatchRule → DataLocale → ℕ → List Bool → Type 0
AreKnownFrom rules d n known = (k : ℕ) (b : Bool) → slice_get known k ≡ Some b → b ≡ fits_at rules d (n + k)

none_known : (rules : List MatchRule) (d : DataLocale) (n : ℕ) → AreKnownFrom rules d n []
none_known rules d n = λ k b is. absurd (none-some b is)

one_known : (rules : List MatchRule) (d : DataLocale) (n : ℕ) (c : Bool) (known : List Bool) → c ≡ fits_at rules d n
    → AreKnownFrom rules d (suc n) known → AreKnownFrom rules d n (c ∷ known)
one_known rules d n c known here rest zero b is =
    let at : n ≡ n + 0 = omega arith in sym (same_Some c b is) ∙ here ∙ ap (fits_at rules d) at
one_known rules d n c known here rest (suc k) b is =
    let at : suc n + k ≡ n + suc k = omega arith in rest k b is ∙ ap (fits_at rules d) at

from_first : (rules : List MatchRule) (d : DataLocale) (known : List Bool) → AreKnownFrom rules d 0 known → AreKnown rules d known
from_first rules d known are = λ k b is. let at : 0 + k ≡ k = omega arith in are k b is ∙ ap (fits_at rules d) at

pub eight_known : (rules : List MatchRule) (d : DataLocale) (a b c e f g h i : Bool) → a ≡ fits_at rules d 0 → b ≡ fits_at rules d 1
    → c ≡ fits_at rules d 2 → e ≡ fits_at rules d 3 → f ≡ fits_at rules d 4 → g ≡ fits_at rules d 5 → h ≡ fits_at rules d 6
    → i ≡ fits_at rules d 7 → AreKnown rules d (a ∷ b ∷ c ∷ e ∷ f ∷ g ∷ h ∷ i ∷ [])
eight_known rules d a b c e f g h i p0 p1 p2 p3 p4 p5 p6 p7 =
    let l7 : List Bool = i ∷ [] in
    let l6 : List Bool = h ∷ l7 in
    let l5 : List Bool = g ∷ l6 in
    let l4 : List Bool = f ∷ l5 in
    let l3 : List Bool = e ∷ l4 in
    let l2 : List Bool = c ∷ l3 in
    let l1 : List Bool = b ∷ l2 in
    let k7 = one_known rules d 7 i [] p7 (none_known rules d 8) in
    let k6 = one_known rules d 6 h l7 p6 k7 in
    let k5 = one_known rules d 5 g l6 p5 k6 in
    let k4 = one_known rules d 4 f l5 p4 k5 in
    let k3 = one_known rules d 3 e l4 p3 k4 in
    let k2 = one_known rules d 2 c l3 p2 k3 in
    let k1 = one_known rules d 1 b l2 p1 k2 in
    from_first rules d (a ∷ l1) (one_known rules d 0 a l1 p0 k1)

-- what is known of a rule
pub known_at : (rules : List MatchRule) (d : DataLocale) (known : List Bool) (k : ℕ) (r : MatchRule) (b : Bool) → AreKnown rules d known
    → slice_get rules k ≡ Some r → slice_get known k ≡ Some b → b ≡ fits_pattern r.desired d
known_at rules d known k r b are stands is = are k b is ∙ ap (λ o. option_map_or (λ r. fits_pattern r.desired d) o false) stands

-- ---- what serves

-- each of some marks says what f says of the number that many places on
abbrev pub AreMarksFrom : (ℕ → Bool) → ℕ → List Bool → Type 0
AreMarksFrom f n marks = (k : ℕ) (b : Bool) → slice_get marks k ≡ Some b → b ≡ f (n + k)

one_mark : (f : ℕ → Bool) (n : ℕ) (marks : List Bool) → AreMarksFrom f (suc n) marks → AreMarksFrom f n (f n ∷ marks)
one_mark f n marks rest zero b is = let at : n ≡ n + 0 = omega arith in sym (same_Some (f n) b is) ∙ ap f at
one_mark f n marks rest (suc k) b is = let at : suc n + k ≡ n + suc k = omega arith in rest k b is ∙ ap f at

eight_marks : (f : ℕ → Bool) → AreMarksFrom f 0 (f 0 ∷ f 1 ∷ f 2 ∷ f 3 ∷ f 4 ∷ f 5 ∷ f 6 ∷ f 7 ∷ [])
eight_marks f =
    let l7 : List Bool = f 7 ∷ [] in
    let l6 : List Bool = f 6 ∷ l7 in
    let l5 : List Bool = f 5 ∷ l6 in
    let l4 : List Bool = f 4 ∷ l5 in
    let l3 : List Bool = f 3 ∷ l4 in
    let l2 : List Bool = f 2 ∷ l3 in
    let l1 : List Bool = f 1 ∷ l2 in
    one_mark f 0 l1 (one_mark f 1 l2 (one_mark f 2 l3 (one_mark f 3 l4 (one_mark f 4 l5 (one_mark f 5 l6 (one_mark f 6 l7
    (one_mark f 7 [] (λ k b is. absurd (none-some b is)))))))))

pub all_serving : (rules : List MatchRule) (s : DataLocale) → AreServing rules s (serving_of rules s)
all_serving rules s = λ k b is. let at : 0 + k ≡ k = omega arith in eight_marks (serves_at rules s) k b is ∙ ap (serves_at rules s) at

pub none_serving : (rules : List MatchRule) (s : DataLocale) → AreServing rules s []
none_serving rules s = λ k b is. absurd (none-some b is)

-- what is known of a rule
pub serving_at : (rules : List MatchRule) (s : DataLocale) (serving : List Bool) (k : ℕ) (r : MatchRule) (b : Bool) → AreServing rules s serving
    → slice_get rules k ≡ Some r → slice_get serving k ≡ Some b → b ≡ (bytes_eq s.language r.language && fits_pattern r.supported s)
serving_at rules s serving k r b are stands is =
    are k b is ∙ ap (λ o. option_map_or (λ r. bytes_eq s.language r.language && fits_pattern r.supported s) o false) stands

-- the same, where it may be known
pub if_known : (rules : List MatchRule) (d : DataLocale) (known : List Bool) (k : ℕ) (r : MatchRule) (o : Option Bool) → AreKnown rules d known
    → slice_get rules k ≡ Some r → o ≡ slice_get known k → IfSome o (λ b. b ≡ fits_pattern r.desired d)
if_known rules d known k r None are stands is = tt
if_known rules d known k r (Some b) are stands is = known_at rules d known k r b are stands (sym is)

pub if_serving : (rules : List MatchRule) (s : DataLocale) (serving : List Bool) (k : ℕ) (r : MatchRule) (o : Option Bool) → AreServing rules s serving
    → slice_get rules k ≡ Some r → o ≡ slice_get serving k
    → IfSome o (λ b. b ≡ (bytes_eq s.language r.language && fits_pattern r.supported s))
if_serving rules s serving k r None are stands is = tt
if_serving rules s serving k r (Some b) are stands is = serving_at rules s serving k r b are stands (sym is)

-- ---- what no rule is below

first_upto : (b : Bool) (r : MatchRule) (rest : Option MatchRule) (n other : ℕ) → n ≤ r.distance → n ≤ option_map_or (λ r. r.distance) rest other
    → n ≤ option_map_or (λ r. r.distance) (if b then Some r else rest) other
first_upto true r rest n other here later = here
first_upto false r rest n other here later = later

found_upto : (test : MatchRule → Bool) (rules : List MatchRule) (n other : ℕ) → n ≤ other
    → ((k : ℕ) (r : MatchRule) → slice_get rules k ≡ Some r → n ≤ r.distance) → n ≤ option_map_or (λ r. r.distance) (find test rules) other
found_upto test [] n other upto each = upto
found_upto test (r ∷ rules) n other upto each =
    first_upto (test r) r (find test rules) n other (each 0 r refl) (found_upto test rules n other upto (λ k x is. each (suc k) x is))

pub level_upto : (level : Level) (n : ℕ) (d s : DataLocale) → n ≤ level.other
    → ((k : ℕ) (r : MatchRule) → slice_get level.rules k ≡ Some r → n ≤ r.distance) → n ≤ level_distance level d s
level_upto level n d s upto each = found_upto (fits d s) level.rules n level.other upto each
