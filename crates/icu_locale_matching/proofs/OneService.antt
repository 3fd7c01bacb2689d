-- What is served for a header is one, and so is the nearest for requests.
use Rattle.std.proofs.Common.{◌≡◌, ℕ, zero, suc, ◌<◌, ◌≤◌, Bool, true, false, cond, ◌==◌, List, [], ◌∷◌, length, get_or, Option, Some, None, refl, sym, ap, ◌∙◌, subst, arith, inl, inr, AllPairs}
use Rattle.std.specs.List.{filter, cons_option}
use Rattle.std.specs.Option.{option_or}
use Rattle.std.proofs.lemmas.Bool.{cases_order}
use Rattle.std.proofs.lemmas.Bool.Decides.{nat_tests}
use Rattle.icu_locale_core.specs.declared.langid.LanguageIdentifier.{LanguageIdentifier}
use Rattle.icu_locale.specs.Kinds.{next}
use Rattle.icu_locale.specs.LikelySubtags.{LikelySubtags}
use Rattle.icu_locale.specs.LikelyTable.{likely}
use Rattle.icu_locale.specs.declared.canonicalizer.rules.Rules.{Rules}
use Rattle.icu_locale_runs.specs.laws.Runs.{end_is_unique}
use Rattle.icu_locale_extensions.specs.Syntaxes.{SpellsBy}
use Rattle.icu_locale_extensions.specs.declared.identifier.LocaleIdentifier.{LocaleIdentifier}
use Rattle.icu_locale_extensions.specs.declared.syntax.Syntax.{Syntax}
use Rattle.icu_locale_extensions.specs.declared.syntax.Syntax.TheVariants.{Bcp47}
use Rattle.icu_locale_matching.specs.Header.{Wish, has_weight, AreByWeight, wanted, refused, refuses_any, wants_any, wishes_of}
use Rattle.icu_locale_matching.specs.Nearest.{Matching, question, IsNearest, may_of, all_may}
use Rattle.icu_locale_matching.specs.Requests.{Asks, IsOnly, IsRequest, IsRefusal, AreAsked, IsBrought, IsCanonicalOf, AreCanonical}
use Rattle.icu_locale_matching.specs.Service.{Service, IsServed, IsServedFor, IsNearestTo, IsChoice, allowed, first_allowed, place_of, matching_of}
use Rattle.icu_locale_matching.specs.declared.matcher.Match.{Match}
use Rattle.icu_locale_matching.proofs.Inserts.{filter_none}
use Rattle.icu_locale_matching.proofs.Serving.{nearest_is_one}

-- ---- wishes by falling weight

abbrev pub Falls : List Wish → Type 0
Falls ws = AllPairs (λ v w. w.1 ≤ v.1) ws

abbrev pub HaveSame : List Wish → List Wish → Type 0
HaveSame xs ys = (n : ℕ) → filter (has_weight n) xs ≡ filter (has_weight n) ys

not_same : (m n : ℕ) → m < n → (m == n) ≡ false
not_same m n less = grind (arith, nat_tests)

same_itself : (n : ℕ) → (n == n) ≡ true
same_itself n = grind (arith, nat_tests)

later_falls : (x : Wish) (xs : List Wish) → Falls (x ∷ xs) → Falls xs
later_falls x xs falls i j d before within = falls (suc i) (suc j) d (omega arith) (omega arith)

-- of falling wishes none weighs more than the first
none_heavier : (x : Wish) (xs : List Wish) (n : ℕ) → Falls (x ∷ xs) → x.1 < n → filter (has_weight n) (x ∷ xs) ≡ []
none_heavier x xs n falls less = filter_none (has_weight n) (x ∷ xs) each
  where
    each : (k : ℕ) (d : Wish) → k < length (x ∷ xs) → has_weight n (get_or (x ∷ xs) k d) ≡ false
    each zero d within = not_same x.1 n less
    each (suc k) d within =
        let le : (get_or xs k d).1 ≤ x.1 = falls 0 (suc k) d (omega arith) within in
        not_same (get_or xs k d).1 n (omega arith)

some_of_first : (x : Wish) (xs : List Wish) → filter (has_weight x.1) (x ∷ xs) ≡ [] → ⊥
some_of_first x xs none =
    let here = ap (λ b. cond b (x ∷ filter (has_weight x.1) xs) (filter (has_weight x.1) xs)) (same_itself x.1) in
    let long = ap length (sym here ∙ none) in omega arith

-- below an equal first wish the others are the same
below_first : (n : ℕ) (x : Wish) (xs ys : List Wish) → filter (has_weight n) (x ∷ xs) ≡ filter (has_weight n) (x ∷ ys)
    → filter (has_weight n) xs ≡ filter (has_weight n) ys
below_first n x xs ys same = by (has_weight n x) same
  where
    by : (b : Bool) → cond b (x ∷ filter (has_weight n) xs) (filter (has_weight n) xs)
        ≡ cond b (x ∷ filter (has_weight n) ys) (filter (has_weight n) ys)
        → filter (has_weight n) xs ≡ filter (has_weight n) ys
    by true e = cc
    by false e = e

first_same : (x y : Wish) (xs ys : List Wish) → x.1 ≡ y.1 → filter (has_weight x.1) (x ∷ xs) ≡ filter (has_weight x.1) (y ∷ ys) → x ≡ y
first_same x y xs ys weight same =
    let one = ap (λ b. cond b (x ∷ filter (has_weight x.1) xs) (filter (has_weight x.1) xs)) (same_itself x.1) in
    let heavy : has_weight x.1 y ≡ true = subst (λ n. (n == x.1) ≡ true) weight (same_itself x.1) in
    let two = ap (λ b. cond b (y ∷ filter (has_weight x.1) ys) (filter (has_weight x.1) ys)) heavy in
    let both : x ∷ filter (has_weight x.1) xs ≡ y ∷ filter (has_weight x.1) ys = sym one ∙ same ∙ two in
    cc

-- wishes in this order are told by those of each weight
sorted_is_one : (xs ys : List Wish) → Falls xs → Falls ys → HaveSame xs ys → xs ≡ ys
sorted_is_one [] [] p q same = refl
sorted_is_one [] (y ∷ ys) p q same = absurd (some_of_first y ys (sym (same y.1)))
sorted_is_one (x ∷ xs) [] p q same = absurd (some_of_first x xs (same x.1))
sorted_is_one (x ∷ xs) (y ∷ ys) p q same =
    elim (cases_order x.1 y.1) [
      | inl weight ↦
          let first : x ≡ y = first_same x y xs ys weight (same x.1) in
          let others : HaveSame xs ys = λ n. below_first n x xs ys (same n ∙ ap (λ w. filter (has_weight n) (w ∷ ys)) (sym first)) in
          let later = sorted_is_one xs ys (later_falls x xs p) (later_falls y ys q) others in
          λ i. first i ∷ later i
      | inr (inl less) ↦ absurd (some_of_first y ys (sym (same y.1) ∙ none_heavier x xs y.1 p less))
      | inr (inr more) ↦ absurd (some_of_first x xs (same x.1 ∙ none_heavier y ys x.1 q more))
    ]

pub wishes_one : (ws xs ys : List Wish) → AreByWeight ws xs → AreByWeight ws ys → xs ≡ ys
wishes_one ws xs ys p q = sorted_is_one xs ys p.falls q.falls (λ n. p.same n ∙ sym (q.same n))

-- ---- canonical forms and what ranges ask for

module _ (likely : LikelySubtags) (rules : Rules) where
  pub brought_one : (x y z : LanguageIdentifier) (a b : Bool) → IsBrought likely rules x a y → IsBrought likely rules x b z → y ≡ z
  brought_one x y z true true p q = end_is_unique (next likely rules) x y z p q
  brought_one x y z true false p q = absurd (q.0 y p)
  brought_one x y z false true p q = absurd (p.0 z q)
  brought_one x y z false false p q = p.1 ∙ sym q.1

  pub canonical_one : (xs ys zs : List LanguageIdentifier) → AreCanonical likely rules xs ys → AreCanonical likely rules xs zs → ys ≡ zs
  canonical_one [] [] [] p q = refl
  canonical_one [] (y ∷ ys) zs p q = absurd p
  canonical_one [] [] (z ∷ zs) p q = absurd q
  canonical_one (x ∷ xs) [] zs p q = absurd p
  canonical_one (x ∷ xs) (y ∷ ys) [] p q = absurd q
  canonical_one (x ∷ xs) (y ∷ ys) (z ∷ zs) p q =
      let first : y ≡ z = brought_one x y z p.0.0 q.0.0 p.0.1 q.0.1 in
      let later = canonical_one xs ys zs p.1 q.1 in
      λ i. first i ∷ later i

  module _ (spelled : (s : Syntax) (t : List ℕ) (x y : LocaleIdentifier) → SpellsBy s t x → SpellsBy s t y → x ≡ y) where
    pub asks_one : (bare_alone : Bool) (range : List ℕ) (y z : LanguageIdentifier) → Asks bare_alone likely rules range y → Asks bare_alone likely rules range z → y ≡ z
    asks_one bare_alone range y z p q =
        let tags = spelled Bcp47 range p.tag q.tag p.spells q.spells in
        let here = subst (λ (x : LocaleIdentifier). IsCanonicalOf likely rules x.locale.id y) tags p.canonical in
        brought_one q.tag.locale.id y z here.0 q.canonical.0 here.1 q.canonical.1

module _ (P : List ℕ → LanguageIdentifier → Type 0) (one : (range : List ℕ) (y z : LanguageIdentifier) → P range y → P range z → y ≡ z) where
  only_one : (range : List ℕ) (o u : Option LanguageIdentifier) → IsOnly (P range) o → IsOnly (P range) u → o ≡ u
  only_one range None None p q = refl
  only_one range None (Some z) p q = absurd (p z q)
  only_one range (Some y) None p q = absurd (q y p)
  only_one range (Some y) (Some z) p q = ap (λ x. Some x) (one range y z p q)

  pub asked_one : (ws : List Wish) (ys zs : List LanguageIdentifier) → AreAsked P ws ys → AreAsked P ws zs → ys ≡ zs
  asked_one [] ys zs p q = p ∙ sym q
  asked_one (w ∷ ws) ys zs p q =
      let first = only_one w.0 p.0 q.0 p.2 q.2 in
      let later = asked_one ws p.1 q.1 p.3 q.3 in
      p.4 ∙ (λ i. cons_option (first i) (later i)) ∙ sym q.4

-- ---- what is served

choice_one : (m : Matching) (requests : List LanguageIdentifier) (may : List Bool) (any : Bool) (a b : Option ℕ)
    → IsChoice m requests may any a → IsChoice m requests may any b → a ≡ b
choice_one m requests may any a b p q =
    let found = nearest_is_one (question m requests (may_of may)) p.found q.found p.nearest q.nearest in
    p.is ∙ ap (λ (f : Option Match). option_or (place_of f) (first_allowed any may)) found ∙ sym q.is

module _ (spelled : (s : Syntax) (t : List ℕ) (x y : LocaleIdentifier) → SpellsBy s t x → SpellsBy s t y → x ≡ y) (s : Service) where
  served_for_one : (ws : List Wish) (a b : Option ℕ) → IsServedFor s ws a → IsServedFor s ws b → a ≡ b
  served_for_one ws a b p q =
      let l = likely s.expander in
      let r = s.rules in
      let requests = asked_one (IsRequest l r) (asks_one l r spelled false) (wanted ws) p.requests q.requests p.requested q.requested in
      let out = asked_one (IsRefusal l r) (asks_one l r spelled true) (refused ws) p.out q.out p.taken_out q.taken_out in
      let canonical = canonical_one l r s.available p.canonical q.canonical p.canonicalized q.canonicalized in
      let named = refuses_any ws in
      choice_one (matching_of s q.canonical) q.requests (allowed q.requests q.out named q.canonical) (wants_any ws) a b
      (subst (λ (xs : List LanguageIdentifier). IsChoice (matching_of s xs) q.requests (allowed q.requests q.out named xs) (wants_any ws) a) canonical
      (subst (λ (xs : List LanguageIdentifier). IsChoice (matching_of s p.canonical) q.requests (allowed q.requests xs named p.canonical) (wants_any ws) a) out
      (subst (λ (xs : List LanguageIdentifier). IsChoice (matching_of s p.canonical) xs (allowed xs p.out named p.canonical) (wants_any ws) a) requests p.choice)))
      q.choice

  pub served_is_one : (header : List ℕ) (a b : Option ℕ) → IsServed s header a → IsServed s header b → a ≡ b
  served_is_one header a b p q =
      let wishes = wishes_one (wishes_of header) p.wishes q.wishes p.sorted q.sorted in
      served_for_one q.wishes a b (subst (λ (ws : List Wish). IsServedFor s ws a) wishes p.served) q.served

pub nearest_to_is_one : (s : Service) (requests : List LanguageIdentifier) (a b : Option Match) → IsNearestTo s requests a → IsNearestTo s requests b → a ≡ b
nearest_to_is_one s requests a b p q =
    let l = likely s.expander in
    let r = s.rules in
    let asked = canonical_one l r requests p.asked q.asked p.requested q.requested in
    let canonical = canonical_one l r s.available p.canonical q.canonical p.canonicalized q.canonicalized in
    nearest_is_one (question (matching_of s q.canonical) q.asked all_may) a b
    (subst (λ (xs : List LanguageIdentifier). IsNearest (question (matching_of s xs) q.asked all_may) a) canonical
    (subst (λ (xs : List LanguageIdentifier). IsNearest (question (matching_of s p.canonical) xs all_may) a) asked p.nearest))
    q.nearest
