-- The chain of an identifier, from that of its language, script and region.
use Rattle.std.proofs.Common.{◌≡◌, ◌≢◌, ◌==◌, ◌<◌, ℕ, zero, suc, List, [], ◌∷◌, length, inl, inr, Option, Some, None, option_and_then, refl, ap, sym, ◌∙◌, subst, Result, Ok, Err, IfErr, if◌then◌else◌, arith}
use Rattle.std.specs.Option.{option_map}
use Rattle.std.proofs.lemmas.Bool.{cases_eq, cases_Bool, eqb-true}
use Rattle.icu_locale_core.specs.TextSet.{TextSet, len, empty, rising, from_list}
use Rattle.icu_locale_core.specs.laws.TextSets.{from_list-rising, length-rising_empty}
use Rattle.icu_locale_core.specs.declared.langid.LanguageIdentifier.{LanguageIdentifier}
use Rattle.icu_provider.specs.declared.data_locale.DataLocale.{DataLocale}
use Rattle.icu_locale.specs.LikelySubtags.{subtags_of}
use Rattle.icu_locale_runs.specs.Run.{at, EndsAt, ComesAgain, IsRepeat}
use Rattle.icu_locale_runs.specs.laws.Lists.{some_map}
use Rattle.icu_locale_fallback.specs.Fallback.{Inheritance, root, next}
use Rattle.icu_locale_fallback.specs.Chains.{IsCircle}
use Rattle.icu_locale_fallback.specs.Identifiers.{plain, next_identifier, IsChainOfSubtags, IsChainBehind, IsIdentifierCircle, IsIdentifierRefusal}
use Rattle.icu_locale_fallback.specs.declared.errors.FallbackError.{FallbackError}
use Rattle.icu_locale_fallback.specs.declared.errors.FallbackError.TheVariants.{Memory}
use Rattle.icu_locale_fallback.proofs.Lengths.{front}

empty_from_len : (s : TextSet) → len s ≡ 0 → s ≡ empty
empty_from_len s none = sym (from_list-rising s) ∙ by (rising s) none
  where
    by : (ts : List (List ℕ)) → length ts ≡ 0 → from_list ts ≡ empty
    by [] none = refl
    by (t ∷ ts) none = absurd (omega (arith, none))

-- an identifier without variants is that of its language, script and region
pub plain_itself : (x : LanguageIdentifier) → len x.variants ≡ 0 → plain (subtags_of x) ≡ x
plain_itself x none = ap (λ v. record x { variants = v }) (sym (empty_from_len x.variants none))

-- the choice by a number that is not zero
pub chosen_some : {X : Type 0} (n : ℕ) (a b : X) → n ≢ 0 → (if n == 0 then a else b) ≡ b
chosen_some n a b some = elim (cases_Bool (n == 0)) [ inl is ↦ absurd (some (eqb-true n 0 is)) | inr off ↦ ap (λ t. if t then a else b) off ]

module _ (by : Inheritance) where
  next_bare : (x : LanguageIdentifier) → len x.variants ≡ 0 → next_identifier by x ≡ option_map plain (next by (subtags_of x))
  next_bare x none = ap (λ n. if n == 0 then option_map plain (next by (subtags_of x)) else Some (plain (subtags_of x))) none

  plain_step : (o : Option DataLocale) → option_and_then (next_identifier by) (option_map plain o) ≡ option_map plain (option_and_then (next by) o)
  plain_step None = refl
  plain_step (Some y) = next_bare (plain y) length-rising_empty

  plain_chain : (y : DataLocale) (i : ℕ) → at (next_identifier by) (plain y) i ≡ option_map plain (at (next by) y i)
  plain_chain y zero = refl
  plain_chain y (suc i) = ap (option_and_then (next_identifier by)) (plain_chain y i) ∙ plain_step (at (next by) y i)

  module _ (x : LanguageIdentifier) where
    pub chain_plain : len x.variants ≡ 0 → IsChainOfSubtags by x
    chain_plain none i = ap (λ w. at (next_identifier by) w i) (sym (plain_itself x none)) ∙ plain_chain (subtags_of x) i

    pub chain_variants : len x.variants ≢ 0 → IsChainBehind by x
    chain_variants some i =
        let first : next_identifier by x ≡ Some (plain (subtags_of x)) =
        chosen_some (len x.variants) (option_map plain (next by (subtags_of x))) (Some (plain (subtags_of x))) some in
        front (next_identifier by) x (plain (subtags_of x)) first i ∙ plain_chain (subtags_of x) i

    -- what is in the chain, from some place on, is what is in that of the subtags
    found : (f : ℕ → ℕ) (chain : (i : ℕ) → at (next_identifier by) x (f i) ≡ option_map plain (at (next by) (subtags_of x) i)) → (i : ℕ) (y : LanguageIdentifier) → at (next_identifier by) x (f i) ≡ Some y
        → (z : DataLocale) × (at (next by) (subtags_of x) i ≡ Some z) × (plain z ≡ y)
    found f chain i y here = some_map plain (at (next by) (subtags_of x) i) y (sym (chain i) ∙ here)

    place_of : (f : ℕ → ℕ) (chain : (i : ℕ) → at (next_identifier by) x (f i) ≡ option_map plain (at (next by) (subtags_of x) i)) → (i : ℕ) (z : DataLocale) → at (next_identifier by) x (f i) ≡ Some (plain z)
        → at (next by) (subtags_of x) i ≡ Some z
    place_of f chain i z here =
        let w = found f chain i (plain z) here in
        let e : w.0 ≡ z = ap subtags_of w.2 in
        w.1 ∙ ap Some e

    again_of : (f : ℕ → ℕ) (chain : (i : ℕ) → at (next_identifier by) x (f i) ≡ option_map plain (at (next by) (subtags_of x) i)) → (a b : ℕ) (z : DataLocale) → a < b → at (next_identifier by) x (f a) ≡ Some (plain z)
        → at (next_identifier by) x (f b) ≡ Some (plain z) → ComesAgain (next by) (subtags_of x) z
    again_of f chain a b z before one two = (a, b, before, place_of f chain a z one, place_of f chain b z two)

    -- ---- ends

    ends_from : (f : ℕ → ℕ) (chain : (i : ℕ) → at (next_identifier by) x (f i) ≡ option_map plain (at (next by) (subtags_of x) i)) → (y : DataLocale) → EndsAt (next by) (subtags_of x) y → EndsAt (next_identifier by) x (plain y)
    ends_from f chain y ends = record {
      stands = (f ends.stands.0, chain ends.stands.0 ∙ ap (option_map plain) ends.stands.1);
      last = next_bare (plain y) length-rising_empty ∙ ap (option_map plain) ends.last;
    }

    pub ends_with_subtags : (y : DataLocale) → EndsAt (next by) (subtags_of x) y → EndsAt (next_identifier by) x (plain y)
    ends_with_subtags y ends =
        elim (cases_eq (len x.variants) 0) [ inl none ↦ ends_from (λ i. i) (chain_plain none) y ends | inr some ↦ ends_from suc (chain_variants some) y ends ]

    -- ---- repeats

    repeat_plain : IsChainOfSubtags by x → (z : DataLocale) → IsRepeat (next by) (subtags_of x) z → IsRepeat (next_identifier by) x (plain z)
    repeat_plain chain z r = record {
      place = r.place;
      here = chain r.place ∙ ap (option_map plain) r.here;
      again = let (i, j, before, one, two) = r.again in (i, j, before, chain i ∙ ap (option_map plain) one, chain j ∙ ap (option_map plain) two);
      first = λ i y below here (a, b, before, one, two).
          let w = found (λ i. i) chain i y here in
          r.first i w.0 below w.1 (again_of (λ i. i) chain a b w.0 before (one ∙ ap Some (sym w.2)) (two ∙ ap Some (sym w.2)));
    }

    -- an identifier with variants does not come again
    comes_once : len x.variants ≢ 0 → IsChainBehind by x → (i : ℕ) → at (next_identifier by) x (suc i) ≡ Some x → ⊥
    comes_once some chain i here =
        let w = found suc chain i x here in
        some (ap (λ (v : LanguageIdentifier). len v.variants) (sym w.2) ∙ length-rising_empty)

    module _ (some : len x.variants ≢ 0) (chain : IsChainBehind by x) (z : DataLocale) (r : IsRepeat (next by) (subtags_of x) z) where
      none_before : (i : ℕ) (y : LanguageIdentifier) → i < suc r.place → at (next_identifier by) x i ≡ Some y → ComesAgain (next_identifier by) x y → ⊥
      none_before zero y below here (a, zero, before, one, two) = absurd (omega (arith, before))
      none_before zero y below here (a, suc b, before, one, two) = comes_once some chain b (two ∙ sym here)
      none_before (suc i) y below here (zero, b, before, one, two) = comes_once some chain i (here ∙ sym one)
      none_before (suc i) y below here (suc a, zero, before, one, two) = absurd (omega (arith, before))
      none_before (suc i) y below here (suc a, suc b, before, one, two) =
          let w = found suc chain i y here in
          r.first i w.0 (omega (arith, below)) w.1 (again_of suc chain a b w.0 (omega (arith, before)) (one ∙ ap Some (sym w.2)) (two ∙ ap Some (sym w.2)))

      repeat_variants : IsRepeat (next_identifier by) x (plain z)
      repeat_variants = record {
        place = suc r.place;
        here = chain r.place ∙ ap (option_map plain) r.here;
        again = let (i, j, before, one, two) = r.again in
            (suc i, suc j, omega (arith, before), chain i ∙ ap (option_map plain) one, chain j ∙ ap (option_map plain) two);
        first = none_before;
      }

    pub repeats_with_subtags : (z : DataLocale) → IsRepeat (next by) (subtags_of x) z → IsRepeat (next_identifier by) x (plain z)
    repeats_with_subtags z r =
        elim (cases_eq (len x.variants) 0) [ inl none ↦ repeat_plain (chain_plain none) z r | inr some ↦ repeat_variants some (chain_variants some) z r ]

    pub circle_with_subtags : (o : Option DataLocale) → IsCircle by (subtags_of x) o → IsIdentifierCircle by x o
    circle_with_subtags None h = ends_with_subtags root h
    circle_with_subtags (Some z) h = repeats_with_subtags z h

    -- the same from a place that holds the subtags
    pub circle_at : (y : DataLocale) (o : Option DataLocale) → y ≡ subtags_of x → IsCircle by y o → IsIdentifierCircle by x o
    circle_at y o is h = circle_with_subtags o (subst (λ z. IsCircle by z o) is h)

    pub memory_at : (y : DataLocale) (e : FallbackError) → y ≡ subtags_of x → EndsAt (next by) y root → e ≡ Memory → IsIdentifierRefusal by x e
    memory_at y e is ends memory =
        subst (IsIdentifierRefusal by x) (sym memory) (ends_with_subtags root (subst (λ z. EndsAt (next by) z root) is ends))

    pub memory_of : {T : Type 0} (y : DataLocale) (r : Result T FallbackError) → y ≡ subtags_of x → EndsAt (next by) y root
        → IfErr r (λ e. e ≡ Memory) → IfErr r (IsIdentifierRefusal by x)
    memory_of y (Ok list) is ends h = tt
    memory_of y (Err e) is ends h = memory_at y e is ends h
