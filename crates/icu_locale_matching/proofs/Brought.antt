-- Canonical forms, one by one, and what ranges ask for.
use Rattle.std.proofs.Common.{◌≡◌, ◌⊎◌, ℕ, suc, ◌+◌, ◌<◌, Bool, true, false, List, [], ◌∷◌, ◌++◌, length, map, take, get_or, Option, Some, None, Result, Ok, Err, IsOk, IfOk, refl, ap, sym, ◌∙◌, subst, ⊎_elim}
use Rattle.std.specs.List.{cons_option, slice_get}
use Rattle.std.proofs.lemmas.Bool.{false≢true}
use Rattle.std.proofs.lemmas.List.{take_more, map-append}
use Rattle.std.proofs.lemmas.List.Elements.{AllZip-push}
use Rattle.std.proofs.lemmas.Option.{get_or_from_slice_get}
use Rattle.icu_locale_core.specs.declared.langid.LanguageIdentifier.{LanguageIdentifier}
use Rattle.icu_locale.specs.Canonical.{without_extensions}
use Rattle.icu_locale.specs.Kinds.{next}
use Rattle.icu_locale.specs.LikelySubtags.{LikelySubtags}
use Rattle.icu_locale.specs.Refusals.{IsMemory, IsOutOfMemory, RulesEnd}
use Rattle.icu_locale_runs.specs.Run.{EndsAt}
use Rattle.icu_locale.specs.declared.canonicalizer.rules.Rules.{Rules}
use Rattle.icu_locale.specs.declared.canonicalizer.CanonicalizeError.{CanonicalizeError}
use Rattle.icu_locale.specs.declared.expander.TransformResult.{TransformResult}
use Rattle.icu_locale_matching.specs.Header.{Wish, shown}
use Rattle.icu_locale_matching.specs.Requests.{IsOnly, AreAsked, IsBrought, IsCanonicalOf, AreCanonical}
use Rattle.icu_locale_matching.specs.declared.header.LentWish.{LentWish}

-- one element more of the front of a list
pub taken_more : {X : Type 0} (xs : List X) (i : ℕ) (x : X) → i < length xs → slice_get xs i ≡ Some x → take (i + 1) xs ≡ take i xs ++ x ∷ []
taken_more xs i x within stands = take_more xs i x within ∙ ap (λ y. take i xs ++ y ∷ []) (get_or_from_slice_get xs i x x stands)

abbrev pub failed : CanonicalizeError → Result TransformResult CanonicalizeError
failed e = Err e

module _ (likely : LikelySubtags) (rules : Rules) where
  -- ---- what is refused for another reason than memory has no end

  no_end : (x z : LanguageIdentifier) (e : CanonicalizeError)
      → (RulesEnd likely rules (without_extensions x) → IsOk (failed e) ⊎ IsOutOfMemory (failed e)) → (IsMemory e → ⊥)
      → EndsAt (next likely rules) x z → ⊥
  no_end x z e ends other at = ⊎_elim
      (λ fine. false≢true fine)
      (λ memory. other memory)
      (ends (record {
        identifiers = record { id = (z, at); transform = tt };
        values = record { region_override = tt; subdivision = tt };
      }))

  brought_by : (x y : LanguageIdentifier) (e : CanonicalizeError)
      → (RulesEnd likely rules (without_extensions x) → IsOk (failed e) ⊎ IsOutOfMemory (failed e)) → y ≡ x
      → (b : Bool) → b ≡ false → (IsMemory e → ⊥) → IsBrought likely rules x b y
  brought_by x y e ends same true is other = absurd (false≢true (sym is))
  brought_by x y e ends same false is other = (λ z. no_end x z e ends other, same)

  pub brought : {F : Type 0} (x y : LanguageIdentifier) (e : CanonicalizeError)
      → (RulesEnd likely rules (without_extensions x) → IsOk (failed e) ⊎ IsOutOfMemory (failed e)) → y ≡ x → (r : Result Bool F)
      → IfOk r (λ b. (b ≡ false) × (IsMemory e → ⊥)) → IfOk r (λ b. IsBrought likely rules x b y)
  brought x y e ends same (Ok b) h = brought_by x y e ends same b h.0 h.1
  brought x y e ends same (Err f) h = tt

  -- ---- one more canonical form

  pub canonical_more : (xs ys : List LanguageIdentifier) (x y : LanguageIdentifier) → AreCanonical likely rules xs ys → IsCanonicalOf likely rules x y
      → AreCanonical likely rules (xs ++ x ∷ []) (ys ++ y ∷ [])
  canonical_more xs ys x y are is = AllZip-push (IsCanonicalOf likely rules) xs ys x y are is

-- ---- one more request

cons_append : (o : Option LanguageIdentifier) (xs ys : List LanguageIdentifier) → cons_option o xs ++ ys ≡ cons_option o (xs ++ ys)
cons_append None xs ys = refl
cons_append (Some x) xs ys = refl

module _ (P : List ℕ → LanguageIdentifier → Type 0) where
  asked_more : (ws : List Wish) (ys : List LanguageIdentifier) (w : Wish) (o : Option LanguageIdentifier) → AreAsked P ws ys
      → IsOnly (P w.0) o → AreAsked P (ws ++ w ∷ []) (ys ++ cons_option o [])
  asked_more [] ys w o are only = (o, [], only, refl, ap (λ zs. zs ++ cons_option o []) are)
  asked_more (v ∷ ws) ys w o are only = (
    are.0,
    are.1 ++ cons_option o [],
    are.2,
    asked_more ws are.1 w o are.3 only,
    ap (λ zs. zs ++ cons_option o []) are.4 ∙ cons_append are.0 are.1 (cons_option o []),
  )

  pub asked_next : (ws : List LentWish) (i : ℕ) (d : LentWish) (ys : List LanguageIdentifier) (o : Option LanguageIdentifier)
      → i < length ws → AreAsked P (map shown (take i ws)) ys
      → IsOnly (P (get_or ws i d).range.now) o → AreAsked P (map shown (take (i + 1) ws)) (ys ++ cons_option o [])
  asked_next ws i d ys o within are only =
      let step : map shown (take (i + 1) ws) ≡ map shown (take i ws) ++ shown (get_or ws i d) ∷ [] =
      ap (map shown) (take_more ws i d within) ∙ map-append shown (take i ws) (get_or ws i d ∷ []) in
      subst (λ vs. AreAsked P vs (ys ++ cons_option o [])) (sym step)
      (asked_more (map shown (take i ws)) ys (shown (get_or ws i d)) o are only)

-- ---- those that no rule matches

pub canonical_as_they_are : (likely : LikelySubtags) (rules : Rules) (xs : List LanguageIdentifier)
    → ((k : ℕ) (x : LanguageIdentifier) → slice_get xs k ≡ Some x → next likely rules x ≡ None) → AreCanonical likely rules xs xs
canonical_as_they_are likely rules [] none = tt
canonical_as_they_are likely rules (x ∷ xs) none = (
  (true, record { stands = (0, refl); last = none 0 x refl }),
  canonical_as_they_are likely rules xs (λ k y is. none (suc k) y is),
)
