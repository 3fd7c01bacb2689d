-- The list of a chain, and the text of one.
use Rattle.std.proofs.Common.{◌≡◌, ◌+◌, ℕ, zero, suc, ◌<◌, List, [], ◌∷◌, ◌++◌, length, Some, None, option_and_then, refl, ap, sym, ◌∙◌, inl, inr, arith, append-nil, append_assoc}
use Rattle.std.specs.List.{slice_get, flat_map}
use Rattle.std.proofs.lemmas.Bool.{cases_lt}
use Rattle.std.proofs.lemmas.List.{length-append}
use Rattle.std.proofs.lemmas.Option.{slice_get_past}
use Rattle.icu_provider.specs.declared.data_locale.DataLocale.{DataLocale}
use Rattle.icu_locale.specs.LikelySubtags.{LikelySubtags}
use Rattle.icu_locale_runs.specs.Run.{at, EndsAt}
use Rattle.icu_locale_runs.specs.laws.Places.{none_after}
use Rattle.icu_locale_runs.specs.laws.Runs.{place_in_universe}
use Rattle.icu_locale_fallback.specs.Fallback.{Inheritance, next}
use Rattle.icu_locale_fallback.specs.Chains.{over, IsChain}
use Rattle.icu_locale_fallback.specs.inner.Universe.{universe}
use Rattle.icu_locale_fallback.specs.inner.Listing.{HasListed, HasRest, IsRestWritten, behind_space}
use Rattle.icu_locale_fallback.specs.declared.fallbacker.LocaleFallbackPriority.{LocaleFallbackPriority}
use Rattle.icu_locale_fallback.proofs.Lengths.{same_or_other}
use Rattle.icu_locale_fallback.proofs.Universes.{IsUniverse-universe}

below : {X : Type 0} (xs ys : List X) (i : ℕ) → i < length xs → slice_get (xs ++ ys) i ≡ slice_get xs i
below [] ys i within = absurd (omega (arith, within))
below (x ∷ xs) ys zero within = refl
below (x ∷ xs) ys (suc i) within = below xs ys i (omega (arith, within))

behind : {X : Type 0} (xs : List X) (z : X) → slice_get (xs ++ z ∷ []) (length xs) ≡ Some z
behind [] z = refl
behind (x ∷ xs) z = behind xs z

flat_map-one : (ys : List DataLocale) (z : DataLocale) → flat_map behind_space (ys ++ z ∷ []) ≡ flat_map behind_space ys ++ behind_space z
flat_map-one [] z = append-nil (behind_space z)
flat_map-one (y ∷ ys) z =
    ap (λ t. behind_space y ++ t) (flat_map-one ys z) ∙ sym (append_assoc (behind_space y) (flat_map behind_space ys) (behind_space z))

module _ (by : Inheritance) (x : DataLocale) where
  first_shown : (i : ℕ) → i < 1 → slice_get (x ∷ []) i ≡ at (next by) x i
  first_shown zero within = refl
  first_shown (suc i) within = absurd (omega (arith, within))

  pub HasListed-first : HasListed by x (x ∷ []) x
  HasListed-first = record { shown = first_shown; place = 0; size = refl; here = refl }

  pub HasListed-more : (list : List DataLocale) (y z : DataLocale) → HasListed by x list y → next by y ≡ Some z → HasListed by x (list ++ z ∷ []) z
  HasListed-more list y z h follows =
      let there : at (next by) x (suc h.place) ≡ Some z = ap (option_and_then (next by)) h.here ∙ follows in
      let long = length-append list (z ∷ []) in
      let size : length (list ++ z ∷ []) ≡ suc (suc h.place) = omega (arith, long, h.size) in
      record {
        shown = λ i within. elim (cases_lt i (length list)) [
          | inl inside ↦ below list (z ∷ []) i inside ∙ h.shown i inside
          | inr past ↦
              let e : i ≡ length list = omega (arith, within, past, long) in
              ap (slice_get (list ++ z ∷ [])) e ∙ (behind list z ∙ (sym there ∙ ap (at (next by) x) (sym h.size ∙ sym e)))
        ];
        place = suc h.place;
        size = size;
        here = there;
      }

  pub IsChain-listed : (list : List DataLocale) (y : DataLocale) → HasListed by x list y → next by y ≡ None → IsChain by x list
  IsChain-listed list y h last i =
      elim (cases_lt i (length list)) [
        | inl inside ↦ h.shown i inside
        | inr past ↦
            let none : at (next by) x (suc h.place) ≡ None = ap (option_and_then (next by)) h.here ∙ last in
            slice_get_past list i past ∙ sym (none_after (next by) x (suc h.place) i (omega (arith, past, h.size)) none)
      ]

-- a chain that ends has fewer locales than its universe
pub within_universe : (p : LocaleFallbackPriority) (likely : LikelySubtags) (rows : List (DataLocale × DataLocale)) (x y z : DataLocale)
    → EndsAt (next (over p likely rows)) x y → (i : ℕ) → at (next (over p likely rows)) x i ≡ Some z → i < length (universe p likely rows x)
within_universe p likely rows x y z ends i here =
    place_in_universe (next (over p likely rows)) x same_or_other (universe p likely rows x) (IsUniverse-universe p likely rows x) y z ends i here

-- so what a loop has listed leaves room for one more
pub room : (p : LocaleFallbackPriority) (likely : LikelySubtags) (rows : List (DataLocale × DataLocale)) (x y z w : DataLocale) (list : List DataLocale)
    → EndsAt (next (over p likely rows)) x w → HasListed (over p likely rows) x list y → next (over p likely rows) y ≡ Some z
    → length list < length (universe p likely rows x)
room p likely rows x y z w list ends h follows =
    let there = ap (option_and_then (next (over p likely rows))) h.here ∙ follows in
    let inside = within_universe p likely rows x w z ends (suc h.place) there in
    omega (arith, inside, h.size)

-- ---- the text of what follows the first

module _ (by : Inheritance) (x : DataLocale) (old : List ℕ) where
  pub HasRest-start : HasRest by x old old 0 x
  HasRest-start = record { rest = []; listed = HasListed-first by x; count = refl; written = sym (append-nil old) }

  pub HasRest-more : (text new : List ℕ) (passed : ℕ) (y z : DataLocale) → HasRest by x old text passed y → next by y ≡ Some z
      → new ≡ text ++ behind_space z → HasRest by x old new (passed + 1) z
  HasRest-more text new passed y z h follows is =
      let long = length-append h.rest (z ∷ []) in
      record {
        rest = h.rest ++ z ∷ [];
        listed = HasListed-more by x (x ∷ h.rest) y z h.listed follows;
        count = omega (arith, h.count, long);
        written = is ∙ (ap (λ t. t ++ behind_space z) h.written ∙ (append_assoc old (flat_map behind_space h.rest) (behind_space z)
            ∙ ap (λ t. old ++ t) (sym (flat_map-one h.rest z))));
      }

  pub IsRestWritten-end : (text : List ℕ) (passed : ℕ) (y : DataLocale) → HasRest by x old text passed y → next by y ≡ None → IsRestWritten by x old text
  IsRestWritten-end text passed y h last = (h.rest, IsChain-listed by x (x ∷ h.rest) y h.listed last, h.written)

  -- what was there is still in front
  pub HasRest-front : (text : List ℕ) (passed : ℕ) (y : DataLocale) → HasRest by x old text passed y → (more : List ℕ) × (text ≡ old ++ more)
  HasRest-front text passed y h = (flat_map behind_space h.rest, h.written)

pub rest_room : (p : LocaleFallbackPriority) (likely : LikelySubtags) (rows : List (DataLocale × DataLocale)) (x y z w : DataLocale) (old text : List ℕ) (passed : ℕ)
    → EndsAt (next (over p likely rows)) x w → HasRest (over p likely rows) x old text passed y → next (over p likely rows) y ≡ Some z
    → passed + 1 < length (universe p likely rows x)
rest_room p likely rows x y z w old text passed ends h follows =
    let inside = room p likely rows x y z w (x ∷ h.rest) ends h.listed follows in
    omega (arith, inside, h.count)
