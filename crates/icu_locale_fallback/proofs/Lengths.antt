-- Ends of chains, and how long they are.
use Rattle.std.proofs.Common.{◌≡◌, ◌≢◌, ℕ, zero, suc, ◌+◌, ◌*◌, ◌≤◌, List, [], ◌∷◌, length, map, false, Option, Some, None, option_and_then, unwrap_or, refl, ap, sym, ◌∙◌, subst, ◌⊎◌, inl, inr, if◌then◌else◌, arith}
use Rattle.std.specs.List.{flat_map}
use Rattle.std.proofs.lemmas.List.{length-map, length-append}
use Rattle.std.proofs.lemmas.Bool.{false≢true, cases_Bool}
use Rattle.icu_provider.specs.declared.data_locale.DataLocale.{DataLocale}
use Rattle.icu_locale.specs.LikelySubtags.{LikelySubtags}
use Rattle.icu_locale.specs.Locales.{same_locale}
use Rattle.icu_locale_runs.specs.Run.{at, EndsOrRepeats}
use Rattle.icu_locale.specs.laws.Locales.{same_locale-Decides}
use Rattle.icu_locale_runs.specs.laws.Counts.{HasDistinct-universe}
use Rattle.icu_locale_runs.specs.laws.Runs.{EndsOrRepeats-universe}
use Rattle.icu_locale_fallback.specs.Fallback.{root, truncated, Inheritance, counted, explicit_parent, next}
use Rattle.icu_locale_fallback.specs.Chains.{most_truncations, over, EndsWithin, HasAtMost, HasNoParents}
use Rattle.icu_locale_fallback.specs.inner.Universe.{after, forms, universe}
use Rattle.icu_locale_fallback.specs.declared.fallbacker.LocaleFallbackPriority.{LocaleFallbackPriority}
use Rattle.icu_locale_fallback.specs.declared.fallbacker.LocaleFallbackPriority.TheVariants.{Language, Script, Region}
use Rattle.icu_locale_fallback.proofs.Truncations.{all_truncated, two_by_region}
use Rattle.icu_locale_fallback.proofs.Universes.{IsUniverse-universe}

-- ---- ends

-- the run from what follows the start is the rest of the run
pub front : {X : Type 0} (next : X → Option X) (x y : X) → next x ≡ Some y → (d : ℕ) → at next x (suc d) ≡ at next y d
front next x y e zero = e
front next x y e (suc d) = ap (option_and_then next) (front next x y e d)

same_root : (x : DataLocale) → (x ≡ root) ⊎ (same_locale x root ≡ false)
same_root x = elim (cases_Bool (same_locale x root)) [ inl is ↦ inl ((same_locale-Decides x root).0 is) | inr other ↦ inr other ]

pub follows : (by : Inheritance) (x : DataLocale) → explicit_parent by x ≡ None → same_locale x root ≡ false
    → next by x ≡ Some (truncated by.priority by.likely x)
follows by x none other =
    ap (λ b. if b then None else Some (unwrap_or (explicit_parent by x) (truncated by.priority by.likely x))) other
    ∙ ap (λ o. Some (unwrap_or o (truncated by.priority by.likely x))) none

within_root : (by : Inheritance) → ((z : DataLocale) → explicit_parent by z ≡ None) → (n : ℕ) (x : DataLocale)
    → after by.priority by.likely n x ≡ root → EndsWithin by x n
within_root by none zero x e = (0, omega arith, ap Some e)
within_root by none (suc n) x e =
    elim (same_root x) [
      | inl is ↦ (0, omega arith, ap Some is)
      | inr other ↦
          let y = truncated by.priority by.likely x in
          let (place, within, here) = within_root by none n y e in
          (suc place, omega (arith, within), front (next by) x y (follows by x (none x) other) place ∙ here)
    ]

counted_none : (p : LocaleFallbackPriority) (o : Option DataLocale) → o ≡ None → counted p o ≡ None
counted_none p o e = ap (counted p) e ∙ of_none p
  where
    of_none : (p : LocaleFallbackPriority) → counted p None ≡ None
    of_none Language = refl
    of_none Script = refl
    of_none Region = refl

pub without_parents : (by : Inheritance) (x : DataLocale) → HasNoParents by → EndsWithin by x (most_truncations by.priority)
without_parents by x none =
    within_root by (λ z. counted_none by.priority (by.parents z) (none z)) (most_truncations by.priority) x (all_truncated by.priority by.likely x)

pub by_region : (by : Inheritance) (x : DataLocale) → by.priority ≡ Region → EndsWithin by x 2
by_region by x is =
    within_root by (λ z. ap (λ p. counted p (by.parents z)) is) 2 x
    (ap (λ p. after p by.likely 2 x) is ∙ two_by_region x)

-- ---- lengths

pub same_or_other : (x y : DataLocale) → (x ≡ y) ⊎ (x ≢ y)
same_or_other x y =
    let decides = same_locale-Decides x y in
    elim (cases_Bool (same_locale x y)) [ inl is ↦ inl (decides.0 is) | inr off ↦ inr (λ e. false≢true (sym off ∙ decides.1 e)) ]

length-forms : (p : LocaleFallbackPriority) (likely : LikelySubtags) (n : ℕ) (x : DataLocale) → length (forms p likely n x) ≡ n
length-forms p likely zero x = refl
length-forms p likely (suc n) x = ap suc (length-forms p likely n (truncated p likely x))

length-flat_map : {X Y : Type 0} (f : X → List Y) (n : ℕ) → ((x : X) → length (f x) ≡ n) → (xs : List X) → length (flat_map f xs) ≡ n * length xs
length-flat_map f n each [] = omega arith
length-flat_map f n each (x ∷ xs) =
    let rest = length-flat_map f n each xs in
    let one = each x in
    let both = length-append (f x) (flat_map f xs) in
    let times : n * suc (length xs) ≡ n + n * length xs = omega arith in
    omega (arith, both, one, rest, times)

pub universe-length : (p : LocaleFallbackPriority) (likely : LikelySubtags) (rows : List (DataLocale × DataLocale)) (x : DataLocale)
    → length (universe p likely rows x) ≡ 1 + most_truncations p * (1 + length rows)
universe-length p likely rows x =
    let sources = x ∷ map (λ row. row.1) rows in
    let all = length-flat_map (forms p likely (most_truncations p)) (most_truncations p) (length-forms p likely (most_truncations p)) sources in
    let mapped = length-map rows (λ row. row.1) in
    let size : length sources ≡ 1 + length rows = omega (arith, mapped) in
    let times = ap (λ m. most_truncations p * m) size in
    omega (arith, all, times)

pub end_or_repeat : (p : LocaleFallbackPriority) (likely : LikelySubtags) (rows : List (DataLocale × DataLocale)) (x : DataLocale)
    → EndsOrRepeats (next (over p likely rows)) x
end_or_repeat p likely rows x =
    EndsOrRepeats-universe (next (over p likely rows)) x same_or_other (universe p likely rows x) (IsUniverse-universe p likely rows x)

pub at_most : (p : LocaleFallbackPriority) (likely : LikelySubtags) (rows : List (DataLocale × DataLocale)) (x : DataLocale)
    → HasAtMost (over p likely rows) x (1 + most_truncations p * (1 + length rows))
at_most p likely rows x =
    let count = HasDistinct-universe (next (over p likely rows)) x same_or_other (universe p likely rows x) (IsUniverse-universe p likely rows x) in
    (count.0, count.2, subst (λ m. count.0 ≤ m) (universe-length p likely rows x) count.1)
