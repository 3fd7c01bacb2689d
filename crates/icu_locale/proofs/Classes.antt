-- Minimal forms as the least of their classes: they exist, are one, and tell maximal forms apart.
use Rattle.std.proofs.Common.{◌≡◌, ◌⊎◌, ◌↔◌, refl, ap, sym, ◌∙◌, inl, inr, arith}
use Rattle.icu_locale_core.specs.declared.langid.LanguageIdentifier.{LanguageIdentifier}
use Rattle.icu_locale.specs.LikelySubtags.{LikelySubtags, subtags_of, with_locale, maximal_locale, maximal, HaveSameMaximalParts, IsSettled}
use Rattle.icu_locale.specs.declared.expander.Favor.{Favor}
use Rattle.icu_locale.specs.Minimal.{Precedes, IsInClass, IsLeast, IsMinimalForm}
use Rattle.icu_locale.specs.inner.Trials.{first_trial, trials}
use Rattle.icu_locale.proofs.Least.{IsMinimalForm-first_trial}

-- there is a minimal form
pub minimal_form_exists : (favor : Favor) (likely : LikelySubtags) (x : LanguageIdentifier) → (y : LanguageIdentifier) × IsMinimalForm favor likely x y
minimal_form_exists favor likely x =
    let m = maximal_locale likely (subtags_of x) in
    (with_locale x (first_trial likely m (trials favor m)), IsMinimalForm-first_trial likely x favor)

-- of two identifiers not both precede the other
not_both : (favor : Favor) (y z : LanguageIdentifier) → Precedes favor y z → Precedes favor z y → ⊥
not_both favor y z (inl a) (inl b) = omega (arith, a, b)
not_both favor y z (inl a) (inr b) = omega (arith, a, b.0)
not_both favor y z (inr a) (inl b) = omega (arith, a.0, b)
not_both favor y z (inr a) (inr b) = a.2 b.1

least_is_one : (favor : Favor) (y z : LanguageIdentifier) → (y ≡ z) ⊎ Precedes favor y z → (z ≡ y) ⊎ Precedes favor z y → y ≡ z
least_is_one favor y z (inl same) b = same
least_is_one favor y z (inr a) (inl same) = sym same
least_is_one favor y z (inr a) (inr b) = absurd (not_both favor y z a b)

-- and only one
pub minimal_form_is_one : (favor : Favor) (likely : LikelySubtags) (x y z : LanguageIdentifier) → IsMinimalForm favor likely x y
    → IsMinimalForm favor likely x z → y ≡ z
minimal_form_is_one favor likely x y z (inl a) (inl b) = least_is_one favor y z (a.1 z b.0) (b.1 y a.0)
minimal_form_is_one favor likely x y z (inl a) (inr b) = absurd (b.0 y a.0)
minimal_form_is_one favor likely x y z (inr a) (inl b) = absurd (a.0 z b.0)
minimal_form_is_one favor likely x y z (inr a) (inr b) = a.1 ∙ sym b.1

-- identifiers with equal maximal forms have the same class
same_class : (likely : LikelySubtags) (x y z : LanguageIdentifier) → maximal likely x ≡ maximal likely y → IsInClass likely x z → IsInClass likely y z
same_class likely x y z e member = record { language = member.language ∙ ap (λ (w : LanguageIdentifier). w.language) e; same = member.same ∙ e }

-- and so the same minimal form
pub same_minimal_form : (favor : Favor) (likely : LikelySubtags) (x y z : LanguageIdentifier) → maximal likely x ≡ maximal likely y
    → IsMinimalForm favor likely x z → IsMinimalForm favor likely y z
same_minimal_form favor likely x y z e (inl least) = inl (same_class likely x y z e least.0, λ w member. least.1 w (same_class likely y x w (sym e) member))
same_minimal_form favor likely x y z e (inr none) = inr (λ w member. none.0 w (same_class likely y x w (sym e) member), none.1 ∙ e)

-- a settled maximal form is in its class
in_own_class : (likely : LikelySubtags) (x : LanguageIdentifier) → IsSettled likely (maximal likely x) → IsInClass likely x (maximal likely x)
in_own_class likely x settled = record { language = refl; same = settled.fixed }

-- so the minimal form is the least of the class
pub minimal_form_is_least : (favor : Favor) (likely : LikelySubtags) (x y : LanguageIdentifier) → IsSettled likely (maximal likely x)
    → IsMinimalForm favor likely x y → IsLeast favor likely x y
minimal_form_is_least favor likely x y settled (inl least) = least
minimal_form_is_least favor likely x y settled (inr none) = absurd (none.0 (maximal likely x) (in_own_class likely x settled))

-- and has the maximal form
pub maximal_of_minimal : (favor : Favor) (likely : LikelySubtags) (x y : LanguageIdentifier) → IsSettled likely (maximal likely x)
    → IsMinimalForm favor likely x y → maximal likely y ≡ maximal likely x
maximal_of_minimal favor likely x y settled is = (minimal_form_is_least favor likely x y settled is).0.same

-- minimal forms are equal exactly where maximal forms are
pub minimal_forms_tell_apart : (favor : Favor) (likely : LikelySubtags) (x y u v : LanguageIdentifier) → IsSettled likely (maximal likely x)
    → IsSettled likely (maximal likely y) → IsMinimalForm favor likely x u → IsMinimalForm favor likely y v → (u ≡ v) ↔ (maximal likely x ≡ maximal likely y)
minimal_forms_tell_apart favor likely x y u v sx sy is_u is_v = (
  λ same. sym (maximal_of_minimal favor likely x u sx is_u) ∙ ap (maximal likely) same ∙ maximal_of_minimal favor likely y v sy is_v,
  λ same. minimal_form_is_one favor likely y u v (same_minimal_form favor likely x y u same is_u) is_v,
)

-- over a settled table: maximizing again changes nothing
pub maximal_of_maximal : (likely : LikelySubtags) (x : LanguageIdentifier) → IsSettled likely (maximal likely x)
    → maximal likely (maximal likely x) ≡ maximal likely x
maximal_of_maximal likely x settled = settled.fixed

-- the minimal form of the maximal form is that of the identifier
pub minimal_of_maximal : (favor : Favor) (likely : LikelySubtags) (x y : LanguageIdentifier) → IsSettled likely (maximal likely x)
    → IsMinimalForm favor likely (maximal likely x) y ↔ IsMinimalForm favor likely x y
minimal_of_maximal favor likely x y settled = (
  same_minimal_form favor likely
      (maximal likely x) x y settled.fixed,
  same_minimal_form favor likely x (maximal likely x) y (sym settled.fixed),
)

-- a minimal form is its own minimal form
pub minimal_of_minimal : (favor : Favor) (likely : LikelySubtags) (x y : LanguageIdentifier) → IsSettled likely (maximal likely x)
    → IsMinimalForm favor likely x y → IsMinimalForm favor likely y y
minimal_of_minimal favor likely x y settled is = same_minimal_form favor likely x y y (sym (maximal_of_minimal favor likely x y settled is)) is

-- a minimal form has the variants of the maximal form
pub minimal_keeps_variants : (favor : Favor) (likely : LikelySubtags) (x y : LanguageIdentifier) → IsMinimalForm favor likely x y → y.variants ≡ x.variants
minimal_keeps_variants favor likely x y (inl least) = ap (λ z. z.variants) least.0.same
minimal_keeps_variants favor likely x y (inr (none, is)) = ap (λ z. z.variants) is

-- a maximal form is made of that of the three subtags and of the variants
pub maximal_by_parts : (likely : LikelySubtags) (x y : LanguageIdentifier) → (maximal likely x ≡ maximal likely y) ↔ HaveSameMaximalParts likely x y
maximal_by_parts likely x y = (
  λ same. record { locale = ap subtags_of same; variants = ap (λ z. z.variants) same },
  λ parts i. record { language = (parts.locale i).language; script = (parts.locale i).script; region = (parts.locale i).region; variants = parts.variants i },
)
