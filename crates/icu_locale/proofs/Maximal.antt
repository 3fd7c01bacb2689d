-- What filling in does to a locale, and when an identifier is changed.
use Rattle.std.proofs.Common.{◌≡◌, ◌≢◌, ℕ, List, true, false, Option, Some, None, refl, ap, sym, ◌∙◌, ◌⊎◌, inl, inr}
use Rattle.std.specs.Option.{unwrap_or}
use Rattle.std.proofs.lemmas.Bool.{false≢true, cases_Bool}
use Rattle.icu_provider.specs.declared.data_locale.DataLocale.{DataLocale}
use Rattle.icu_locale.specs.LikelySubtags.{LikelySubtags, Triple}
use Rattle.icu_locale.specs.LikelySubtags.{filled_from, IsModified, subtags_of, maximal, with_locale}
use Rattle.icu_locale.specs.Locales.{same_locale}
use Rattle.icu_locale.specs.laws.Locales.{same_from_test, other_from_test}
use Rattle.icu_locale_core.specs.laws.Identifiers.{identifiers_decide, same_parts}
use Rattle.icu_locale_core.specs.declared.langid.LanguageIdentifier.{LanguageIdentifier}

given_stays : (x : Option (List ℕ)) (t : List ℕ) → (x ≡ None) ⊎ (Some (unwrap_or x t) ≡ x)
given_stays None t = inl refl
given_stays (Some s) t = inr refl

-- filling in leaves a script that is there
pub filled_from-script : (x : DataLocale) (found : Option Triple) → (x.script ≡ None) ⊎ ((filled_from x found).script ≡ x.script)
filled_from-script x None = inr refl
filled_from-script x (Some t) = given_stays x.script t.1

-- and a region that is there
pub filled_from-region : (x : DataLocale) (found : Option Triple) → (x.region ≡ None) ⊎ ((filled_from x found).region ≡ x.region)
filled_from-region x None = inr refl
filled_from-region x (Some t) = given_stays x.region t.2

-- an identifier with its own locale is itself
pub same_with_locale : (x : LanguageIdentifier) (y : DataLocale) → y ≡ subtags_of x → with_locale x y ≡ x
same_with_locale x y e = ap (with_locale x) e

-- and with another one it is another
pub locale_from_same : (x : LanguageIdentifier) (y : DataLocale) → with_locale x y ≡ x → y ≡ subtags_of x
locale_from_same x y e = ap subtags_of e

-- a locale that is the same leaves the identifier
pub unchanged : (x : LanguageIdentifier) (given y : DataLocale) → given ≡ subtags_of x → true ≡ same_locale y given → with_locale x y ≡ x
unchanged x given y is e = same_with_locale x y (same_from_test y given (sym e) ∙ is)

-- another one changes it
pub changed : (x : LanguageIdentifier) (given y : DataLocale) → given ≡ subtags_of x → false ≡ same_locale y given → with_locale x y ≢ x
changed x given y is e same = other_from_test y given (sym e) (locale_from_same x y same ∙ sym is)

-- identifiers that cannot differ are equal
pub same_from_not_other : (x y : LanguageIdentifier) → (x ≢ y → ⊥) → x ≡ y
same_from_not_other x y not_other =
    let tells = identifiers_decide x y in
    elim (cases_Bool (same_parts x y)) [
      | inl same ↦ tells.0 same
      | inr off ↦ absurd (not_other (λ is. false≢true (sym off ∙ tells.1 is)))
    ]

-- what is not modified is its own maximal form
pub same_where_unmodified : (likely : LikelySubtags) (x : LanguageIdentifier)
    → (IsModified likely x → ⊥) → maximal likely x ≡ x
same_where_unmodified likely x unmodified =
    same_from_not_other (maximal likely x) x (λ other. unmodified (inr other))
