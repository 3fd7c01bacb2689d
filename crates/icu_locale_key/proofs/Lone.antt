-- A known language alone is its own minimal form, whatever its variants.
use Rattle.std.proofs.Common.{◌≡◌, ◌⊎◌, false, cond, List, Option, Some, None, ℕ, refl, ap, sym, ◌∙◌, inl, inr, arith}
use Rattle.std.specs.Str.{bytes_eq}
use Rattle.icu_locale_core.specs.Subtag.{und}
use Rattle.icu_locale_core.specs.TextSet.{len}
use Rattle.icu_locale_core.specs.declared.langid.LanguageIdentifier.{LanguageIdentifier}
use Rattle.icu_locale.specs.LikelySubtags.{LikelySubtags, Triple, bare_locale, filled_from, first_found, keys, maximal, subtags_of}
use Rattle.icu_locale.specs.Minimal.{IsInClass, IsMinimalForm, Precedes, count}
use Rattle.icu_locale.specs.declared.expander.Favor.TheVariants.{RegionFirst}
use Rattle.icu_provider.specs.declared.data_locale.DataLocale.{DataLocale}
use Rattle.icu_locale_key.specs.Keys.{HasClass}
use Rattle.icu_locale_key.specs.inner.AtOnce.{IsLone}
use Rattle.icu_locale_key.proofs.AtOnce.{differ}

language_kept : (x : DataLocale) (found : Option Triple) → bytes_eq x.language und ≡ false → (filled_from x found).language ≡ x.language
language_kept x None known = refl
language_kept x (Some t) known = ap (λ b. cond b t.0 x.language) known

module _ (likely : LikelySubtags) (x : LanguageIdentifier) (lone : IsLone x) where
  language_stays : (maximal likely x).language ≡ x.language
  language_stays =
      let bare = bare_locale (subtags_of x) in
      language_kept bare (first_found likely (keys bare)) (differ x.language und lone.language)

  in_own_class : IsInClass likely x x
  in_own_class = record { language = sym language_stays; same = refl }

  pub lone_has_class : HasClass likely x
  lone_has_class = (x, in_own_class)

  -- whatever else has the language and the maximal form has more subtags
  least : (z : LanguageIdentifier) → IsInClass likely x z → (x ≡ z) ⊎ Precedes RegionFirst x z
  least z is = by z.script z.region refl refl
    where
      variants : z.variants ≡ x.variants
      variants = ap (λ (y : LanguageIdentifier). y.variants) is.same

      by : (s r : Option (List ℕ)) → z.script ≡ s → z.region ≡ r → (x ≡ z) ⊎ Precedes RegionFirst x z
      by None None script region = inl (λ i. record {
        language = sym (is.language ∙ language_stays) i;
        script = (lone.script ∙ sym script) i;
        region = (lone.region ∙ sym region) i;
        variants = sym variants i;
      })
      by (Some s) r script region = inr (inl (omega (arith, ap count script, ap count lone.script, ap count lone.region, ap len variants)))
      by None (Some r) script region = inr (inl (omega (arith, ap count region, ap count lone.script, ap count lone.region, ap len variants)))

  pub lone_is_minimal : IsMinimalForm RegionFirst likely x x
  lone_is_minimal = inl (in_own_class, least)
