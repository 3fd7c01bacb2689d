-- Normal forms and keys of tables are their own.
use Rattle.std.proofs.Common.{◌≡◌, ◌≢◌, List, ℕ, true, Option, Some, None, codes, refl, ap, sym, ◌∙◌, inl, inr, if◌then◌else◌}
use Rattle.std.specs.Option.{option_eq}
use Rattle.std.specs.Str.{bytes_eq}
use Rattle.std.proofs.lemmas.Option.{none-some}
use Rattle.icu_provider.specs.declared.data_locale.DataLocale.{DataLocale}
use Rattle.icu_locale.specs.LikelySubtags.{LikelySubtags, known_subtag, unknown_script, unknown_region, bare_locale}
use Rattle.icu_locale.specs.Locales.{locale_with}
use Rattle.icu_locale.specs.declared.expander.looks.LikelyKey.TheVariants.{LanguageAlone, LanguageScript}
use Rattle.icu_locale.specs.laws.Locales.{known_subtag-cases, known_subtag-again, subtag_itself}
use Rattle.icu_locale_fallback.specs.Fallback.{script_of, has_implied_script, without_implied, normal, depends_on_region, data_key}
use Rattle.icu_locale_fallback.specs.declared.fallbacker.LocaleFallbackPriority.{LocaleFallbackPriority}
use Rattle.icu_locale_fallback.specs.declared.fallbacker.LocaleFallbackPriority.TheVariants.{Language, Script, Region}
use Rattle.icu_locale_fallback.proofs.Truncations.{cond_cases}

module _ (likely : LikelySubtags) (l : List ℕ) where
  -- ---- a script that is implied is left out once

  -- without its script a locale stays
  scriptless : (r : Option (List ℕ)) → without_implied likely (locale_with l None r) ≡ locale_with l None r
  scriptless r =
      elim (cond_cases (has_implied_script likely (locale_with l None r)) (locale_with l None r) (locale_with l None r)) [
        | inl (implied, is) ↦ is
        | inr (other, is) ↦ is
      ]

  implied_again : (o r : Option (List ℕ)) → without_implied likely (without_implied likely (locale_with l o r)) ≡ without_implied likely (locale_with l o r)
  implied_again o r =
      elim (cond_cases (has_implied_script likely (locale_with l o r)) (locale_with l None r) (locale_with l o r)) [
        | inl (implied, is) ↦ ap (without_implied likely) is ∙ (scriptless r ∙ sym is)
        | inr (other, is) ↦ ap (without_implied likely) is
      ]

  -- what is bare stays bare
  bare_kept : (o r : Option (List ℕ)) → known_subtag unknown_script o ≡ o → known_subtag unknown_region r ≡ r
      → bare_locale (without_implied likely (locale_with l o r)) ≡ without_implied likely (locale_with l o r)
  bare_kept o r script region =
      elim (cond_cases (has_implied_script likely (locale_with l o r)) (locale_with l None r) (locale_with l o r)) [
        | inl (implied, is) ↦ ap bare_locale is ∙ (ap (locale_with l None) region ∙ sym is)
        | inr (other, is) ↦ ap bare_locale is ∙ ((λ i. locale_with l (script i) (region i)) ∙ sym is)
      ]

  form_again : (o r : Option (List ℕ)) → known_subtag unknown_script o ≡ o → known_subtag unknown_region r ≡ r
      → normal Language likely (without_implied likely (locale_with l o r)) ≡ without_implied likely (locale_with l o r)
  form_again o r script region = ap (without_implied likely) (bare_kept o r script region) ∙ implied_again o r

  -- ---- a script that is put in is left out again

  with_likely : (o r : Option (List ℕ)) → known_subtag unknown_region r ≡ r → o ≡ script_of likely (locale_with l None r)
      → normal Language likely (locale_with l o r) ≡ locale_with l None r
  with_likely None r region e = ap (without_implied likely) (ap (locale_with l None) region) ∙ scriptless r
  with_likely (Some s) r region e =
      let test : has_implied_script likely (locale_with l (Some s) r) ≡ true =
      ap (λ o. option_eq bytes_eq o (Some s)) (sym e) ∙ subtag_itself (Some s) in
      elim (known_subtag-cases unknown_script s) [
        | inl gone ↦ ap (without_implied likely) (λ i. locale_with l (gone i) (region i)) ∙ scriptless r
        | inr stays ↦ ap (without_implied likely) (λ i. locale_with l (stays i) (region i))
            ∙ ap (λ b. if b then locale_with l None r else locale_with l (Some s) r) test
      ]

-- the key of a normal form
abbrev key_of : LikelySubtags → DataLocale → DataLocale
key_of likely n = if depends_on_region likely n then locale_with n.language (script_of likely n) n.region else n

key_again : (likely : LikelySubtags) (l : List ℕ) (s r : Option (List ℕ)) → normal Language likely (locale_with l s r) ≡ locale_with l s r
    → known_subtag unknown_region r ≡ r → data_key likely (key_of likely (locale_with l s r)) ≡ key_of likely (locale_with l s r)
key_again likely l (Some s) r own region = ap (key_of likely) own
key_again likely l None r own region =
    let n = locale_with l None r in
    elim (cond_cases (depends_on_region likely n) (locale_with l (script_of likely n) r) n) [
      | inl (depends, is) ↦ ap (data_key likely) is ∙ ap (key_of likely) (with_likely likely l (script_of likely n) r region refl)
      | inr (stays, is) ↦ ap (data_key likely) is ∙ ap (key_of likely) own
    ]

-- by language and by script, a normal form is its own
pub normal_again : (p : LocaleFallbackPriority) (likely : LikelySubtags) (x : DataLocale) → p ≢ Region → normal p likely (normal p likely x) ≡ normal p likely x
normal_again Language likely x other = form_again likely x.language (known_subtag unknown_script x.script) (known_subtag unknown_region x.region)
    (known_subtag-again unknown_script x.script) (known_subtag-again unknown_region x.region)
normal_again Script likely x other = form_again likely x.language (known_subtag unknown_script x.script) (known_subtag unknown_region x.region)
    (known_subtag-again unknown_script x.script) (known_subtag-again unknown_region x.region)
normal_again Region likely x other = absurd (other refl)

-- the key of a locale is its own
pub data_key_again : (likely : LikelySubtags) (x : DataLocale) → data_key likely (data_key likely x) ≡ data_key likely x
data_key_again likely x =
    let n = normal Language likely x in
    let bare = bare_kept likely x.language (known_subtag unknown_script x.script) (known_subtag unknown_region x.region)
    (known_subtag-again unknown_script x.script) (known_subtag-again unknown_region x.region) in
    key_again likely n.language n.script n.region (form_again likely x.language (known_subtag unknown_script x.script) (known_subtag unknown_region x.region)
    (known_subtag-again unknown_script x.script) (known_subtag-again unknown_region x.region)) (ap (λ y. y.region) bare)

-- by region a normal form need not be its own: that of `aa-Latn` is `aa`, and that of `aa` is `aa-US`
abbrev leads_to_none : LikelySubtags
leads_to_none (LanguageAlone l) = Some (codes "aa", codes "Latn", codes "US")
leads_to_none (LanguageScript l s) = Some (codes "aa", codes "Latn", codes "ZZ")
leads_to_none key = None

pub other_again : ¬ ((likely : LikelySubtags) (x : DataLocale) → normal Region likely (normal Region likely x) ≡ normal Region likely x)
other_again same = none-some (codes "US") (sym (ap (λ y. y.region) (same leads_to_none (locale_with (codes "aa") (Some (codes "Latn")) None))))
