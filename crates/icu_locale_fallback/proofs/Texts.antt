-- The list and the text of an identifier's chain, from the list of its language, script and region.
use Rattle.std.proofs.Common.{◌≡◌, ◌≢◌, ◌==◌, ◌++◌, ℕ, zero, suc, List, [], ◌∷◌, map, take, drop, length, codes, inl, inr, refl, ap, sym, ◌∙◌, subst, if◌then◌else◌, append_assoc, Result, Ok, Err, OnOk, OnErr}
use Rattle.std.specs.Option.{option_map}
use Rattle.std.specs.List.{flat_map}
use Rattle.std.proofs.lemmas.Bool.{cases_eq}
use Rattle.std.proofs.lemmas.Option.{slice_get-map}
use Rattle.icu_locale_core.specs.Identifier.{written}
use Rattle.icu_locale_core.specs.TextSet.{len}
use Rattle.icu_locale_core.specs.declared.langid.LanguageIdentifier.{LanguageIdentifier}
use Rattle.icu_provider.specs.declared.data_locale.DataLocale.{DataLocale}
use Rattle.icu_locale.specs.LikelySubtags.{subtags_of}
use Rattle.icu_locale_fallback.specs.Fallback.{Inheritance}
use Rattle.icu_locale_fallback.specs.Chains.{IsChain}
use Rattle.icu_locale_fallback.specs.Identifiers.{plain, IsIdentifierChain, chain_text, IsWritten}
use Rattle.icu_locale_fallback.specs.inner.Listing.{listed, behind_space, IsRestWritten}
use Rattle.icu_locale_fallback.proofs.Variants.{chain_plain, chain_variants, plain_itself, chosen_some}

-- what holds where a call succeeds
pub on_ok : {T E P Q : Type 0} (r : Result T E) → (P → Q) → OnOk r P → OnOk r Q
on_ok (Ok x) f h = f h
on_ok (Err e) f h = tt

flat_map-plain : (ys : List DataLocale) → flat_map (λ y. codes " " ++ written y) (map plain ys) ≡ flat_map behind_space ys
flat_map-plain [] = refl
flat_map-plain (y ∷ ys) = ap (λ t. behind_space y ++ t) (flat_map-plain ys)

-- the text of an identifier and of locales after it
text_of : (x : LanguageIdentifier) (ys : List DataLocale) → chain_text (x ∷ map plain ys) ≡ written x ++ flat_map behind_space ys
text_of x ys = ap (λ t. written x ++ t) (flat_map-plain ys)

module _ (by : Inheritance) (x : LanguageIdentifier) where
  chain_bare : (ys : List DataLocale) → len x.variants ≡ 0 → IsChain by (subtags_of x) ys → IsIdentifierChain by x (map plain ys)
  chain_bare ys none are i = slice_get-map plain ys i ∙ (ap (option_map plain) (are i) ∙ sym (chain_plain by x none i))

  chain_behind : (ys : List DataLocale) → len x.variants ≢ 0 → IsChain by (subtags_of x) ys → IsIdentifierChain by x (x ∷ map plain ys)
  chain_behind ys some are zero = refl
  chain_behind ys some are (suc i) = slice_get-map plain ys i ∙ (ap (option_map plain) (are i) ∙ sym (chain_variants by x some i))

  pub IsIdentifierChain-listed : (ys : List DataLocale) → IsChain by (subtags_of x) ys → IsIdentifierChain by x (listed x ys)
  IsIdentifierChain-listed ys are =
      elim (cases_eq (len x.variants) 0) [
        | inl none ↦ subst (IsIdentifierChain by x) (sym (ap (λ n. (if n == 0 then [] else x ∷ []) ++ map plain ys) none)) (chain_bare ys none are)
        | inr some ↦ subst (IsIdentifierChain by x) (sym (ap (λ t. t ++ map plain ys) (chosen_some (len x.variants) [] (x ∷ []) some))) (chain_behind ys some are)
      ]

  pub IsWritten-bare : (old middle new : List ℕ) → len x.variants ≡ 0 → middle ≡ old ++ written x → IsRestWritten by (subtags_of x) middle new
      → IsWritten by x old new
  IsWritten-bare old middle new none start (rest, are, is) = (
    map plain (subtags_of x ∷ rest),
    chain_bare (subtags_of x ∷ rest) none are,
    is ∙ (ap (λ t. t ++ flat_map behind_space rest) start ∙ (append_assoc old (written x) (flat_map behind_space rest)
        ∙ ap (λ t. old ++ t) (ap (λ w. written w ++ flat_map behind_space rest) (sym (plain_itself x none)) ∙ sym (text_of (plain (subtags_of x)) rest)))),
  )

  pub IsWritten-behind : (old middle second new : List ℕ) → len x.variants ≢ 0 → middle ≡ old ++ written x → second ≡ middle ++ behind_space (subtags_of x)
      → IsRestWritten by (subtags_of x) second new → IsWritten by x old new
  IsWritten-behind old middle second new some start goes (rest, are, is) =
      let more = flat_map behind_space rest in
      let space = behind_space (subtags_of x) in (
        x ∷ map plain (subtags_of x ∷ rest),
        chain_behind (subtags_of x ∷ rest) some are,
        is ∙ (ap (λ t. t ++ more) (goes ∙ ap (λ t. t ++ space) start) ∙ (ap (λ t. t ++ more) (append_assoc old (written x) space)
            ∙ (append_assoc old (written x ++ space) more ∙ ap (λ t. old ++ t) (append_assoc (written x) space more ∙ sym (text_of x (subtags_of x ∷ rest)))))),
      )
