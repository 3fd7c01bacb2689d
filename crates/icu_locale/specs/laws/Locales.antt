-- When two locales are the same, and what removing placeholders does to one.
use Rattle.std.proofs.Common.{◌≡◌, ◌≢◌, ℕ, List, true, false, ◌&&◌, Option, Some, None, refl, ap, sym, ◌∙◌, ◌⊎◌, ⊎_elim}
use Rattle.std.specs.Bool.{Decides}
use Rattle.std.specs.Option.{option_eq}
use Rattle.std.specs.Str.{bytes_eq}
use Rattle.std.proofs.lemmas.Bool.{and_parts, and_from, false≢true, cases_cond}
use Rattle.std.proofs.lemmas.Slice.Eq.{bytes_eq-Decides}
use Rattle.icu_provider.specs.declared.data_locale.DataLocale.{DataLocale}
use Rattle.icu_locale.specs.LikelySubtags.{LikelySubtags, maximal_locale, known_subtag, unknown_script, unknown_region, bare_locale}
use Rattle.icu_locale.specs.LikelySubtags.{maximal_of_bare}
use Rattle.icu_locale.specs.Locales.{same_locale}

-- texts whose test is true are equal
pub same_text : (t u : List ℕ) → bytes_eq t u ≡ true → t ≡ u
same_text t u = (bytes_eq-Decides t u).0

-- a text is the same as itself
pub text_itself : (t : List ℕ) → bytes_eq t t ≡ true
text_itself t = (bytes_eq-Decides t t).1 refl

-- subtags whose test is true are equal
pub same_subtag : (x y : Option (List ℕ)) → option_eq bytes_eq x y ≡ true → x ≡ y
same_subtag None None e = refl
same_subtag None (Some u) e = absurd (false≢true e)
same_subtag (Some t) None e = absurd (false≢true e)
same_subtag (Some t) (Some u) e = ap Some (same_text t u e)

-- a subtag that there may be is the same as itself
pub subtag_itself : (x : Option (List ℕ)) → option_eq bytes_eq x x ≡ true
subtag_itself None = refl
subtag_itself (Some t) = text_itself t

-- locales whose test is true are equal
pub same_from_test : (x y : DataLocale) → same_locale x y ≡ true → x ≡ y
same_from_test x y e =
    let first = and_parts (bytes_eq x.language y.language) (option_eq bytes_eq x.script y.script && option_eq bytes_eq x.region y.region) e in
    let rest = and_parts (option_eq bytes_eq x.script y.script) (option_eq bytes_eq x.region y.region) first.1 in
    let l : x.language ≡ y.language = same_text _ _ first.0 in
    let s : x.script ≡ y.script = same_subtag _ _ rest.0 in
    let r : x.region ≡ y.region = same_subtag _ _ rest.1 in
    λ i. record { language = l i; script = s i; region = r i }

-- a locale is the same as itself
pub test_itself : (x : DataLocale) → same_locale x x ≡ true
test_itself x = and_from (bytes_eq x.language x.language) (option_eq bytes_eq x.script x.script && option_eq bytes_eq x.region x.region)
    (text_itself x.language) (and_from (option_eq bytes_eq x.script x.script) (option_eq bytes_eq x.region x.region)
    (subtag_itself x.script) (subtag_itself x.region))

-- the test is true exactly for equal locales
pub same_locale-Decides : (x y : DataLocale) → Decides (same_locale x y) (x ≡ y)
same_locale-Decides x y = (same_from_test x y, λ e. ap (same_locale x) (sym e) ∙ test_itself x)

-- locales whose test is false differ
pub other_from_test : (x y : DataLocale) → same_locale x y ≡ false → x ≢ y
other_from_test x y e same = false≢true (sym e ∙ (same_locale-Decides x y).1 same)

-- a subtag that is there is removed or stays
pub known_subtag-cases : (unknown t : List ℕ) → (known_subtag unknown (Some t) ≡ None) ⊎ (known_subtag unknown (Some t) ≡ Some t)
known_subtag-cases unknown t = cases_cond (bytes_eq t unknown) None (Some t) (known_subtag unknown (Some t)) refl

-- what stays is not removed later
pub known_subtag-again : (unknown : List ℕ) (x : Option (List ℕ)) → known_subtag unknown (known_subtag unknown x) ≡ known_subtag unknown x
known_subtag-again unknown None = refl
known_subtag-again unknown (Some t) = ⊎_elim (λ gone. ap (known_subtag unknown) gone ∙ sym gone) (λ stays. ap (known_subtag unknown) stays)
    (known_subtag-cases unknown t)

-- a bare locale is bare
pub bare_locale-again : (x : DataLocale) → bare_locale (bare_locale x) ≡ bare_locale x
bare_locale-again x =
    let s = known_subtag-again unknown_script x.script in
    let r = known_subtag-again unknown_region x.region in
    λ i. record { language = x.language; script = s i; region = r i }

-- a locale and its bare one have the same maximal form
pub maximal_locale-bare : (likely : LikelySubtags) (x : DataLocale) → maximal_locale likely (bare_locale x) ≡ maximal_locale likely x
maximal_locale-bare likely x = ap (maximal_of_bare likely) (bare_locale-again x)
