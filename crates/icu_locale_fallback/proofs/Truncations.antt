-- So many truncations lead to the root.
use Rattle.std.proofs.Common.{◌≡◌, ℕ, List, Bool, true, false, not, ◌&&◌, Option, Some, None, is_some, refl, ap, sym, ◌∙◌, ◌⊎◌, inl, inr, if◌then◌else◌}
use Rattle.std.specs.Option.{option_eq, option_or}
use Rattle.std.specs.Str.{bytes_eq}
use Rattle.std.proofs.lemmas.Bool.{false≢true, cases_Bool, not-true}
use Rattle.std.proofs.lemmas.Option.{none-some}
use Rattle.std.proofs.lemmas.Slice.Eq.{bytes_eq-Decides}
use Rattle.icu_locale_core.specs.Subtag.{und}
use Rattle.icu_provider.specs.declared.data_locale.DataLocale.{DataLocale}
use Rattle.icu_locale.specs.LikelySubtags.{LikelySubtags, Triple, known_subtag, unknown_region, filled_from, first_found, known_keys, und_keys}
use Rattle.icu_locale.specs.Locales.{locale_with}
use Rattle.icu_locale_fallback.specs.Fallback.{root, script_of, without_region, depends_on_region, without_script, above_region, script_alone, has_likely_script, truncated_by_language, truncated_by_script, truncated_by_region}
use Rattle.icu_locale_fallback.specs.declared.fallbacker.LocaleFallbackPriority.{LocaleFallbackPriority}
use Rattle.icu_locale_fallback.specs.declared.fallbacker.LocaleFallbackPriority.TheVariants.{Language, Script, Region}
use Rattle.icu_locale_fallback.specs.Chains.{most_truncations}
use Rattle.icu_locale_fallback.specs.inner.Universe.{after}

pub cond_cases : {X : Type 0} (b : Bool) (x y : X) → ((b ≡ true) × ((if b then x else y) ≡ x)) ⊎ ((b ≡ false) × ((if b then x else y) ≡ y))
cond_cases true x y = inl (refl, refl)
cond_cases false x y = inr (refl, refl)

-- ---- a script that is put in is there

none_found : (x : DataLocale) (found : Option Triple) → (filled_from x found).script ≡ None → found ≡ None
none_found x None e = refl
none_found x (Some t) e = absurd (none-some _ (sym e))

or_none : {X : Type 0} (a b : Option X) → option_or a b ≡ None → b ≡ None
or_none None b e = e
or_none (Some x) b e = absurd (none-some x (sym e))

-- where neither the region nor the language alone has a row, the language alone has none
none_alone : (likely : LikelySubtags) (l : List ℕ) (r : Option (List ℕ)) (b : Bool) → b ≡ false
    → first_found likely (if b then und_keys None r else known_keys l None r) ≡ None
    → first_found likely (if b then und_keys None None else known_keys l None None) ≡ None
none_alone likely l r true off e = absurd (false≢true (sym off))
none_alone likely l None false off e = e
none_alone likely l (Some r) false off e = or_none _ _ e

no_script_alone : (likely : LikelySubtags) (l : List ℕ) (r : Option (List ℕ)) → bytes_eq l und ≡ false
    → script_of likely (locale_with l None r) ≡ None → script_of likely (locale_with l None None) ≡ None
no_script_alone likely l r known e =
    let gone = none_found _ _ e in
    ap (λ found. (filled_from (locale_with l None None) found).script)
    (none_alone likely l (known_subtag unknown_region r) (bytes_eq l und) known gone)

-- a script that depends on the region is there, and the language alone has another
put_in_some : (alone whole : Option (List ℕ)) (b : Bool) → (not b && not (option_eq bytes_eq alone whole)) ≡ true
    → (b ≡ false → whole ≡ None → alone ≡ None) → (s : List ℕ) × (whole ≡ Some s) × (option_eq bytes_eq alone (Some s) ≡ false)
put_in_some alone (Some s) true e none = absurd (false≢true e)
put_in_some alone (Some s) false e none = (s, refl, not-true (option_eq bytes_eq alone (Some s)) e)
put_in_some alone None true e none = absurd (false≢true e)
put_in_some alone None false e none =
    absurd (false≢true (sym (ap (λ o. not (option_eq bytes_eq o None)) (none refl refl)) ∙ e))

pub depending : (likely : LikelySubtags) (l r : List ℕ) → depends_on_region likely (locale_with l None (Some r)) ≡ true
    → (s : List ℕ) × (script_of likely (locale_with l None (Some r)) ≡ Some s) × (option_eq bytes_eq (script_of likely (locale_with l None None)) (Some s) ≡ false)
depending likely l r e = put_in_some (script_of likely (locale_with l None None)) (script_of likely (locale_with l None (Some r))) (bytes_eq l und) e
    (λ known. no_script_alone likely l (Some r) known)

-- ---- by language

-- without a region two are enough
two_without_region : (likely : LikelySubtags) (l : List ℕ) (s : Option (List ℕ))
    → truncated_by_language likely (truncated_by_language likely (locale_with l s None)) ≡ root
two_without_region likely l None = refl
two_without_region likely l (Some s) =
    elim (cond_cases (option_eq bytes_eq (script_of likely (locale_with l None None)) (Some s)) (locale_with l None None) root) [
      | inl (implied, is) ↦ ap (truncated_by_language likely) is
      | inr (other, is) ↦ ap (truncated_by_language likely) is
    ]

-- and one where the script is another than that of the language
one_other : (likely : LikelySubtags) (l s : List ℕ) → option_eq bytes_eq (script_of likely (locale_with l None None)) (Some s) ≡ false
    → truncated_by_language likely (locale_with l (Some s) None) ≡ root
one_other likely l s other = ap (λ b. if b then locale_with l None None else root) other

language_put_in : (likely : LikelySubtags) (l r : List ℕ) (o : Option (List ℕ)) (s : List ℕ) → o ≡ Some s
    → option_eq bytes_eq (script_of likely (locale_with l None None)) (Some s) ≡ false
    → truncated_by_language likely (truncated_by_language likely (locale_with l o (Some r))) ≡ root
language_put_in likely l r o s e other =
    ap (λ p. truncated_by_language likely (truncated_by_language likely (locale_with l p (Some r)))) e ∙ one_other likely l s other

pub three_by_language : (likely : LikelySubtags) (l : List ℕ) (s r : Option (List ℕ))
    → truncated_by_language likely (truncated_by_language likely (truncated_by_language likely (locale_with l s r))) ≡ root
three_by_language likely l s None = ap (truncated_by_language likely) (two_without_region likely l s)
three_by_language likely l (Some s) (Some r) = two_without_region likely l (Some s)
three_by_language likely l None (Some r) =
    let x = locale_with l None (Some r) in
    let twice : DataLocale → DataLocale = λ y. truncated_by_language likely (truncated_by_language likely y) in
    elim (cond_cases (depends_on_region likely x) (locale_with l (script_of likely x) (Some r)) (without_region x)) [
      | inl (depends, is) ↦
          let there = depending likely l r depends in
          ap twice is ∙ language_put_in likely l r (script_of likely x) there.0 there.1 there.2
      | inr (stays, is) ↦ ap twice is
    ]

-- ---- by script

script_und : (likely : LikelySubtags) (s r : Option (List ℕ)) → truncated_by_script likely (truncated_by_script likely (locale_with und s r)) ≡ root
script_und likely s None = refl
script_und likely s (Some r) = refl

-- of a known language the truncation by script goes by the region
pub by_script_known : (likely : LikelySubtags) (x : DataLocale) → bytes_eq x.language und ≡ false
    → truncated_by_script likely x ≡ (if is_some x.region then above_region likely x
    else (if has_likely_script likely x then without_script x else script_alone likely x))
by_script_known likely x known =
    ap (λ b. if b then (if is_some x.region then script_alone likely x else root)
    else (if is_some x.region then above_region likely x
    else (if has_likely_script likely x then without_script x else script_alone likely x))) known

language_alone : (likely : LikelySubtags) (l : List ℕ) → bytes_eq l und ≡ false
    → truncated_by_script likely (truncated_by_script likely (locale_with l None None)) ≡ root
language_alone likely l known = ap (truncated_by_script likely) (by_script_known likely (locale_with l None None) known)

-- without a region three are enough
three_without_region : (likely : LikelySubtags) (l : List ℕ) (s : Option (List ℕ)) → bytes_eq l und ≡ false
    → truncated_by_script likely (truncated_by_script likely (truncated_by_script likely (locale_with l s None))) ≡ root
three_without_region likely l None known = ap (truncated_by_script likely) (language_alone likely l known)
three_without_region likely l (Some s) known =
    let twice : DataLocale → DataLocale = λ y. truncated_by_script likely (truncated_by_script likely y) in
    ap twice (by_script_known likely (locale_with l (Some s) None) known)
    ∙ elim (cond_cases (option_eq bytes_eq (script_of likely (locale_with l None None)) (Some s)) (locale_with l None None) (script_alone likely (locale_with l (Some s) None))) [
      | inl (implied, is) ↦ ap twice is ∙ language_alone likely l known
      | inr (other, is) ↦ ap twice is
    ]

-- and two where the script is another than that of the language
two_other : (likely : LikelySubtags) (l s : List ℕ) → bytes_eq l und ≡ false
    → option_eq bytes_eq (script_of likely (locale_with l None None)) (Some s) ≡ false
    → truncated_by_script likely (truncated_by_script likely (locale_with l (Some s) None)) ≡ root
two_other likely l s known other =
    ap (truncated_by_script likely) (by_script_known likely (locale_with l (Some s) None) known
    ∙ ap (λ b. if b then locale_with l None None else script_alone likely (locale_with l (Some s) None)) other)

script_put_in : (likely : LikelySubtags) (l r : List ℕ) (o : Option (List ℕ)) (s : List ℕ) → bytes_eq l und ≡ false → o ≡ Some s
    → option_eq bytes_eq (script_of likely (locale_with l None None)) (Some s) ≡ false
    → truncated_by_script likely (truncated_by_script likely (truncated_by_script likely (locale_with l o (Some r)))) ≡ root
script_put_in likely l r o s known e other =
    ap (λ p. truncated_by_script likely (truncated_by_script likely (truncated_by_script likely (locale_with l p (Some r))))) e
    ∙ (ap (λ y. truncated_by_script likely (truncated_by_script likely y)) (by_script_known likely (locale_with l (Some s) (Some r)) known)
    ∙ two_other likely l s known other)

four_known : (likely : LikelySubtags) (l : List ℕ) (s r : Option (List ℕ)) → bytes_eq l und ≡ false
    → truncated_by_script likely (truncated_by_script likely (truncated_by_script likely (truncated_by_script likely (locale_with l s r)))) ≡ root
four_known likely l s None known = ap (truncated_by_script likely) (three_without_region likely l s known)
four_known likely l (Some s) (Some r) known =
    ap (λ y. truncated_by_script likely (truncated_by_script likely (truncated_by_script likely y))) (by_script_known likely (locale_with l (Some s) (Some r)) known)
    ∙ three_without_region likely l (Some s) known
four_known likely l None (Some r) known =
    let x = locale_with l None (Some r) in
    let thrice : DataLocale → DataLocale = λ y. truncated_by_script likely (truncated_by_script likely (truncated_by_script likely y)) in
    ap thrice (by_script_known likely x known)
    ∙ elim (cond_cases (depends_on_region likely x) (locale_with l (script_of likely x) (Some r)) (without_region x)) [
      | inl (depends, is) ↦
          let there = depending likely l r depends in
          ap thrice is ∙ script_put_in likely l r (script_of likely x) there.0 known there.1 there.2
      | inr (stays, is) ↦ ap thrice is ∙ three_without_region likely l None known
    ]

pub four_by_script : (likely : LikelySubtags) (l : List ℕ) (s r : Option (List ℕ))
    → truncated_by_script likely (truncated_by_script likely (truncated_by_script likely (truncated_by_script likely (locale_with l s r)))) ≡ root
four_by_script likely l s r =
    elim (cases_Bool (bytes_eq l und)) [
      | inl is ↦
          let same : l ≡ und = (bytes_eq-Decides l und).0 is in
          let twice : DataLocale → DataLocale = λ y. truncated_by_script likely (truncated_by_script likely y) in
          ap (λ m. twice (twice (locale_with m s r))) same ∙ ap twice (script_und likely s r)
      | inr known ↦ four_known likely l s r known
    ]

-- ---- by region

pub two_by_region : (x : DataLocale) → truncated_by_region (truncated_by_region x) ≡ root
two_by_region x =
    elim (cond_cases (bytes_eq x.language und && not (is_some x.script)) root (locale_with und None x.region)) [
      | inl (last, is) ↦ ap truncated_by_region is
      | inr (goes, is) ↦ ap truncated_by_region is
    ]

-- ---- whatever is kept longest

pub all_truncated : (p : LocaleFallbackPriority) (likely : LikelySubtags) (x : DataLocale) → after p likely (most_truncations p) x ≡ root
all_truncated Language likely x = three_by_language likely x.language x.script x.region
all_truncated Script likely x = four_by_script likely x.language x.script x.region
all_truncated Region likely x = two_by_region x
