-- What truncation and normal forms keep.
use Rattle.std.proofs.Common.{◌≡◌, ◌≢◌, ℕ, zero, suc, ◌<◌, List, Bool, true, false, not, ◌&&◌, Option, Some, None, is_some, refl, ap, sym, ◌∙◌, subst, ◌⊎◌, inl, inr, if◌then◌else◌, arith}
use Rattle.std.specs.Option.{option_eq}
use Rattle.std.specs.Str.{bytes_eq}
use Rattle.std.proofs.lemmas.Bool.{false≢true, cases_Bool}
use Rattle.std.proofs.lemmas.Option.{none-some, same_Some, option_and_then_some}
use Rattle.std.proofs.lemmas.Slice.Eq.{bytes_eq-Decides}
use Rattle.icu_locale_core.specs.Subtag.{und}
use Rattle.icu_locale_core.specs.laws.Identifiers.{options_tell}
use Rattle.icu_provider.specs.declared.data_locale.DataLocale.{DataLocale}
use Rattle.icu_locale.specs.LikelySubtags.{LikelySubtags, Triple, known_subtag, unknown_script, unknown_region, bare_locale, filled_from, first_found, keys}
use Rattle.icu_locale.specs.Locales.{locale_with}
use Rattle.icu_locale_runs.specs.Run.{at}
use Rattle.icu_locale.specs.laws.Locales.{maximal_locale-bare}
use Rattle.icu_locale_fallback.specs.Fallback.{root, script_of, without_script, without_region, has_implied_script, without_implied, with_region, normal, depends_on_region, above_region, script_alone, has_likely_script, truncated_by_language, truncated_by_script, truncated_by_region, truncated, Inheritance, explicit_parent, next}
use Rattle.icu_locale_fallback.specs.Chains.{IsTruncation}
use Rattle.icu_locale_fallback.specs.declared.fallbacker.LocaleFallbackPriority.{LocaleFallbackPriority}
use Rattle.icu_locale_fallback.specs.declared.fallbacker.LocaleFallbackPriority.TheVariants.{Language, Script, Region}
use Rattle.icu_locale_fallback.proofs.Truncations.{cond_cases}
use Rattle.icu_locale_fallback.proofs.Universes.{parent_or_truncated}

-- what each truncation keeps, or comes to the root, each locale has that truncation comes to
module _ (by : Inheritance) (Q : DataLocale → Type 0) (keeps : (z : DataLocale) → Q z → (truncated by.priority by.likely z ≡ root) ⊎ Q (truncated by.priority by.likely z)) (x : DataLocale) where
  kept_at : (place : ℕ) (y : DataLocale) → at (next by) x place ≡ Some y
      → ((i : ℕ) (z : DataLocale) → i < place → at (next by) x i ≡ Some z → explicit_parent by z ≡ None)
      → Q x → (y ≡ root) ⊎ Q y
  kept_at zero y here none start = inr (subst Q (same_Some x y here) start)
  kept_at (suc place) y here none start =
      option_and_then_some (next by) (at (next by) x place) y here
      (λ z was leads. elim (parent_or_truncated by z y leads) [
        | inl parent ↦ absurd (none-some y (sym (none place z (omega arith) was) ∙ parent))
        | inr is ↦ elim (kept_at place z was (λ i w below stands. none i w (omega (arith, below)) stands) start) [
          | inl last ↦ absurd (none-some y (ap (next by) (sym last) ∙ leads))
          | inr has ↦ elim (keeps z has) [
            | inl ends ↦ inl (sym is ∙ ends)
            | inr on ↦ inr (subst Q is on)
          ]
        ]
      ])

  pub truncation_keeps : (y : DataLocale) → IsTruncation by x y → Q x → (y ≡ root) ⊎ Q y
  truncation_keeps y t start = kept_at t.place y t.here t.none start

-- ---- the language

language_kept : (likely : LikelySubtags) (z : DataLocale) → (truncated_by_language likely z ≡ root) ⊎ ((truncated_by_language likely z).language ≡ z.language)
language_kept likely z = by_parts z.script z.region
  where
    by_parts : (s r : Option (List ℕ)) → (truncated_by_language likely (locale_with z.language s r) ≡ root)
        ⊎ ((truncated_by_language likely (locale_with z.language s r)).language ≡ z.language)
    by_parts None None = inl refl
    by_parts (Some s) None =
        elim (cond_cases (option_eq bytes_eq (script_of likely (locale_with z.language None None)) (Some s)) (locale_with z.language None None) root) [
          | inl (implied, is) ↦ inr (ap (λ y. y.language) is)
          | inr (other, is) ↦ inl is
        ]
    by_parts (Some s) (Some r) = inr refl
    by_parts None (Some r) =
        let x = locale_with z.language None (Some r) in
        elim (cond_cases (depends_on_region likely x) (locale_with z.language (script_of likely x) (Some r)) (without_region x)) [
          | inl (depends, is) ↦ inr (ap (λ y. y.language) is)
          | inr (stays, is) ↦ inr (ap (λ y. y.language) is)
        ]

pub keeps_language : (by : Inheritance) (x y : DataLocale) → by.priority ≡ Language → IsTruncation by x y → (y ≡ root) ⊎ (y.language ≡ x.language)
keeps_language by x y is t = truncation_keeps by (λ z. z.language ≡ x.language)
    (λ z same. subst (λ p. (truncated p by.likely z ≡ root) ⊎ ((truncated p by.likely z).language ≡ x.language)) (sym is)
    (elim (language_kept by.likely z) [ inl last ↦ inl last | inr e ↦ inr (e ∙ same) ])) x y t refl

-- ---- the region

region_kept : (z : DataLocale) → (truncated_by_region z ≡ root) ⊎ ((truncated_by_region z).region ≡ z.region)
region_kept z =
    elim (cond_cases (bytes_eq z.language und && not (is_some z.script)) root (locale_with und None z.region)) [
      | inl (last, is) ↦ inl is
      | inr (goes, is) ↦ inr (ap (λ y. y.region) is)
    ]

pub keeps_region : (by : Inheritance) (x y : DataLocale) → by.priority ≡ Region → IsTruncation by x y → (y ≡ root) ⊎ (y.region ≡ x.region)
keeps_region by x y is t = truncation_keeps by (λ z. z.region ≡ x.region)
    (λ z same. subst (λ p. (truncated p by.likely z ≡ root) ⊎ ((truncated p by.likely z).region ≡ x.region)) (sym is)
    (elim (region_kept z) [ inl last ↦ inl last | inr e ↦ inr (e ∙ same) ])) x y t refl

-- ---- the script

texts_tell : (t u : List ℕ) → (bytes_eq t u ≡ true → t ≡ u) × (t ≡ u → bytes_eq t u ≡ true)
texts_tell t u = bytes_eq-Decides t u

pub same_script : (o p : Option (List ℕ)) → option_eq bytes_eq o p ≡ true → o ≡ p
same_script o p = (options_tell bytes_eq texts_tell o p).0

known_stays : (unknown s : List ℕ) → Some s ≢ Some unknown → known_subtag unknown (Some s) ≡ Some s
known_stays unknown s differs =
    elim (cond_cases (bytes_eq s unknown) None (Some s)) [
      | inl (same, is) ↦ absurd (differs (ap Some ((bytes_eq-Decides s unknown).0 same)))
      | inr (other, is) ↦ is
    ]

filled_script : (l : List ℕ) (o r : Option (List ℕ)) (found : Option Triple) (s : List ℕ) → o ≡ Some s → (filled_from (locale_with l o r) found).script ≡ Some s
filled_script l o r None s e = e
filled_script l None r (Some t) s e = absurd (none-some s e)
filled_script l (Some u) r (Some t) s e = e

-- a script that is there and known is that of the locale
pub own_script : (likely : LikelySubtags) (l s : List ℕ) (r : Option (List ℕ)) → Some s ≢ Some unknown_script → script_of likely (locale_with l (Some s) r) ≡ Some s
own_script likely l s r known =
    filled_script l (known_subtag unknown_script (Some s)) (known_subtag unknown_region r)
    (first_found likely (keys (bare_locale (locale_with l (Some s) r)))) s (known_stays unknown_script s known)

-- the script of a locale is known, and so is one that is there
pub record HasScript (likely : LikelySubtags) (script : Option (List ℕ)) (z : DataLocale) : Type 0 where
  pub known : z.script ≢ Some unknown_script
  pub same : script_of likely z ≡ script

-- a script that is put in
with_own : (likely : LikelySubtags) (l : List ℕ) (o r script : Option (List ℕ)) → script ≢ Some unknown_script → o ≡ script
    → ((o ≡ None → script_of likely (locale_with l o r) ≡ script)) → HasScript likely script (locale_with l o r)
with_own likely l None r script known e bare = record { known = λ is. none-some _ is; same = bare refl }
with_own likely l (Some s) r script known e bare =
    let own : Some s ≢ Some unknown_script = λ is. known (sym e ∙ is) in
    record { known = own; same = own_script likely l s r own ∙ e }

-- a script alone, or the root
alone_or_root : (likely : LikelySubtags) (o script : Option (List ℕ)) → script ≢ Some unknown_script → o ≡ script
    → (locale_with und o None ≡ root) ⊎ HasScript likely script (locale_with und o None)
alone_or_root likely None script known e = inl refl
alone_or_root likely (Some s) script known e = inr (with_own likely und (Some s) None script known e (λ is. absurd (none-some s (sym is))))

module _ (likely : LikelySubtags) (script : Option (List ℕ)) (known : script ≢ Some unknown_script) where
  -- the script away that the language implies
  implied_away : (l s : List ℕ) → HasScript likely script (locale_with l (Some s) None)
      → option_eq bytes_eq (script_of likely (locale_with l None None)) (Some s) ≡ true → HasScript likely script (locale_with l None None)
  implied_away l s has implied = record {
    known = λ is. none-some _ is;
    same = same_script _ _ implied ∙ (sym (own_script likely l s None has.known) ∙ has.same);
  }

  -- the region away, or the script put in
  region_away : (l r : List ℕ) (o : Option (List ℕ)) → HasScript likely script (locale_with l o (Some r))
      → (above_region likely (locale_with l o (Some r)) ≡ root) ⊎ HasScript likely script (above_region likely (locale_with l o (Some r)))
  region_away l r (Some s) has =
      inr (record { known = has.known; same = own_script likely l s None has.known ∙ (sym (own_script likely l s (Some r) has.known) ∙ has.same) })
  region_away l r None has =
      let x = locale_with l None (Some r) in
      elim (cases_Bool (bytes_eq l und)) [
        | inl is_und ↦ inl (ap (λ b. if not b && not (option_eq bytes_eq (script_of likely (without_region x)) (script_of likely x))
            then locale_with l (script_of likely x) (Some r) else without_region x) is_und
            ∙ ap (λ m. locale_with m None None) ((bytes_eq-Decides l und).0 is_und))
        | inr other ↦ elim (cases_Bool (option_eq bytes_eq (script_of likely (without_region x)) (script_of likely x))) [
          | inl same ↦ inr (subst (HasScript likely script)
              (sym (ap (λ b. if not (bytes_eq l und) && not b then locale_with l (script_of likely x) (Some r) else without_region x) same
              ∙ never (bytes_eq l und) (locale_with l (script_of likely x) (Some r)) (without_region x)))
              (record { known = λ is. none-some _ is; same = same_script _ _ same ∙ has.same }))
          | inr differs ↦ inr (subst (HasScript likely script)
              (sym (ap (λ b. if not b && not (option_eq bytes_eq (script_of likely (without_region x)) (script_of likely x))
              then locale_with l (script_of likely x) (Some r) else without_region x) other
              ∙ ap (λ b. if not b then locale_with l (script_of likely x) (Some r) else without_region x) differs))
              (with_own likely l (script_of likely x) (Some r) script known has.same
              (λ none. ap (λ o. script_of likely (locale_with l o (Some r))) none ∙ has.same)))
        ]
      ]
    where
      never : (b : Bool) (y z : DataLocale) → (if not b && not true then y else z) ≡ z
      never true y z = refl
      never false y z = refl

  script_kept_by_language : (l : List ℕ) (o r : Option (List ℕ)) → HasScript likely script (locale_with l o r)
      → (truncated_by_language likely (locale_with l o r) ≡ root) ⊎ HasScript likely script (truncated_by_language likely (locale_with l o r))
  script_kept_by_language l o (Some r) has = region_away l r o has
  script_kept_by_language l None None has = inl refl
  script_kept_by_language l (Some s) None has =
      elim (cond_cases (option_eq bytes_eq (script_of likely (locale_with l None None)) (Some s)) (locale_with l None None) root) [
        | inl (implied, is) ↦ inr (subst (HasScript likely script) (sym is) (implied_away l s has implied))
        | inr (other, is) ↦ inl is
      ]

  -- of a known language
  kept_known : (l : List ℕ) (o r : Option (List ℕ)) → HasScript likely script (locale_with l o r)
      → let y = (if is_some r then above_region likely (locale_with l o r)
      else (if has_likely_script likely (locale_with l o r) then without_script (locale_with l o r) else script_alone likely (locale_with l o r)))
      in (y ≡ root) ⊎ HasScript likely script y
  kept_known l o (Some r) has = region_away l r o has
  kept_known l None None has = alone_or_root likely (script_of likely (locale_with l None None)) script known has.same
  kept_known l (Some s) None has =
      let x = locale_with l (Some s) None in
      elim (cond_cases (option_eq bytes_eq (script_of likely (locale_with l None None)) (Some s)) (locale_with l None None) (script_alone likely x)) [
        | inl (implied, is) ↦ inr (subst (HasScript likely script) (sym is) (implied_away l s has implied))
        | inr (other, is) ↦ subst (λ y. (y ≡ root) ⊎ HasScript likely script y) (sym is) (alone_or_root likely (script_of likely x) script known has.same)
      ]

  kept_und : (x : DataLocale) → HasScript likely script x
      → let y = (if is_some x.region then script_alone likely x else root) in (y ≡ root) ⊎ HasScript likely script y
  kept_und x has =
      elim (cond_cases (is_some x.region) (script_alone likely x) root) [
        | inl (there, is) ↦ subst (λ y. (y ≡ root) ⊎ HasScript likely script y) (sym is) (alone_or_root likely (script_of likely x) script known has.same)
        | inr (none, is) ↦ inl is
      ]

  script_kept_by_script : (x : DataLocale) → HasScript likely script x
      → (truncated_by_script likely x ≡ root) ⊎ HasScript likely script (truncated_by_script likely x)
  script_kept_by_script x has =
      let a = (if is_some x.region then script_alone likely x else root) in
      let b = (if is_some x.region then above_region likely x
      else (if has_likely_script likely x then without_script x else script_alone likely x)) in
      elim (cond_cases (bytes_eq x.language und) a b) [
        | inl (is_und, is) ↦ subst (λ y. (y ≡ root) ⊎ HasScript likely script y) (sym is) (kept_und x has)
        | inr (is_known, is) ↦ subst (λ y. (y ≡ root) ⊎ HasScript likely script y) (sym is) (kept_known x.language x.script x.region has)
      ]

  pub script_kept : (p : LocaleFallbackPriority) → p ≢ Region → (x : DataLocale) → HasScript likely script x
      → (truncated p likely x ≡ root) ⊎ HasScript likely script (truncated p likely x)
  script_kept Language other x has = script_kept_by_language x.language x.script x.region has
  script_kept Script other x has = script_kept_by_script x has
  script_kept Region other x has = absurd (other refl)

-- ---- normal forms

bare_known : (unknown : List ℕ) (o : Option (List ℕ)) → known_subtag unknown o ≢ Some unknown
bare_known unknown None is = none-some unknown is
bare_known unknown (Some s) is =
    elim (cond_cases (bytes_eq s unknown) None (Some s)) [
      | inl (same, e) ↦ none-some unknown (sym e ∙ is)
      | inr (other, e) ↦ false≢true (sym other ∙ (bytes_eq-Decides s unknown).1 (same_Some s unknown (sym e ∙ is)))
    ]

-- a script that is implied may go
implied_kept : (likely : LikelySubtags) (l : List ℕ) (o r : Option (List ℕ)) → o ≢ Some unknown_script
    → script_of likely (without_implied likely (locale_with l o r)) ≡ script_of likely (locale_with l o r)
implied_kept likely l o r known =
    elim (cond_cases (has_implied_script likely (locale_with l o r)) (locale_with l None r) (locale_with l o r)) [
      | inl (implied, is) ↦ ap (script_of likely) is ∙ own o known (same_script _ o implied)
      | inr (other, is) ↦ ap (script_of likely) is
    ]
  where
    own : (p : Option (List ℕ)) → p ≢ Some unknown_script → script_of likely (locale_with l None r) ≡ p → script_of likely (locale_with l None r) ≡ script_of likely (locale_with l p r)
    own None known e = refl
    own (Some s) known e = e ∙ sym (own_script likely l s r known)

pub normal_script : (p : LocaleFallbackPriority) (likely : LikelySubtags) (x : DataLocale) → p ≢ Region → script_of likely (normal p likely x) ≡ script_of likely x
normal_script Region likely x other = absurd (other refl)
normal_script Language likely x other =
    implied_kept likely x.language (known_subtag unknown_script x.script) (known_subtag unknown_region x.region) (bare_known unknown_script x.script)
    ∙ ap (λ y. y.script) (maximal_locale-bare likely x)
normal_script Script likely x other =
    implied_kept likely x.language (known_subtag unknown_script x.script) (known_subtag unknown_region x.region) (bare_known unknown_script x.script)
    ∙ ap (λ y. y.script) (maximal_locale-bare likely x)

implied_unknown : (likely : LikelySubtags) (x : DataLocale) → x.script ≢ Some unknown_script → (without_implied likely x).script ≢ Some unknown_script
implied_unknown likely x known =
    elim (cond_cases (has_implied_script likely x) (without_script x) x) [
      | inl (implied, is) ↦ λ e. none-some _ (sym (ap (λ y. y.script) is) ∙ e)
      | inr (other, is) ↦ λ e. known (sym (ap (λ y. y.script) is) ∙ e)
    ]

pub normal_unknown : (p : LocaleFallbackPriority) (likely : LikelySubtags) (x : DataLocale) → (normal p likely x).script ≢ Some unknown_script
normal_unknown Language likely x = implied_unknown likely (bare_locale x) (bare_known unknown_script x.script)
normal_unknown Script likely x = implied_unknown likely (bare_locale x) (bare_known unknown_script x.script)
normal_unknown Region likely x = implied_unknown likely (bare_locale (with_region likely x)) (bare_known unknown_script x.script)

pub keeps_script : (by : Inheritance) (x y : DataLocale) → by.priority ≢ Region → script_of by.likely x ≢ Some unknown_script
    → IsTruncation by (normal by.priority by.likely x) y → (y ≡ root) ⊎ (script_of by.likely y ≡ script_of by.likely x)
keeps_script by x y other known t =
    elim (truncation_keeps by (HasScript by.likely (script_of by.likely x)) (script_kept by.likely (script_of by.likely x) known by.priority other)
    (normal by.priority by.likely x) y t
    (record { known = normal_unknown by.priority by.likely x; same = normal_script by.priority by.likely x other })) [
      | inl last ↦ inl last
      | inr has ↦ inr has.same
    ]
