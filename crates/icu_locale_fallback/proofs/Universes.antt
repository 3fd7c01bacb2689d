-- A chain stays among the locales of its universe.
use Rattle.std.proofs.Common.{◌≡◌, ℕ, zero, suc, List, [], ◌∷◌, Bool, map, Option, Some, None, unwrap_or, refl, ap, sym, ◌∙◌, subst, ◌⊎◌, inl, inr, arith}
use Rattle.std.specs.List.{Contains, flat_map}
use Rattle.std.specs.Map.{lookup}
use Rattle.std.specs.BTreeMap.{is_at}
use Rattle.std.proofs.lemmas.Option.{none-some, same_Some}
use Rattle.icu_provider.specs.declared.data_locale.DataLocale.{DataLocale}
use Rattle.icu_locale.specs.LikelySubtags.{LikelySubtags}
use Rattle.icu_locale.specs.Locales.{same_locale}
use Rattle.icu_locale_runs.specs.Run.{EndsAt}
use Rattle.icu_locale_runs.specs.Run.{IsUniverse}
use Rattle.icu_locale.specs.laws.Locales.{same_from_test}
use Rattle.icu_locale_runs.specs.laws.Lists.{Contains-here, Contains-there, Contains-cons_cases, Contains-nil, Contains-flat_map, Contains-from_flat_map}
use Rattle.icu_locale_fallback.specs.Fallback.{root, truncated, Inheritance, counted, explicit_parent, next}
use Rattle.icu_locale_fallback.specs.Chains.{parents_of, most_truncations}
use Rattle.icu_provider.specs.Requests.{locale_cmp}
use Rattle.icu_locale_fallback.specs.inner.Universe.{after, forms, universe}
use Rattle.icu_locale_fallback.specs.declared.fallbacker.LocaleFallbackPriority.{LocaleFallbackPriority}
use Rattle.icu_locale_fallback.specs.declared.fallbacker.LocaleFallbackPriority.TheVariants.{Language, Script, Region}
use Rattle.icu_locale_fallback.proofs.Truncations.{cond_cases, all_truncated}

-- what a look-up finds is the value of some row
found_in_row : {K V : Type 0} (test : K → Bool) (rows : List (K × V)) (v : V) → lookup test rows ≡ Some v → Contains (map (λ row. row.1) rows) v
found_in_row test [] v e = absurd (none-some v e)
found_in_row test (row ∷ rows) v e =
    elim (cond_cases (test row.0) (Some row.1) (lookup test rows)) [
      | inl (passes, is) ↦ subst (λ w. Contains (row.1 ∷ map (λ r. r.1) rows) w) (same_Some row.1 v (sym is ∙ e)) (Contains-here row.1 (map (λ r. r.1) rows))
      | inr (fails, is) ↦ Contains-there row.1 v (map (λ r. r.1) rows) (found_in_row test rows v (sym is ∙ e))
    ]

module _ (p : LocaleFallbackPriority) (likely : LikelySubtags) where
  -- the truncation of a form is a form, or the root
  pub form_or_root : (n : ℕ) (w y : DataLocale) → after p likely n w ≡ root → Contains (forms p likely n w) y
      → Contains (forms p likely n w) (truncated p likely y) ⊎ (truncated p likely y ≡ root)
  form_or_root zero w y ends here = absurd (Contains-nil y here)
  form_or_root (suc zero) w y ends here =
      elim (Contains-cons_cases w y [] here) [
        | inl same ↦ inr (ap (truncated p likely) (sym same) ∙ ends)
        | inr later ↦ absurd (Contains-nil y later)
      ]
  form_or_root (suc (suc n)) w y ends here =
      elim (Contains-cons_cases w y (forms p likely (suc n) (truncated p likely w)) here) [
        | inl same ↦ inl (subst (λ z. Contains (forms p likely (suc (suc n)) w) (truncated p likely z)) same (1, omega arith, refl))
        | inr later ↦ elim (form_or_root (suc n) (truncated p likely w) y ends later) [
          | inl form ↦ inl (Contains-there w (truncated p likely y) (forms p likely (suc n) (truncated p likely w)) form)
          | inr last ↦ inr last
        ]
      ]

form_itself : (p : LocaleFallbackPriority) (likely : LikelySubtags) (x : DataLocale) → Contains (forms p likely (most_truncations p) x) x
form_itself Language likely x = (0, omega arith, refl)
form_itself Script likely x = (0, omega arith, refl)
form_itself Region likely x = (0, omega arith, refl)

-- a parent that counts is one of the table
counted_some : (p : LocaleFallbackPriority) (o : Option DataLocale) (q : DataLocale) → counted p o ≡ Some q → o ≡ Some q
counted_some Language o q e = e
counted_some Script o q e = e
counted_some Region o q e = absurd (none-some q e)

-- what follows a locale is its explicit parent or its truncation
pub parent_or_truncated : (by : Inheritance) (y z : DataLocale) → next by y ≡ Some z
    → (explicit_parent by y ≡ Some z) ⊎ (truncated by.priority by.likely y ≡ z)
parent_or_truncated by y z e =
    elim (cond_cases (same_locale y root) None (Some (unwrap_or (explicit_parent by y) (truncated by.priority by.likely y)))) [
      | inl (last, is) ↦ absurd (none-some z (sym is ∙ e))
      | inr (goes, is) ↦ one_of (explicit_parent by y) (truncated by.priority by.likely y) (same_Some _ z (sym is ∙ e))
    ]
  where
    one_of : (o : Option DataLocale) (t : DataLocale) → unwrap_or o t ≡ z → (o ≡ Some z) ⊎ (t ≡ z)
    one_of None t is = inr is
    one_of (Some q) t is = inl (ap Some is)

-- nothing follows the root alone
pub last_is_root : (by : Inheritance) (y : DataLocale) → next by y ≡ None → y ≡ root
last_is_root by y e =
    elim (cond_cases (same_locale y root) None (Some (unwrap_or (explicit_parent by y) (truncated by.priority by.likely y)))) [
      | inl (last, is) ↦ same_from_test y root last
      | inr (goes, is) ↦ absurd (none-some _ (sym e ∙ is))
    ]

pub IsUniverse-universe : (p : LocaleFallbackPriority) (likely : LikelySubtags) (rows : List (DataLocale × DataLocale)) (x : DataLocale)
    → IsUniverse (next (record { priority = p; likely = likely; parents = parents_of rows })) x (universe p likely rows x)
IsUniverse-universe p likely rows x =
    let by : Inheritance = record { priority = p; likely = likely; parents = parents_of rows } in
    let sources = x ∷ map (λ row. row.1) rows in
    let members = forms p likely (most_truncations p) in
    let from_source : (w y : DataLocale) → Contains sources w → Contains (members w) y → Contains (universe p likely rows x) y =
    λ w y source form. Contains-there root y (flat_map members sources) (Contains-flat_map members sources w y source form) in
    let has_root : Contains (universe p likely rows x) root = Contains-here root (flat_map members sources) in
    record {
      has_start = from_source x x (Contains-here x (map (λ row. row.1) rows)) (form_itself p likely x);
      leads = λ y z here follows. elim (parent_or_truncated by y z follows) [
        | inl parent ↦ from_source z z
            (Contains-there x z (map (λ row. row.1) rows) (found_in_row (is_at (locale_cmp y)) rows z (counted_some p (parents_of rows y) z parent))) (form_itself p likely z)
        | inr truncation ↦ subst (Contains (universe p likely rows x)) truncation (elim (Contains-cons_cases root y (flat_map members sources) here) [
          | inl is_root ↦ absurd (none-some z (ap (next by) is_root ∙ follows))
          | inr later ↦
              let found = Contains-from_flat_map members sources y later in
              elim (form_or_root p likely (most_truncations p) found.0 y (all_truncated p likely found.0) found.2) [
                | inl form ↦ from_source found.0 (truncated p likely y) found.1 form
                | inr last ↦ subst (Contains (universe p likely rows x)) (sym last) has_root
              ]
        ])
      ];
    }

-- what ends ends at the root
pub EndsAt-root : (by : Inheritance) (x y : DataLocale) → EndsAt (next by) x y → EndsAt (next by) x root
EndsAt-root by x y ends = subst (EndsAt (next by) x) (last_is_root by y ends.last) ends

-- and nothing follows a start that is the root
pub EndsAt-start : (by : Inheritance) (x : DataLocale) → next by x ≡ None → EndsAt (next by) x root
EndsAt-start by x e = EndsAt-root by x x (record { stands = (0, refl); last = e })
