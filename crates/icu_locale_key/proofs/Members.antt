-- The identifiers of a list of texts: finitely many.
use Rattle.std.proofs.Common.{◌≡◌, ℕ, Bool, true, false, ◌&&◌, List, [], ◌∷◌, ◌++◌, map, Option, Some, None, inl, inr, refl, sym, ◌∙◌, subst, cond}
use Rattle.std.specs.List.{Contains, flat_map, filter}
use Rattle.std.proofs.lemmas.List.Elements.{Contains-append_left, Contains-append_right, Contains-append_cases}
use Rattle.std.proofs.lemmas.Option.{none-some, same_Some}
use Rattle.icu_locale_core.specs.TextSet.{TextSet, contains, from_list, rising}
use Rattle.icu_locale_core.specs.declared.langid.LanguageIdentifier.{LanguageIdentifier}
use Rattle.icu_locale_core.specs.laws.TextSets.{is_among, contains-rising, contains-from_list, Contains-is_among, is_among-Contains, is_among-filter, same_set}
use Rattle.icu_locale_runs.specs.laws.Lists.{Contains-here, Contains-there, Contains-cons_cases, Contains-nil, Contains-map, Contains-from_map, Contains-flat_map}
use Rattle.icu_locale_runs.specs.laws.Lists.{Contains-from_flat_map}
use Rattle.icu_locale_key.specs.inner.Universe.{text_of, texts_of, sublists, options, identifiers_of}

-- a subtag that is there is one of the texts
abbrev pub IsIn : List (List ℕ) → Option (List ℕ) → Type 0
IsIn ts o = (t : List ℕ) → o ≡ Some t → Contains ts t

-- the subtags of an identifier are among the texts
pub record IsOf (ts : List (List ℕ)) (z : LanguageIdentifier) : Type 0 where
  pub language : Contains ts z.language
  pub script : IsIn ts z.script
  pub region : IsIn ts z.region
  pub variants : (q : List ℕ) → contains z.variants q ≡ true → Contains ts q

-- one list has what another has
abbrev pub HasAll : List (List ℕ) → List (List ℕ) → Type 0
HasAll ts us = (t : List ℕ) → Contains us t → Contains ts t

pub IsIn-none : (ts : List (List ℕ)) → IsIn ts None
IsIn-none ts t e = absurd (none-some t e)

pub IsIn-some : (ts : List (List ℕ)) (u : List ℕ) → Contains ts u → IsIn ts (Some u)
IsIn-some ts u here t e = subst (Contains ts) (same_Some u t e) here

-- the texts of an identifier are its subtags
pub IsOf-texts : (ts : List (List ℕ)) (z : LanguageIdentifier) → HasAll ts (texts_of z) → IsOf ts z
IsOf-texts ts z has =
    let rest : (t : List ℕ) → Contains (text_of z.script ++ (text_of z.region ++ rising z.variants)) t → Contains ts t =
    λ t here. has t (Contains-there z.language t _ here) in
    let later : (t : List ℕ) → Contains (text_of z.region ++ rising z.variants) t → Contains ts t =
    λ t here. rest t (Contains-append_right (text_of z.script) _ t here) in
    record {
      language = has z.language (Contains-here z.language _);
      script = λ t e. rest t (Contains-append_left (text_of z.script) _ t (subst (λ o. Contains (text_of o) t) (sym e) (Contains-here t [])));
      region = λ t e. later t (Contains-append_left (text_of z.region) _ t (subst (λ o. Contains (text_of o) t) (sym e) (Contains-here t [])));
      variants = λ q here. later q (Contains-append_right (text_of z.region) _ q (Contains-is_among q (rising z.variants) (sym (contains-rising z.variants q) ∙ here)));
    }

-- ---- sets of texts

kept_among : (p : List ℕ → Bool) (ts : List (List ℕ)) → Contains (sublists ts) (filter p ts)
kept_among p [] = Contains-here [] []
kept_among p (t ∷ ts) = by (p t) (kept_among p ts)
  where
    by : (b : Bool) → Contains (sublists ts) (filter p ts) → Contains (sublists (t ∷ ts)) (cond b (t ∷ filter p ts) (filter p ts))
    by true rest = Contains-append_right (sublists ts) (map (λ us. t ∷ us) (sublists ts)) _ (Contains-map (λ us. t ∷ us) (sublists ts) _ rest)
    by false rest = Contains-append_left (sublists ts) (map (λ us. t ∷ us) (sublists ts)) _ rest

-- a set whose members are among the texts is one of them
set_among : (ts : List (List ℕ)) (s : TextSet) → ((q : List ℕ) → contains s q ≡ true → Contains ts q) → from_list (filter (contains s) ts) ≡ s
set_among ts s inside =
    same_set (from_list (filter (contains s) ts)) s (λ q.
    contains-from_list (filter (contains s) ts) q ∙ is_among-filter (contains s) q ts ∙ both q (contains s q) refl)
  where
    both : (q : List ℕ) (b : Bool) → contains s q ≡ b → (b && is_among q ts) ≡ b
    both q true e = is_among-Contains q ts (inside q e)
    both q false e = refl

in_sublist : (ts us : List (List ℕ)) (q : List ℕ) → Contains (sublists ts) us → Contains us q → Contains ts q
in_sublist [] us q here there =
    elim (Contains-cons_cases [] us [] here) [
      | inl same ↦ absurd (Contains-nil q (subst (λ ws. Contains ws q) (sym same) there))
      | inr later ↦ absurd (Contains-nil us later)
    ]
in_sublist (t ∷ ts) us q here there =
    elim (Contains-append_cases (sublists ts) (map (λ ws. t ∷ ws) (sublists ts)) us here) [
      | inl without ↦ Contains-there t q ts (in_sublist ts us q without there)
      | inr with_t ↦
          let found = Contains-from_map (λ ws. t ∷ ws) (sublists ts) us with_t in
          elim (Contains-cons_cases t q found.0 (subst (λ ws. Contains ws q) (sym found.2) there)) [
            | inl same ↦ subst (Contains (t ∷ ts)) same (Contains-here t ts)
            | inr inside ↦ Contains-there t q ts (in_sublist ts found.0 q found.1 inside)
          ]
    ]

option_among : (ts : List (List ℕ)) (o : Option (List ℕ)) → IsIn ts o → Contains (options ts) o
option_among ts None inside = Contains-here None _
option_among ts (Some t) inside = Contains-there None (Some t) _ (Contains-map (λ u. Some u) ts t (inside t refl))

from_option : (ts : List (List ℕ)) (o : Option (List ℕ)) → Contains (options ts) o → IsIn ts o
from_option ts o here =
    elim (Contains-cons_cases None o (map (λ t. Some t) ts) here) [
      | inl none ↦ subst (IsIn ts) none (IsIn-none ts)
      | inr later ↦
          let found = Contains-from_map (λ t. Some t) ts o later in
          subst (IsIn ts) found.2 (IsIn-some ts found.0 found.1)
    ]

module _ (ts : List (List ℕ)) where
  abbrev with_sets : List ℕ → Option (List ℕ) → Option (List ℕ) → List LanguageIdentifier
  with_sets l s r = map (λ us. record { language = l; script = s; region = r; variants = from_list us }) (sublists ts)

  abbrev with_regions : List ℕ → Option (List ℕ) → List LanguageIdentifier
  with_regions l s = flat_map (with_sets l s) (options ts)

  abbrev with_scripts : List ℕ → List LanguageIdentifier
  with_scripts l = flat_map (with_regions l) (options ts)

  pub has_identifier : (z : LanguageIdentifier) → IsOf ts z → Contains (identifiers_of ts) z
  unfolding identifiers_of
  has_identifier z of =
      let us = filter (contains z.variants) ts in
      let e : from_list us ≡ z.variants = set_among ts z.variants of.variants in
      let made : LanguageIdentifier = record { language = z.language; script = z.script; region = z.region; variants = from_list us } in
      let same : made ≡ z = λ i. record { language = z.language; script = z.script; region = z.region; variants = e i } in
      let whole : Contains (with_sets z.language z.script z.region) made =
      Contains-map (λ ws. record { language = z.language; script = z.script; region = z.region; variants = from_list ws }) (sublists ts) us
      (kept_among (contains z.variants) ts) in
      subst (Contains (flat_map with_scripts ts)) same
      (Contains-flat_map with_scripts ts z.language made of.language
      (Contains-flat_map (with_regions z.language) (options ts) z.script made (option_among ts z.script of.script)
      (Contains-flat_map (with_sets z.language z.script) (options ts) z.region made (option_among ts z.region of.region) whole)))

  pub is_identifier : (z : LanguageIdentifier) → Contains (identifiers_of ts) z → IsOf ts z
  unfolding identifiers_of
  is_identifier z here =
      let l = Contains-from_flat_map with_scripts ts z here in
      let s = Contains-from_flat_map (with_regions l.0) (options ts) z l.2 in
      let r = Contains-from_flat_map (with_sets l.0 s.0) (options ts) z s.2 in
      let us = Contains-from_map (λ ws. record { language = l.0; script = s.0; region = r.0; variants = from_list ws }) (sublists ts) z r.2 in
      subst (IsOf ts) us.2 (record {
        language = l.1;
        script = from_option ts s.0 s.1;
        region = from_option ts r.0 r.1;
        variants = λ q inside. in_sublist ts us.0 q us.1 (Contains-is_among q us.0 (sym (contains-from_list us.0 q) ∙ inside));
      })
