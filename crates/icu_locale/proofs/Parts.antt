-- Identifiers made of the parts of others: finitely many, and what a rule makes of one is one again.
use Rattle.std.proofs.Common.{◌≡◌, ℕ, Bool, true, false, not, ◌&&◌, ◌||◌, cond, List, [], ◌∷◌, map, Option, Some, None, ◌⊎◌, inl, inr, unwrap_or}
use Rattle.std.proofs.Common.{refl, ap, sym, ◌∙◌, subst}
use Rattle.std.specs.List.{Contains, flat_map}
use Rattle.std.specs.Ordering.{is_eq}
use Rattle.std.proofs.lemmas.Bool.{false≢true, or_cases, and_parts}
use Rattle.std.proofs.lemmas.Cmp.{tied_itself}
use Rattle.icu_locale_core.specs.TextSet.{TextSet, empty, contains, from_list, rising, image}
use Rattle.icu_locale_core.specs.declared.langid.LanguageIdentifier.{LanguageIdentifier}
use Rattle.icu_locale_core.specs.laws.TextSets.{text_total, contains-rising, contains-from_list, contains-replaced, contains-empty, Contains-is_among}
use Rattle.icu_locale_core.specs.laws.TextSets.{is_among-Contains}
use Rattle.icu_locale.specs.Rules.{is_known, part, replaced}
use Rattle.icu_locale.specs.inner.Universe.{subsets, mixtures_of, of_script, of_region, of_variant}
use Rattle.icu_locale_runs.specs.laws.Lists.{Contains-here, Contains-there, Contains-cons_cases, Contains-map, Contains-from_map, Contains-flat_map}
use Rattle.icu_locale_runs.specs.laws.Lists.{Contains-from_flat_map}
use Rattle.icu_locale.proofs.Subsets.{subset_among, among_subset, contains-one}

-- the language, script and region of z, and each of its variants, are those of some of ps
pub record IsMadeOf (ps : List LanguageIdentifier) (z : LanguageIdentifier) : Type 0 where
  pub language : (p : LanguageIdentifier) × Contains ps p × (p.language ≡ z.language)
  pub script : (None ≡ z.script) ⊎ ((p : LanguageIdentifier) × Contains ps p × (p.script ≡ z.script))
  pub region : (None ≡ z.region) ⊎ ((p : LanguageIdentifier) × Contains ps p × (p.region ≡ z.region))
  pub variants : (q : List ℕ) → contains z.variants q ≡ true → (p : LanguageIdentifier) × Contains ps p × (contains p.variants q ≡ true)

pub IsMadeOf-itself : (ps : List LanguageIdentifier) (p : LanguageIdentifier) → Contains ps p → IsMadeOf ps p
IsMadeOf-itself ps p here = record {
  language = (p, here, refl);
  script = inr (p, here, refl);
  region = inr (p, here, refl);
  variants = λ q there. (p, here, there);
}

-- ---- as a list

among_rising : (s : TextSet) (q : List ℕ) → contains s q ≡ true → Contains (rising s) q
among_rising s q here = Contains-is_among q (rising s) (sym (contains-rising s q) ∙ here)

in_rising : (s : TextSet) (q : List ℕ) → Contains (rising s) q → contains s q ≡ true
in_rising s q here = contains-rising s q ∙ is_among-Contains q (rising s) here

optional_part : (f : LanguageIdentifier → Option (List ℕ)) (ps : List LanguageIdentifier) (o : Option (List ℕ)) → (None ≡ o)
    ⊎ ((p : LanguageIdentifier) × Contains ps p × (f p ≡ o)) → Contains (None ∷ map f ps) o
optional_part f ps o (inl none) = subst (Contains (None ∷ map f ps)) none (Contains-here None (map f ps))
optional_part f ps o (inr (p, here, is)) =
    subst (Contains (None ∷ map f ps)) is (Contains-there None (f p) (map f ps) (Contains-map f ps p here))

from_optional_part : (f : LanguageIdentifier → Option (List ℕ)) (ps : List LanguageIdentifier) (o : Option (List ℕ))
    → Contains (None ∷ map f ps) o → (None ≡ o) ⊎ ((p : LanguageIdentifier) × Contains ps p × (f p ≡ o))
from_optional_part f ps o here =
    elim (Contains-cons_cases None o (map f ps) here) [
      | inl none ↦ inl none
      | inr later ↦ inr (Contains-from_map f ps o later)
    ]

module _ (ps : List LanguageIdentifier) where
  abbrev all_variants : List (List ℕ)
  all_variants = flat_map (λ p. rising p.variants) ps

  abbrev with_sets : List ℕ → Option (List ℕ) → Option (List ℕ) → List LanguageIdentifier
  with_sets l s r = map (λ vs. record { language = l; script = s; region = r; variants = vs }) (subsets all_variants)

  abbrev with_regions : List ℕ → Option (List ℕ) → List LanguageIdentifier
  with_regions l s = flat_map (with_sets l s) (None ∷ map (λ p. p.region) ps)

  abbrev with_scripts : List ℕ → List LanguageIdentifier
  with_scripts l = flat_map (with_regions l) (None ∷ map (λ p. p.script) ps)

  pub made_of-has : (z : LanguageIdentifier) → IsMadeOf ps z → Contains (mixtures_of ps) z
  unfolding mixtures_of
  made_of-has z made =
      let language : Contains (map (λ p. p.language) ps) z.language = subst (Contains (map (λ p. p.language) ps)) made.language.2
      (Contains-map (λ p. p.language) ps made.language.0 made.language.1) in
      let sets : Contains (subsets all_variants) z.variants = subset_among all_variants z.variants (λ q here.
      let from = made.variants q here in
      Contains-flat_map (λ p. rising p.variants) ps from.0 q from.1 (among_rising from.0.variants q from.2)) in
      let whole : Contains (with_sets z.language z.script z.region) z = Contains-map
      (λ vs. record { language = z.language; script = z.script; region = z.region; variants = vs }) (subsets all_variants) z.variants sets in
      Contains-flat_map with_scripts (map (λ p. p.language) ps) z.language z language
      (Contains-flat_map (with_regions z.language) (None ∷ map (λ p. p.script) ps) z.script z (optional_part (λ p. p.script) ps z.script made.script)
      (Contains-flat_map (with_sets z.language z.script) (None ∷ map (λ p. p.region) ps) z.region z
      (optional_part (λ p. p.region) ps z.region made.region) whole))

  pub IsMadeOf-from : (z : LanguageIdentifier) → Contains (mixtures_of ps) z → IsMadeOf ps z
  unfolding mixtures_of
  IsMadeOf-from z here =
      let l = Contains-from_flat_map with_scripts (map (λ p. p.language) ps) z here in
      let s = Contains-from_flat_map (with_regions l.0) (None ∷ map (λ p. p.script) ps) z l.2 in
      let r = Contains-from_flat_map (with_sets l.0 s.0) (None ∷ map (λ p. p.region) ps) z s.2 in
      let vs = Contains-from_map (λ vs. record { language = l.0; script = s.0; region = r.0; variants = vs }) (subsets all_variants) z r.2 in
      let language = Contains-from_map (λ p. p.language) ps l.0 l.1 in
      subst (IsMadeOf ps) vs.2 (record {
        language = language;
        script = from_optional_part (λ p. p.script) ps s.0 s.1;
        region = from_optional_part (λ p. p.region) ps r.0 r.1;
        variants = λ q inside.
            let among : Contains all_variants q = among_subset all_variants vs.0 q vs.1 inside in
            let from = Contains-from_flat_map (λ p. rising p.variants) ps q among in
            (from.0, from.1, in_rising from.0.variants q from.2);
      })

  -- ---- what rules make

  made_language : (test : Bool) (s b z : LanguageIdentifier) → IsMadeOf ps s → IsMadeOf ps b → z.language ≡ cond test b.language s.language
      → (p : LanguageIdentifier) × Contains ps p × (p.language ≡ z.language)
  made_language true s b z of_s of_b is = (of_b.language.0, of_b.language.1, of_b.language.2 ∙ sym is)
  made_language false s b z of_s of_b is = (of_s.language.0, of_s.language.1, of_s.language.2 ∙ sym is)

  made_part : (f : LanguageIdentifier → Option (List ℕ)) (s a b : Option (List ℕ)) → (None ≡ s)
      ⊎ ((p : LanguageIdentifier) × Contains ps p × (f p ≡ s)) → (None ≡ b) ⊎ ((p : LanguageIdentifier) × Contains ps p × (f p ≡ b))
      → (None ≡ part s a b) ⊎ ((p : LanguageIdentifier) × Contains ps p × (f p ≡ part s a b))
  made_part f s (Some t) b of_s of_b = of_b
  made_part f (Some u) None b of_s of_b = of_s
  made_part f None None b of_s of_b = of_b

  pub IsMadeOf-replaced : (s a b : LanguageIdentifier) → IsMadeOf ps s → IsMadeOf ps b → IsMadeOf ps (replaced s a b)
  IsMadeOf-replaced s a b of_s of_b = record {
    language = made_language (is_known a.language || (not (is_known s.language) && is_known b.language)) s b (replaced s a b) of_s of_b refl;
    script = made_part (λ p. p.script) s.script a.script b.script of_s.script of_b.script;
    region = made_part (λ p. p.region) s.region a.region b.region of_s.region of_b.region;
    variants = λ q here.
        elim (or_cases (not (contains a.variants q) && contains s.variants q) (contains b.variants q)
        (sym (contains-replaced s.variants a.variants b.variants q) ∙ here)) [
          | inl old ↦ of_s.variants q (and_parts (not (contains a.variants q)) (contains s.variants q) old).1
          | inr added ↦ of_b.variants q added
        ];
  }

  pub IsMadeOf-bare : (b : LanguageIdentifier) → IsMadeOf ps b → IsMadeOf ps (record b { variants = empty })
  IsMadeOf-bare b of_b = record {
    language = of_b.language;
    script = of_b.script;
    region = of_b.region;
    variants = λ q here. absurd (false≢true (sym (contains-empty q) ∙ here));
  }

  pub IsMadeOf-script : (y : LanguageIdentifier) (s : List ℕ) → IsMadeOf ps y → Contains ps (of_script s) → IsMadeOf ps (record y { script = Some s })
  IsMadeOf-script y s of_y here = record {
    language = of_y.language;
    script = inr (of_script s, here, refl);
    region = of_y.region;
    variants = of_y.variants;
  }

  pub IsMadeOf-region : (y : LanguageIdentifier) (r : List ℕ) → IsMadeOf ps y → Contains ps (of_region r) → IsMadeOf ps (record y { region = Some r })
  IsMadeOf-region y r of_y here = record {
    language = of_y.language;
    script = of_y.script;
    region = inr (of_region r, here, refl);
    variants = of_y.variants;
  }

  abbrev alias_or : (List ℕ → Option (List ℕ)) → List ℕ → List ℕ
  alias_or alias v = unwrap_or (alias v) v

  made_variant : (alias : List ℕ → Option (List ℕ)) (y : LanguageIdentifier) (v q : List ℕ) (o : Option (List ℕ)) → IsMadeOf ps y
      → ((w : List ℕ) → alias v ≡ Some w → Contains ps (of_variant w)) → contains y.variants v ≡ true → alias v ≡ o → unwrap_or o v ≡ q
      → (p : LanguageIdentifier) × Contains ps p × (contains p.variants q ≡ true)
  made_variant alias y v q (Some w) of_y aliases here is same =
      (of_variant w, aliases w is, subst (λ t. contains (from_list (w ∷ [])) t ≡ true) same (contains-one w w ∙ ap is_eq (tied_itself text_total w)))
  made_variant alias y v q None of_y aliases here is same = of_y.variants q (ap (contains y.variants) (sym same) ∙ here)

  pub IsMadeOf-image : (alias : List ℕ → Option (List ℕ)) (y : LanguageIdentifier) → IsMadeOf ps y
      → ((v w : List ℕ) → alias v ≡ Some w → Contains ps (of_variant w)) → IsMadeOf ps (record y { variants = image (λ v. unwrap_or (alias v) v) y.variants })
  IsMadeOf-image alias y of_y aliases = record {
    language = of_y.language;
    script = of_y.script;
    region = of_y.region;
    variants = λ q here.
        let among = Contains-is_among q (map (alias_or alias) (rising y.variants))
        (sym (contains-from_list (map (alias_or alias) (rising y.variants)) q) ∙ here) in
        let from = Contains-from_map (alias_or alias) (rising y.variants) q among in
        made_variant alias y from.0 q (alias from.0) of_y (aliases from.0) (in_rising y.variants from.0 from.1) refl from.2;
  }
