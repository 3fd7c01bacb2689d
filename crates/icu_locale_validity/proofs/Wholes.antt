-- A locale is valid where its parts of each kind are.
use Rattle.std.proofs.Common.{◌≡◌, ◌↔◌, ℕ, Bool, true, false, ◌&&◌, List, [], ◌∷◌, ◌++◌, map, codes, Option, Some, None, refl, ap, sym, ◌∙◌}
use Rattle.std.specs.List.{Contains, list_all}
use Rattle.std.specs.Option.{option_to_list}
use Rattle.std.proofs.lemmas.List.Elements.{All-contains, Contains-get_or}
use Rattle.std.proofs.lemmas.List.Folds.{list_all-append}
use Rattle.std.proofs.lemmas.List.Sums.{AllPass-from_list_all, list_all-from_AllPass}
use Rattle.icu_locale_core.specs.TextSet.{rising}
use Rattle.icu_locale_core.specs.declared.langid.LanguageIdentifier.{LanguageIdentifier}
use Rattle.icu_locale_extensions.specs.declared.identifier.LocaleIdentifier.{LocaleIdentifier}
use Rattle.icu_locale_validity.specs.Parts.{Part, code_part, id_parts, is_valid, is_valid_part, keyword_part, lang_parts, row_part, tail_parts}
use Rattle.icu_locale_validity.specs.inner.Wholes.{are_fields, are_keywords, are_variants, is_id, is_id_if_any, is_nothing, is_region_if_any, is_script_if_any, is_unicode, is_whole}
use Rattle.icu_locale_validity.specs.declared.part.PartKind.TheVariants.{Language, Script, Region, Variant, Attribute, Field, Extension}
use Rattle.icu_locale_validity.specs.declared.table.Validity.{Validity}

and_true : (b : Bool) → b ≡ (b && true)
and_true true = refl
and_true false = refl

and_assoc : (a b c : Bool) → ((a && b) && c) ≡ (a && (b && c))
and_assoc true b c = refl
and_assoc false b c = refl

module _ (v : Validity) where
  abbrev each : List Part → Bool
  each = list_all (is_valid_part v)

  script : (behind : List (List ℕ)) (o : Option (List ℕ)) → is_script_if_any v o ≡ each (map (code_part Script behind) (option_to_list o))
  script behind None = refl
  script behind (Some p) = and_true _

  region : (behind : List (List ℕ)) (o : Option (List ℕ)) → is_region_if_any v o ≡ each (map (code_part Region behind) (option_to_list o))
  region behind None = refl
  region behind (Some p) = and_true _

  variants : (behind ps : List (List ℕ)) → are_variants v ps ≡ each (map (code_part Variant behind) ps)
  variants behind [] = refl
  variants behind (p ∷ ps) = ap (λ b. is_valid_part v (code_part Variant behind p) && b) (variants behind ps)

  attributes : (behind ps : List (List ℕ)) → is_nothing ps ≡ each (map (code_part Attribute behind) ps)
  attributes behind [] = refl
  attributes behind (p ∷ ps) = refl

  others : (behind : List (List ℕ)) (rows : List (List ℕ × List (List ℕ))) → is_nothing rows ≡ each (map (row_part Extension behind) rows)
  others behind [] = refl
  others behind (row ∷ rows) = refl

  keywords : (region : Option (List ℕ)) (rows : List (List ℕ × List (List ℕ))) → are_keywords v region rows ≡ each (map (keyword_part region) rows)
  keywords region [] = refl
  keywords region (row ∷ rows) = ap (λ b. is_valid_part v (keyword_part region row) && b) (keywords region rows)

  fields : (behind : List (List ℕ)) (rows : List (List ℕ × List (List ℕ))) → are_fields v rows ≡ each (map (row_part Field behind) rows)
  fields behind [] = refl
  fields behind (row ∷ rows) = ap (λ b. is_valid_part v (row_part Field behind row) && b) (fields behind rows)

  tail : (behind : List (List ℕ)) (x : LanguageIdentifier) → (is_script_if_any v x.script && (is_region_if_any v x.region && are_variants v (rising x.variants))) ≡ each (tail_parts behind x)
  tail behind x =
      (λ i. script behind x.script i && (region behind x.region i && variants behind (rising x.variants) i))
      ∙ ap (λ b. each (map (code_part Script behind) (option_to_list x.script)) && b)
      (sym (list_all-append (is_valid_part v) (map (code_part Region behind) (option_to_list x.region)) _))
      ∙ sym (list_all-append (is_valid_part v) (map (code_part Script behind) (option_to_list x.script)) _)

  id : (behind : List (List ℕ)) (x : LanguageIdentifier) → is_id v x ≡ each (id_parts behind x)
  id behind x = ap (λ b. is_valid_part v (code_part Language behind x.language) && b) (tail (behind ++ x.language ∷ []) x)

  lang : (o : Option LanguageIdentifier) → is_id_if_any v o ≡ each (lang_parts o)
  lang None = refl
  lang (Some x) = id (codes "t" ∷ []) x

  joined : (xs ys : List Part) (a b : Bool) → a ≡ each xs → b ≡ each ys → (a && b) ≡ each (xs ++ ys)
  joined xs ys a b one other = (λ i. one i && other i) ∙ sym (list_all-append (is_valid_part v) xs ys)

  pub whole : (x : LocaleIdentifier) → is_whole v x ≡ is_valid v x
  whole x =
      let u = codes "u" ∷ [] in
      let t = codes "t" ∷ [] in
      let ks = x.locale.extensions.unicode.keywords in
      let region = x.locale.id.region in
      let l = x.locale.extensions.transform.lang in
      let end = joined (map (row_part Field t) x.fields) (map (row_part Extension []) x.others) _ _ (fields t x.fields) (others [] x.others) in
      let behind = joined (lang_parts l) _ _ _ (lang l) end in
      let keys = joined (map (keyword_part region) ks) _ _ _ (keywords region ks) behind in
      let all = joined (map (code_part Attribute u) x.attributes) _ _ _ (attributes u x.attributes) keys in
      ap (λ b. is_id v x.locale.id && (is_unicode v x && b)) (and_assoc (is_id_if_any v l) (are_fields v x.fields) (is_nothing x.others))
      ∙ ap (λ b. is_id v x.locale.id && b) (and_assoc (is_nothing x.attributes) (are_keywords v region ks) _)
      ∙ joined (id_parts [] x.locale.id) _ _ _ (id [] x.locale.id) all

-- the test of each part is that each is valid
pub each_is_told : {X : Type 0} (test : X → Bool) (xs : List X) → (list_all test xs ≡ true) ↔ ((x : X) → Contains xs x → test x ≡ true)
each_is_told test xs = (
  λ e x among. All-contains (λ y. test y ≡ true) xs x (AllPass-from_list_all test xs e) among,
  λ each. list_all-from_AllPass test xs (λ k d inside. each _ (Contains-get_or xs k d inside)),
)
