-- What is written spells the identifier and no other, and without variants has no piece that is one.
use Rattle.std.proofs.Common.{◌≡◌, ℕ, List, ◌++◌, length, ap, sym, ◌∙◌, Ok, true, false, ◌||◌, [], ◌∷◌}
use Rattle.std.proofs.Common.{map, Option, Some, None, IfSome, refl, ◌≤◌, arith, codes, subst, append-nil}
use Rattle.std.specs.Option.{option_to_list}
use Rattle.std.specs.List.{list_any, flat_map, join_by, All, Contains}
use Rattle.std.proofs.lemmas.Bool.{false≢true, false_from_ne_true, and_parts}
use Rattle.std.proofs.lemmas.Bool.Decides.{nat_tests}
use Rattle.std.proofs.lemmas.List.Splits.{slice_split_none, slice_split_at}
use Rattle.std.proofs.lemmas.List.Elements.{All-nil, All-cons, All-head, All-tail, All-append, All-weaker, All-contains_itself}
use Rattle.icu_locale_core.specs.Subtag.{has_length, is_alphabetic, is_language, is_script, is_region, is_variant, lowercase, IsLanguage, IsScript}
use Rattle.icu_locale_core.specs.Subtag.{IsRegion, is_alphanumeric, IsWritten}
use Rattle.icu_locale_core.specs.Identifier.{IsIdentifier, Spells, pieces, subtags, has_variant, is_separator, written}
use Rattle.icu_locale_core.specs.TextSet.{empty, len, rising}
use Rattle.icu_locale_core.specs.declared.classes.Class.TheVariants.{Variant, Language, Script, Region}
use Rattle.icu_locale_core.specs.declared.langid.LanguageIdentifier.{LanguageIdentifier}
use Rattle.icu_locale_core.specs.laws.TextSets.{length-rising_empty, from_list-rising, contains-rising, is_among-Contains}
use Rattle.icu_locale_core.proofs.Cases.{is_member-lowercase, variant_length, variant_no_script, variant_no_region, plain_from_member}
use Rattle.icu_locale_core.specs.inner.Class.{is_member, written_case}
use Rattle.icu_locale_core.specs.declared.classes.Class.{Class}
use Rattle.icu_locale_core.proofs.Readings.{read_pieces-complete}

any_variant-lowercase : (ps : List (List ℕ)) → list_any is_variant (map lowercase ps) ≡ list_any is_variant ps
any_variant-lowercase [] = refl
any_variant-lowercase (p ∷ ps) = λ i. is_member-lowercase Variant p i || any_variant-lowercase ps i

-- no other subtag is a variant
language_no_variant : (t : List ℕ) → is_language t ≡ true → is_variant t ≡ false
language_no_variant t h =
    let short : has_length 2 3 t ≡ true = (and_parts (has_length 2 3 t) (is_alphabetic t) h).0 in
    let most : length t ≤ 3 = grind (arith, nat_tests) in
    false_from_ne_true (is_variant t) (λ v. omega (arith, variant_length t v, most))

script_no_variant : (t : List ℕ) → is_script t ≡ true → is_variant t ≡ false
script_no_variant t h = false_from_ne_true (is_variant t) (λ v. false≢true (sym (variant_no_script t v) ∙ h))

region_no_variant : (t : List ℕ) → is_region t ≡ true → is_variant t ≡ false
region_no_variant t h = false_from_ne_true (is_variant t) (λ v. false≢true (sym (variant_no_region t v) ∙ h))

none_of_three : (language : List ℕ) (script region : Option (List ℕ)) → IsLanguage language → IfSome script IsScript
    → IfSome region IsRegion → list_any is_variant (language ∷ (option_to_list script ++ (option_to_list region ++ []))) ≡ false
none_of_three l None None is s r = λ i. language_no_variant l is.member i || false
none_of_three l (Some s) None is sis r = λ i. language_no_variant l is.member i || (script_no_variant s sis.member i || false)
none_of_three l None (Some r) is s ris = λ i. language_no_variant l is.member i || (region_no_variant r ris.member i || false)
none_of_three l (Some s) (Some r) is sis ris = λ i. language_no_variant l is.member i
    || (script_no_variant s sis.member i || (region_no_variant r ris.member i || false))

none_listed : (order : List (List ℕ)) → length order ≡ 0 → order ≡ []
none_listed [] h = refl
none_listed (t ∷ ts) h = absurd (omega (arith, h))

pub without_variants : (t : List ℕ) (x : LanguageIdentifier) → IsIdentifier x → Spells t x → x.variants ≡ empty → has_variant t ≡ false
without_variants t x is spells none =
    let order = none_listed spells.order (spells.lists.once ∙ ap len none ∙ length-rising_empty) in
    sym (any_variant-lowercase (pieces t)) ∙ ap (list_any is_variant) (spells.same ∙ ap (λ ts. map lowercase (subtags x ts)) order)
    ∙ any_variant-lowercase (subtags x []) ∙ none_of_three x.language x.script x.region is.language is.script is.region

-- a text without separators
abbrev pub Whole : List ℕ → Type 0
Whole t = All (λ c. is_separator c ≡ false) t

whole_plain : (t : List ℕ) → is_alphanumeric t ≡ true → Whole t
whole_plain [] h = All-nil (λ c. is_separator c ≡ false)
whole_plain (c ∷ t) h =
    let here : is_separator c ≡ false = grind (arith, nat_tests) in
    let rest : is_alphanumeric t ≡ true = grind (arith, nat_tests) in
    All-cons (λ c. is_separator c ≡ false) c t here (whole_plain t rest)

pub whole_member : (class : Class) (t : List ℕ) → is_member class t ≡ true → Whole t
whole_member class t h = whole_plain t (plain_from_member class t h)

-- texts without separators, joined and cut again
pub pieces-join : (x : List ℕ) (xs : List (List ℕ)) → All Whole (x ∷ xs) → pieces (join_by (λ t. t) (codes "-") (x ∷ xs)) ≡ x ∷ xs
pieces-join x [] all = ap pieces (append-nil x) ∙ slice_split_none is_separator x (All-head Whole x [] all)
pieces-join x (y ∷ ys) all =
    slice_split_at is_separator x 45 (y ++ flat_map (λ t. codes "-" ++ t) ys) (All-head Whole x (y ∷ ys) all) refl
    ∙ ap (λ ps. x ∷ ps) (pieces-join y ys (All-tail Whole x (y ∷ ys) all))

module _ (x : LanguageIdentifier) (is : IsIdentifier x) where
  whole_option : (class : Class) (o : Option (List ℕ)) → IfSome o (IsWritten (is_member class) (written_case class)) → All Whole (option_to_list o)
  whole_option class None known = All-nil Whole
  whole_option class (Some t) known = All-cons Whole t [] (whole_member class t known.member) (All-nil Whole)

  whole_variants : All Whole (rising x.variants)
  whole_variants = All-weaker (Contains (rising x.variants)) Whole (λ v here. whole_member Variant v
      (is.variants v (contains-rising x.variants v ∙ is_among-Contains v (rising x.variants) here)).member) (rising x.variants)
      (All-contains_itself (rising x.variants))

  whole_subtags : All Whole (subtags x (rising x.variants))
  whole_subtags = All-cons Whole x.language _ (whole_member Language x.language is.language.member)
      (All-append Whole (option_to_list x.script) _ (whole_option Script x.script is.script)
      (All-append Whole (option_to_list x.region) (rising x.variants) (whole_option Region x.region is.region) whole_variants))

  pub spells_written : Spells (written x) x
  spells_written = record {
    order = rising x.variants;
    lists = record { members = from_list-rising x.variants; once = refl };
    same = ap (map _) (pieces-join x.language _ whole_subtags);
  }

pub same_from_spells : (t : List ℕ) (x y : LanguageIdentifier) → IsIdentifier x → IsIdentifier y → Spells t x → Spells t y → x ≡ y
same_from_spells t x y is_x is_y of_x of_y =
    let found : Ok x ≡ Ok y = sym (read_pieces-complete x is_x of_x.order of_x.lists (pieces t) of_x.same)
    ∙ read_pieces-complete y is_y of_y.order of_y.lists (pieces t) of_y.same in
    cc

pub same_from_written : (x y : LanguageIdentifier) → IsIdentifier x → IsIdentifier y → written x ≡ written y → x ≡ y
same_from_written x y is_x is_y e = same_from_spells (written x) x y is_x is_y (spells_written x is_x) (subst (λ t. Spells t y) (sym e) (spells_written y is_y))
