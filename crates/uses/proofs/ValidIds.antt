-- An identifier that is valid matches no alias of what is not.
use Rattle.std.proofs.Common.{◌≡◌, ◌==◌, ℕ, suc, Bool, true, false, not, ◌&&◌, ◌||◌, cond, if◌then◌else◌, List, [], ◌∷◌, ◌++◌, length, get_or, map, Option, Some, None, is_some, refl, ap, sym, ◌∙◌, arith}
use Rattle.std.specs.List.{All, Contains, find, list_all}
use Rattle.std.specs.Option.{IsSome, option_and_then, option_map, option_or, option_to_list, unwrap_or}
use Rattle.std.specs.Str.{bytes_eq}
use Rattle.std.proofs.lemmas.Bool.{and_from, and_parts, false≢true, false_from_ne_true}
use Rattle.std.proofs.lemmas.List.Elements.{All-contains, Contains-get_or}
use Rattle.std.proofs.lemmas.List.Folds.{list_all-append, list_all-map, list_any_none}
use Rattle.std.proofs.lemmas.List.Sums.{AllPass-from_list_all, list_all-from_AllPass}
use Rattle.std.proofs.lemmas.Slice.Eq.{bytes_eq-Decides}
use Rattle.icu_locale_core.specs.Maps.{value_at}
use Rattle.icu_locale_core.specs.Subtag.{is_alphabetic}
use Rattle.icu_locale_core.specs.TextSet.{contains, image, len, rising, text_cmp}
use Rattle.icu_locale_core.specs.declared.langid.LanguageIdentifier.{LanguageIdentifier}
use Rattle.icu_locale_core.specs.laws.TextSets.{Contains-is_among, contains-rising}
use Rattle.icu_locale.specs.Kinds.{by_complex_region, by_language_alias, by_region, by_rule, by_script, by_sign_region, by_variant, chosen, likely_region, next, region_alias, rules_for, variant_alias}
use Rattle.icu_locale.specs.LikelySubtags.{LikelySubtags}
use Rattle.icu_locale.specs.Rules.{fits, is_known, matches}
use Rattle.icu_locale.specs.declared.canonicalizer.rules.Rule.{Rule}
use Rattle.icu_locale.specs.declared.canonicalizer.rules.Rules.{Rules}
use Rattle.icu_locale_validity.specs.Parts.{Part, code_part, id_parts, is_valid_part, tail_parts}
use Rattle.icu_locale_validity.specs.declared.part.PartKind.{PartKind}
use Rattle.icu_locale_validity.specs.declared.part.PartKind.TheVariants.{Language, Script, Region, Variant}
use Rattle.icu_locale_validity.specs.declared.table.Validity.{Validity}
use Rattle.uses.specs.Aliased.{AreInvalid, AreOfInvalid, IsOfInvalid, named_parts}

-- ---- lists

module _ {X : Type 0} (p : X → Bool) where
  none_found : (xs : List X) → All (λ x. p x ≡ false) xs → find p xs ≡ None
  none_found [] none = refl
  none_found (x ∷ xs) none = (λ i. cond (none 0 x (omega arith) i) (Some x) (find p xs)) ∙ none_found xs (λ k d inside. none (suc k) d (omega arith))

  pub passes_at : (xs : List X) (x : X) → list_all p xs ≡ true → Contains xs x → p x ≡ true
  passes_at xs x all has = All-contains (λ y. p y ≡ true) xs x (AllPass-from_list_all p xs all) has

  pub passes_all : (xs : List X) → ((x : X) → Contains xs x → p x ≡ true) → list_all p xs ≡ true
  passes_all xs each = list_all-from_AllPass p xs (λ k d inside. each (get_or xs k d) (Contains-get_or xs k d inside))

-- ---- the parts of an identifier

abbrev pub valid_code : Validity → PartKind → List ℕ → Bool
valid_code v kind code = is_valid_part v (code_part kind [] code)

pub record IsValidTail (v : Validity) (x : LanguageIdentifier) : Type 0 where
  pub script : list_all (valid_code v Script) (option_to_list x.script) ≡ true
  pub region : list_all (valid_code v Region) (option_to_list x.region) ≡ true
  pub variants : list_all (valid_code v Variant) (rising x.variants) ≡ true

pub record IsValidId (v : Validity) (x : LanguageIdentifier) : Type 0 where
  pub language : valid_code v Language x.language ≡ true
  pub tail : IsValidTail v x

module _ (v : Validity) (behind : List (List ℕ)) (x : LanguageIdentifier) where
  abbrev scripts : List Part
  scripts = map (code_part Script behind) (option_to_list x.script)

  abbrev regions : List Part
  regions = map (code_part Region behind) (option_to_list x.region)

  abbrev variants : List Part
  variants = map (code_part Variant behind) (rising x.variants)

  tail_test : list_all (is_valid_part v) (tail_parts behind x) ≡ (list_all (is_valid_part v) scripts && (list_all (is_valid_part v) regions && list_all (is_valid_part v) variants))
  tail_test = list_all-append (is_valid_part v) scripts (regions ++ variants)
      ∙ ap (λ b. list_all (is_valid_part v) scripts && b) (list_all-append (is_valid_part v) regions variants)

  script_test : list_all (is_valid_part v) scripts ≡ list_all (valid_code v Script) (option_to_list x.script)
  script_test = list_all-map (is_valid_part v) (code_part Script behind) (option_to_list x.script)

  region_test : list_all (is_valid_part v) regions ≡ list_all (valid_code v Region) (option_to_list x.region)
  region_test = list_all-map (is_valid_part v) (code_part Region behind) (option_to_list x.region)

  variant_test : list_all (is_valid_part v) variants ≡ list_all (valid_code v Variant) (rising x.variants)
  variant_test = list_all-map (is_valid_part v) (code_part Variant behind) (rising x.variants)

  pub tail_of : list_all (is_valid_part v) (tail_parts behind x) ≡ true → IsValidTail v x
  tail_of all =
      let first = and_parts (list_all (is_valid_part v) scripts) (list_all (is_valid_part v) regions && list_all (is_valid_part v) variants) (sym tail_test ∙ all) in
      let rest = and_parts (list_all (is_valid_part v) regions) (list_all (is_valid_part v) variants) first.1 in
      record { script = sym script_test ∙ first.0; region = sym region_test ∙ rest.0; variants = sym variant_test ∙ rest.1 }

  pub tail_parts_pass : IsValidTail v x → list_all (is_valid_part v) (tail_parts behind x) ≡ true
  tail_parts_pass valid =
      tail_test ∙ and_from (list_all (is_valid_part v) scripts) (list_all (is_valid_part v) regions && list_all (is_valid_part v) variants) (script_test ∙ valid.script)
      (and_from (list_all (is_valid_part v) regions) (list_all (is_valid_part v) variants) (region_test ∙ valid.region) (variant_test ∙ valid.variants))

pub id_of : (v : Validity) (behind : List (List ℕ)) (x : LanguageIdentifier) → list_all (is_valid_part v) (id_parts behind x) ≡ true → IsValidId v x
id_of v behind x all =
    let parts = and_parts (valid_code v Language x.language) (list_all (is_valid_part v) (tail_parts (behind ++ x.language ∷ []) x)) all in
    record { language = parts.0; tail = tail_of v (behind ++ x.language ∷ []) x parts.1 }

pub id_parts_pass : (v : Validity) (behind : List (List ℕ)) (x : LanguageIdentifier) → IsValidId v x → list_all (is_valid_part v) (id_parts behind x) ≡ true
id_parts_pass v behind x valid =
    and_from (valid_code v Language x.language) (list_all (is_valid_part v) (tail_parts (behind ++ x.language ∷ []) x)) valid.language
    (tail_parts_pass v (behind ++ x.language ∷ []) x valid.tail)

-- ---- one alias

-- a code that is valid has none
pub no_alias : {A : Type 0} (v : Validity) (kind : PartKind) (aliases : List (List ℕ × A)) (code : List ℕ) → AreInvalid v kind aliases → valid_code v kind code ≡ true
    → value_at text_cmp aliases code ≡ None
no_alias {A} v kind aliases code invalid valid = by (value_at text_cmp aliases code) (invalid code)
  where
    by : (o : Option A) → (IsSome o → valid_code v kind code ≡ false) → o ≡ None
    by None none = refl
    by (Some a) none = absurd (false≢true (sym (none refl) ∙ valid))

-- nor has one that there may be
if_any : {A : Type 0} (v : Validity) (kind : PartKind) (alias : List ℕ → Option A) (o : Option (List ℕ)) → ((code : List ℕ) → valid_code v kind code ≡ true → alias code ≡ None)
    → list_all (valid_code v kind) (option_to_list o) ≡ true → option_and_then alias o ≡ None
if_any v kind alias None none all = refl
if_any v kind alias (Some code) none all = none code (and_parts (valid_code v kind code) true all).0

-- the source of a rule that matches has valid parts alone
module _ (v : Validity) (x source : LanguageIdentifier) (valid : IsValidId v x) where
  fitted : (kind : PartKind) (t u : Option (List ℕ)) → fits bytes_eq t u ≡ true → list_all (valid_code v kind) (option_to_list u) ≡ true
      → list_all (valid_code v kind) (option_to_list t) ≡ true
  fitted kind None u fit all = refl
  fitted kind (Some t) None fit all = absurd (false≢true fit)
  fitted kind (Some t) (Some u) fit all = ap (λ s. valid_code v kind s && true) ((bytes_eq-Decides t u).0 fit) ∙ all

  among : list_all (contains x.variants) (rising source.variants) ≡ true → list_all (valid_code v Variant) (rising source.variants) ≡ true
  among subset = passes_all (valid_code v Variant) (rising source.variants) (λ w has.
      passes_at (valid_code v Variant) (rising x.variants) w valid.tail.variants
      (Contains-is_among w (rising x.variants) (sym (contains-rising x.variants w) ∙ passes_at (contains x.variants) (rising source.variants) w subset has)))

  pub source_passes : matches x source ≡ true → list_all (is_valid_part v) (named_parts source) ≡ true
  source_passes match = by (is_known source.language) third.0
    where
      language : Bool
      language = not (is_known source.language) || bytes_eq source.language x.language

      first : ((language && fits bytes_eq source.script x.script && fits bytes_eq source.region x.region) ≡ true)
          × (list_all (contains x.variants) (rising source.variants) ≡ true)
      first = and_parts (language && fits bytes_eq source.script x.script && fits bytes_eq source.region x.region)
          (list_all (contains x.variants) (rising source.variants)) match

      second : ((language && fits bytes_eq source.script x.script) ≡ true) × (fits bytes_eq source.region x.region ≡ true)
      second = and_parts (language && fits bytes_eq source.script x.script) (fits bytes_eq source.region x.region) first.0

      third : (language ≡ true) × (fits bytes_eq source.script x.script ≡ true)
      third = and_parts language (fits bytes_eq source.script x.script) second.0

      tail : IsValidTail v source
      tail = record {
        script = fitted Script source.script x.script third.1 valid.tail.script;
        region = fitted Region source.region x.region second.1 valid.tail.region;
        variants = among first.1;
      }

      by : (b : Bool) → (not b || bytes_eq source.language x.language) ≡ true
          → list_all (is_valid_part v) (if b then id_parts [] source else tail_parts [] source) ≡ true
      by true same = id_parts_pass v [] source (record { language = ap (valid_code v Language) ((bytes_eq-Decides source.language x.language).0 same) ∙ valid.language; tail = tail })
      by false same = tail_parts_pass v [] source tail

-- ---- the kinds of rules

or_none : {A : Type 0} (o : Option A) → option_or o None ≡ o
or_none None = refl
or_none (Some a) = refl

module _ (v : Validity) (likely : LikelySubtags) (rules : Rules) (aliased : AreOfInvalid v rules) (x : LanguageIdentifier) (valid : IsValidId v x) where
  unmatched : (rs : List Rule) → All (IsOfInvalid v) rs → All (λ r. matches x r.source ≡ false) rs
  unmatched rs invalid k d inside = false_from_ne_true (matches x (get_or rs k d).source)
      (λ match. false≢true (sym (invalid k d inside) ∙ source_passes v x (get_or rs k d).source valid match))

  no_rule : by_rule rules x ≡ None
  no_rule = ap (option_map _) (none_found (λ r. matches x r.source) (rules_for rules x) (by (len x.variants == 0)))
    where
      by : (b : Bool) → All (λ r. matches x r.source ≡ false) (if b then rules.language else rules.language_variants)
      by true = unmatched rules.language aliased.language
      by false = unmatched rules.language_variants aliased.language_variants

  pub no_language : by_language_alias rules x ≡ None
  no_language = ap (option_map _) (by (is_known x.language) (length x.language == 2))
    where
      by : (b c : Bool) → (if b then value_at text_cmp (if c then rules.language_len2 else rules.language_len3) x.language else None) ≡ None
      by false c = refl
      by true true = no_alias v Language rules.language_len2 x.language aliased.language_len2 valid.language
      by true false = no_alias v Language rules.language_len3 x.language aliased.language_len3 valid.language

  no_script : by_script rules x ≡ None
  no_script = ap (option_map _) (if_any v Script (value_at text_cmp rules.aliases.script) x.script
      (λ s. no_alias v Script rules.aliases.script s aliased.script) valid.tail.script)

  no_region : by_region rules x ≡ None
  no_region = ap (option_map _) (if_any v Region (region_alias rules) x.region (λ r. by r (is_alphabetic r)) valid.tail.region)
    where
      by : (r : List ℕ) (b : Bool) → valid_code v Region r ≡ true → value_at text_cmp (if b then rules.aliases.region_alpha else rules.aliases.region_num) r ≡ None
      by r true = no_alias v Region rules.aliases.region_alpha r aliased.region_alpha
      by r false = no_alias v Region rules.aliases.region_num r aliased.region_num

  no_complex_region : by_complex_region likely rules x ≡ None
  no_complex_region = ap (λ o. option_map (λ r. record x { region = Some r }) (option_and_then (λ rs. chosen (likely_region likely x) rs.items) o))
      (if_any v Region (value_at text_cmp rules.aliases.complex_region) x.region
      (λ r. no_alias v Region rules.aliases.complex_region r aliased.complex_region) valid.tail.region)

  no_variant : by_variant rules x ≡ None
  no_variant = ap (λ b. if b then Some (record x { variants = image (λ w. unwrap_or (variant_alias rules w) w) x.variants }) else None) (list_any_none (λ w. is_some (variant_alias rules w)) (rising x.variants)
      (λ k d inside. ap is_some (no_alias v Variant rules.aliases.variant (get_or (rising x.variants) k d) aliased.variant
      (AllPass-from_list_all (valid_code v Variant) (rising x.variants) valid.tail.variants k d inside))))

  pub sign_alone : next likely rules x ≡ by_sign_region rules x
  sign_alone = (λ i. option_or (no_rule i) (option_or (by_sign_region rules x) (option_or (no_language i) (option_or (no_script i)
      (option_or (no_region i) (option_or (no_complex_region i) (no_variant i)))))))
      ∙ or_none (by_sign_region rules x)
