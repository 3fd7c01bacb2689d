-- The canonical form of a locale that is valid.
use Rattle.std.proofs.Common.{◌≡◌, ◌⊎◌, inl, inr, ℕ, Bool, true, false, ◌&&◌, ◌||◌, not, if◌then◌else◌, List, [], ◌∷◌, ◌++◌, get_or, map, codes, Option, Some, None, is_some, refl, ap, sym, ◌∙◌}
use Rattle.std.specs.List.{list_all}
use Rattle.std.specs.Option.{IsSome, IfSome, option_and_then, option_map, option_to_list}
use Rattle.std.specs.Str.{bytes_eq}
use Rattle.std.proofs.lemmas.Bool.{and_from, and_parts, false≢true, false_from_ne_true}
use Rattle.std.proofs.lemmas.List.Folds.{list_all-append, list_all-map, list_any_none}
use Rattle.std.proofs.lemmas.List.Sums.{AllPass-from_list_all}
use Rattle.std.proofs.lemmas.Map.Views.{Contains-from_lookup}
use Rattle.std.proofs.lemmas.Option.{none-some}
use Rattle.icu_locale_core.specs.Keywords.{KeywordRows}
use Rattle.icu_locale_core.specs.Maps.{value_at}
use Rattle.icu_locale_core.specs.Subtag.{rg, sd}
use Rattle.icu_locale_core.specs.TextSet.{contains, difference, empty, rising, text_cmp, union, TextSet}
use Rattle.icu_locale_core.specs.declared.langid.LanguageIdentifier.{LanguageIdentifier}
use Rattle.icu_locale_core.specs.declared.locale.Locale.{Locale}
use Rattle.icu_locale_core.specs.laws.TextSets.{contains-empty, contains-replaced, same_from_tied, same_set}
use Rattle.icu_locale_extensions.specs.declared.identifier.LocaleIdentifier.{LocaleIdentifier}
use Rattle.icu_locale.specs.Canonical.{IsCanonical, next_value, subdivision_alias}
use Rattle.icu_locale.specs.Kinds.{by_language_alias, by_sign_region, next, sign_language}
use Rattle.icu_locale.specs.LikelySubtags.{LikelySubtags}
use Rattle.icu_locale.specs.Rules.{of_language, part, replaced}
use Rattle.icu_locale.specs.declared.canonicalizer.rules.Rules.{Rules}
use Rattle.icu_locale_runs.specs.Run.{BecomesEnd, EndsAt}
use Rattle.icu_locale_runs.specs.laws.LaterEnds.{alone, kept, no_later_end}
use Rattle.icu_locale_validity.specs.Parts.{IsValid, Part, code_part, id_parts, is_of_region, is_valid_part, keyword_part, lang_parts, parts_of, row_part}
use Rattle.icu_locale_validity.specs.declared.part.PartKind.{PartKind}
use Rattle.icu_locale_validity.specs.declared.part.PartKind.TheVariants.{Script, Region, Variant, Attribute, Keyword, Field, Extension}
use Rattle.icu_locale_validity.specs.declared.table.Validity.{Validity}
use Rattle.icu_locale_values.specs.Aliases.{Pieces, next_field, next_keyword}
use Rattle.icu_locale_values.specs.Whole.{AreMaps, GoesByLanguages, HasNoAlias, IsWhole, WholeRules, is_any_followed}
use Rattle.uses.specs.Aliased.{AllAreOfInvalid, AreInvalidAt, AreOfInvalid, AreValidSigns, with_identifier, with_transform}
use Rattle.uses.proofs.ValidIds.{IsValidId, id_of, id_parts_pass, no_language, passes_all, passes_at, sign_alone, valid_code}

-- ---- a sign language

-- the region that a sign language stands for
sign_of : (rules : Rules) (b : Bool) (o : Option (List ℕ)) (l : List ℕ) → (if b then option_and_then (value_at text_cmp rules.aliases.sgn_region) o else None) ≡ Some l
    → (r : List ℕ) × (o ≡ Some r) × (value_at text_cmp rules.aliases.sgn_region r ≡ Some l)
sign_of rules false o l is = absurd (none-some l is)
sign_of rules true None l is = absurd (none-some l is)
sign_of rules true (Some r) l is = (r, refl, is)

-- without a region none stands
no_sign : (rules : Rules) (b : Bool) → (if b then option_and_then (value_at text_cmp rules.aliases.sgn_region) None else None) ≡ None
no_sign rules true = refl
no_sign rules false = refl

kept_part : (o : Option (List ℕ)) → part o None None ≡ o
kept_part None = refl
kept_part (Some t) = refl

kept_variants : (s : TextSet) → union (difference s empty) empty ≡ s
kept_variants s = same_set (union (difference s empty) empty) s (λ q. contains-replaced s empty empty q
    ∙ (λ i. (not (contains-empty q i) && contains s q) || contains-empty q i) ∙ plain (contains s q))
  where
    plain : (b : Bool) → (b || false) ≡ b
    plain true = refl
    plain false = refl

-- a region that is the same, or there is none
abbrev pub IsKeptOrNone : (old new : Option (List ℕ)) → Type 0
IsKeptOrNone old new = (new ≡ old) ⊎ (new ≡ None)

-- the end of the run of an identifier, which is valid
pub record HasValidEnd (v : Validity) (likely : LikelySubtags) (rules : Rules) (x : LanguageIdentifier) : Type 0 where
  pub form : LanguageIdentifier
  pub is_end : EndsAt (next likely rules) x form
  pub valid : IsValidId v form
  pub region : IsKeptOrNone x.region form.region

module _ (v : Validity) (likely : LikelySubtags) (rules : Rules) (aliased : AreOfInvalid v rules) where
  pub unmatched_end : (x : LanguageIdentifier) → IsValidId v x → by_sign_region rules x ≡ None → EndsAt (next likely rules) x x
  unmatched_end x valid none = alone (next likely rules) x (sign_alone v likely rules aliased x valid ∙ none)

  module _ (signs : AreValidSigns v rules) (x : LanguageIdentifier) (valid : IsValidId v x) where
    abbrev signed : List ℕ → LanguageIdentifier
    signed l = replaced x (record { language = codes "sgn"; script = None; region = x.region; variants = empty }) (of_language l)

    signed_end : (l : List ℕ) → sign_language rules x ≡ Some l → HasValidEnd v likely rules x
    signed_end l is = record {
      form = signed l;
      is_end = record { stands = (1, sign_alone v likely rules aliased x valid ∙ ap (option_map signed) is); last = (unmatched_end (signed l) there none).last };
      valid = there;
      region = inr region;
    }
      where
        sign : (r : List ℕ) × (x.region ≡ Some r) × (value_at text_cmp rules.aliases.sgn_region r ≡ Some l)
        sign = sign_of rules (bytes_eq x.language (codes "sgn")) x.region l is

        region : (signed l).region ≡ None
        region = ap (λ o. part o o None) sign.1

        there : IsValidId v (signed l)
        there = record {
          language = signs sign.0 l sign.2;
          tail = record {
            script = ap (λ o. list_all (valid_code v Script) (option_to_list o)) (kept_part x.script) ∙ valid.tail.script;
            region = ap (λ o. list_all (valid_code v Region) (option_to_list o)) region;
            variants = ap (λ s. list_all (valid_code v Variant) (rising s)) (kept_variants x.variants) ∙ valid.tail.variants;
          };
        }

        none : by_sign_region rules (signed l) ≡ None
        none = ap (option_map _) (ap (λ o. if bytes_eq l (codes "sgn") then option_and_then (value_at text_cmp rules.aliases.sgn_region) o else None) region
            ∙ no_sign rules (bytes_eq l (codes "sgn")))

    pub valid_end : HasValidEnd v likely rules x
    valid_end = by (sign_language rules x) refl
      where
        by : (o : Option (List ℕ)) → sign_language rules x ≡ o → HasValidEnd v likely rules x
        by None is = record { form = x; is_end = unmatched_end x valid (ap (option_map signed) is); valid = valid; region = inl refl }
        by (Some l) is = signed_end l is

-- ---- a locale

abbrev ending_parts : LocaleIdentifier → List Part
ending_parts x = lang_parts x.locale.extensions.transform.lang ++ (map (row_part Field (codes "t" ∷ [])) x.fields ++ map (row_part Extension []) x.others)

-- the parts behind the identifier, which has a region or none
abbrev tail_parts_of : Option (List ℕ) → LocaleIdentifier → List Part
tail_parts_of region x = map (code_part Attribute (codes "u" ∷ [])) x.attributes
    ++ (map (keyword_part region) x.locale.extensions.unicode.keywords ++ ending_parts x)

-- keywords that are valid in a locale with a region are so without one
without_region : (v : Validity) (region : Option (List ℕ)) (rows : KeywordRows) → list_all (is_valid_part v) (map (keyword_part region) rows) ≡ true
    → list_all (λ row. is_valid_part v (row_part Keyword [] row)) rows ≡ true
without_region v region [] pass = refl
without_region v region (row ∷ rows) pass =
    let parts = and_parts (is_valid_part v (keyword_part region row)) (list_all (is_valid_part v) (map (keyword_part region) rows)) pass in
    let one = is_valid_part v (row_part Keyword [] row) in
    and_from one (list_all (λ r. is_valid_part v (row_part Keyword [] r)) rows) (and_parts (is_of_region region row.0 row.1) one parts.0).1 (without_region v region rows parts.1)

-- what the law of values says of a locale whose values have no alias
abbrev FormsWithoutAliases : WholeRules → Type 0
FormsWithoutAliases by = (old : LocaleIdentifier) (new : Locale) → HasNoAlias by old → GoesByLanguages by old.locale.extensions.transform.lang
    → IsCanonical by.likely by.rules old.locale new → AreMaps (record old { locale = new }) → IsWhole by old (record old { locale = new })

module _ (v : Validity) (x : LocaleIdentifier) (whole : IsValid v x) where
  abbrev test : List Part → Bool
  test = list_all (is_valid_part v)

  abbrev keywords : KeywordRows
  keywords = x.locale.extensions.unicode.keywords

  abbrev region : Option (List ℕ)
  region = x.locale.id.region

  all : (test (id_parts [] x.locale.id) ≡ true) × (test (tail_parts_of region x) ≡ true)
  all = and_parts (test (id_parts [] x.locale.id)) (test (tail_parts_of region x))
      (sym (list_all-append (is_valid_part v) (id_parts [] x.locale.id) (tail_parts_of region x)) ∙ passes_all (is_valid_part v) (parts_of x) whole)

  pub valid_id : IsValidId v x.locale.id
  valid_id = id_of v [] x.locale.id all.0

  behind : (ps qs : List Part) → test (ps ++ qs) ≡ true → (test ps ≡ true) × (test qs ≡ true)
  behind ps qs both = and_parts (test ps) (test qs) (sym (list_all-append (is_valid_part v) ps qs) ∙ both)

  at_attributes : (test (map (code_part Attribute (codes "u" ∷ [])) x.attributes) ≡ true) × (test (map (keyword_part region) keywords ++ ending_parts x) ≡ true)
  at_attributes = behind (map (code_part Attribute (codes "u" ∷ [])) x.attributes) _ all.1

  at_keywords : (test (map (keyword_part region) keywords) ≡ true) × (test (ending_parts x) ≡ true)
  at_keywords = behind (map (keyword_part region) keywords) _ at_attributes.1

  lang_passes : test (lang_parts x.locale.extensions.transform.lang) ≡ true
  lang_passes = (behind (lang_parts x.locale.extensions.transform.lang) _ at_keywords.1).0

  keywords_pass : list_all (λ row. is_valid_part v (row_part Keyword [] row)) keywords ≡ true
  keywords_pass = without_region v region keywords at_keywords.0

  fields_pass : list_all (λ row. is_valid_part v (row_part Field [] row)) x.fields ≡ true
  fields_pass = sym (list_all-map (is_valid_part v) (row_part Field (codes "t" ∷ [])) x.fields)
      ∙ (behind (map (row_part Field (codes "t" ∷ [])) x.fields) _ (behind (lang_parts x.locale.extensions.transform.lang) _ at_keywords.1).1).0

  -- its other parts are valid where the region stays, and where there is none
  tail_passes : (other : Option (List ℕ)) → IsKeptOrNone region other → test (tail_parts_of other x) ≡ true
  tail_passes other (inl same) = ap (λ r. test (tail_parts_of r x)) same ∙ all.1
  tail_passes other (inr none) =
      let a = map (code_part Attribute (codes "u" ∷ [])) x.attributes in
      let k = map (keyword_part None) keywords in
      ap (λ r. test (tail_parts_of r x)) none
      ∙ list_all-append (is_valid_part v) a (k ++ ending_parts x)
      ∙ and_from (test a) (test (k ++ ending_parts x)) at_attributes.0
      (list_all-append (is_valid_part v) k (ending_parts x) ∙ and_from (test k) (test (ending_parts x))
      (list_all-map (is_valid_part v) (keyword_part None) keywords ∙ keywords_pass) at_keywords.1)

  -- with another identifier that is valid, and has its region or none, it is valid too
  pub with_id : (id : LanguageIdentifier) → IsValidId v id → IsKeptOrNone region id.region → IsValid v (with_identifier x id)
  with_id id valid kept part has =
      let ps = tail_parts_of id.region x in
      passes_at (is_valid_part v) (id_parts [] id ++ ps) part
      (list_all-append (is_valid_part v) (id_parts [] id) ps ∙ and_from (test (id_parts [] id)) (test ps) (id_parts_pass v [] id valid) (tail_passes id.region kept)) has

  module _ (likely : LikelySubtags) (rules : Rules) (aliased : AreOfInvalid v rules) where
    no_transform : option_and_then (by_language_alias rules) x.locale.extensions.transform.lang ≡ None
    no_transform = by x.locale.extensions.transform.lang lang_passes
      where
        by : (o : Option LanguageIdentifier) → test (lang_parts o) ≡ true → option_and_then (by_language_alias rules) o ≡ None
        by None pass = refl
        by (Some l) pass = no_language v likely rules aliased l (id_of v (codes "t" ∷ []) l pass)

    no_next : (key : List ℕ) (value : List (List ℕ)) → AreInvalidAt v key rules.subdivision → is_valid_part v (row_part Keyword [] (key, value)) ≡ true → next_value rules value ≡ None
    no_next key [] invalid valid = refl
    no_next key (p ∷ q ∷ ps) invalid valid = refl
    no_next key (p ∷ []) invalid valid = by (value_at text_cmp rules.subdivision p) (invalid p)
      where
        by : (o : Option (List (List ℕ))) → (IsSome o → is_valid_part v (row_part Keyword [] (key, p ∷ [])) ≡ false) → o ≡ None
        by None none = refl
        by (Some value) none = absurd (false≢true (sym (none refl) ∙ valid))

    no_value : (key : List ℕ) → AreInvalidAt v key rules.subdivision → subdivision_alias rules keywords key ≡ None
    no_value key invalid = by (value_at text_cmp keywords key) refl
      where
        by : (o : Option (List (List ℕ))) → value_at text_cmp keywords key ≡ o → option_and_then (next_value rules) o ≡ None
        by None is = refl
        by (Some value) is = no_next key value invalid (passes_at (λ row. is_valid_part v (row_part Keyword [] row)) keywords (key, value) keywords_pass
            (Contains-from_lookup same_from_tied key value keywords is))

    -- its canonical form has the end of the run of its identifier, and all else that it has
    pub form_of : (id : LanguageIdentifier) → EndsAt (next likely rules) x.locale.id id → IsCanonical likely rules x.locale (with_identifier x id).locale
    form_of id ends = record {
      id = ends;
      transform = kept (by_language_alias rules) x.locale.extensions.transform.lang no_transform;
      keywords = record {
        region_override = None;
        subdivision = None;
        region_override_end = no_later_end (next_value rules) (value_at text_cmp keywords rg) (no_value rg aliased.region_override);
        subdivision_end = no_later_end (next_value rules) (value_at text_cmp keywords sd) (no_value sd aliased.subdivision);
        whole = refl;
      };
    }

    pub own_form : by_sign_region rules x.locale.id ≡ None → IsCanonical likely rules x.locale x.locale
    own_form none = form_of x.locale.id (unmatched_end v likely rules aliased x.locale.id valid_id none)

    pub valid_form : AreValidSigns v rules → (id : LanguageIdentifier) × IsCanonical likely rules x.locale (with_identifier x id).locale × IsValid v (with_identifier x id)
    valid_form signs =
        let end = valid_end v likely rules aliased signs x.locale.id valid_id in
        (end.form, form_of end.form end.is_end, with_id end.form end.valid end.region)

  -- no value has an alias
  pub no_aliases : (by : WholeRules) → AllAreOfInvalid v by → HasNoAlias by x
  no_aliases by aliased = record {
    fields = none Field (next_field by.fields) x.fields aliased.fields fields_pass;
    keywords = none Keyword (next_keyword by.keywords) keywords aliased.keywords keywords_pass;
  }
    where
      none : (kind : PartKind) (next_at : List ℕ → Pieces → Option Pieces) (rows : List (List ℕ × Pieces))
          → ((key : List ℕ) (value : Pieces) → IsSome (next_at key value) → is_valid_part v (row_part kind [] (key, value)) ≡ false)
          → list_all (λ row. is_valid_part v (row_part kind [] row)) rows ≡ true → is_any_followed next_at rows ≡ false
      none kind next_at rows invalid pass = list_any_none (λ row. is_some (next_at row.0 row.1)) rows
          (λ k d inside. let row = get_or rows k d in false_from_ne_true (is_some (next_at row.0 row.1))
          (λ some. false≢true (sym (invalid row.0 row.1 some) ∙ AllPass-from_list_all (λ r. is_valid_part v (row_part kind [] r)) rows pass k d inside)))

  -- with another transform language that is valid it is valid too
  with_lang : (lang : Option LanguageIdentifier) → test (lang_parts lang) ≡ true → IsValid v (with_transform x lang)
  with_lang lang pass part has =
      let i = id_parts [] x.locale.id in
      let a = map (code_part Attribute (codes "u" ∷ [])) x.attributes in
      let k = map (keyword_part region) keywords in
      let rest = map (row_part Field (codes "t" ∷ [])) x.fields ++ map (row_part Extension []) x.others in
      let rest_passes = (behind (lang_parts x.locale.extensions.transform.lang) rest at_keywords.1).1 in
      passes_at (is_valid_part v) (i ++ (a ++ (k ++ (lang_parts lang ++ rest)))) part
      (list_all-append (is_valid_part v) i (a ++ (k ++ (lang_parts lang ++ rest)))
      ∙ and_from (test i) (test (a ++ (k ++ (lang_parts lang ++ rest)))) all.0
      (list_all-append (is_valid_part v) a (k ++ (lang_parts lang ++ rest))
      ∙ and_from (test a) (test (k ++ (lang_parts lang ++ rest))) at_attributes.0
      (list_all-append (is_valid_part v) k (lang_parts lang ++ rest)
      ∙ and_from (test k) (test (lang_parts lang ++ rest)) at_keywords.0
      (list_all-append (is_valid_part v) (lang_parts lang) rest ∙ and_from (test (lang_parts lang)) (test rest) pass rest_passes)))) has

  module _ (by : WholeRules) (aliased : AllAreOfInvalid v by) (maps : AreMaps x) (without : FormsWithoutAliases by) where
    -- the whole canonical form, where the runs of both identifiers end
    whole_of : (id : LanguageIdentifier) (lang : Option LanguageIdentifier) → EndsAt (next by.likely by.rules) x.locale.id id
        → BecomesEnd (next by.likely by.rules) x.locale.extensions.transform.lang lang → IsWhole by x (with_identifier (with_transform x lang) id)
    whole_of id lang ends lang_ends =
        let none = no_aliases by aliased in
        let bare = with_transform x None in
        let form = form_of by.likely by.rules aliased.rules id ends in
        let plain = without bare (with_identifier bare id).locale (record { fields = none.fields; keywords = none.keywords }) tt
        (record { id = ends; transform = refl; keywords = form.keywords }) (record { keywords = maps.keywords; fields = maps.fields }) in
        record {
          locale = record { id = ends; transform = lang_ends; keywords = plain.locale.keywords };
          fields = plain.fields;
          attributes = refl;
          others = refl;
          private_use = refl;
          maps = record { keywords = maps.keywords; fields = maps.fields };
        }

    valid_lang : (l : LanguageIdentifier) → test (id_parts (codes "t" ∷ []) l) ≡ true → IsValidId v l
    valid_lang l pass = id_of v (codes "t" ∷ []) l pass

    pub own_whole : by_sign_region by.rules x.locale.id ≡ None → IfSome x.locale.extensions.transform.lang (λ l. by_sign_region by.rules l ≡ None)
        → IsWhole by x x
    own_whole none no_signs = whole_of x.locale.id x.locale.extensions.transform.lang
        (unmatched_end v by.likely by.rules aliased.rules x.locale.id valid_id none)
        (end x.locale.extensions.transform.lang lang_passes no_signs)
      where
        end : (o : Option LanguageIdentifier) → test (lang_parts o) ≡ true → IfSome o (λ l. by_sign_region by.rules l ≡ None)
            → BecomesEnd (next by.likely by.rules) o o
        end None pass no_signs = refl
        end (Some l) pass no_signs = unmatched_end v by.likely by.rules aliased.rules l (valid_lang l pass) no_signs

-- a transform language that is valid becomes one that is
lang_end : (v : Validity) (by : WholeRules) → AllAreOfInvalid v by → AreValidSigns v by.rules → (o : Option LanguageIdentifier)
    → list_all (is_valid_part v) (lang_parts o) ≡ true
    → (lang : Option LanguageIdentifier) × BecomesEnd (next by.likely by.rules) o lang × (list_all (is_valid_part v) (lang_parts lang) ≡ true)
lang_end v by aliased signs None pass = (None, refl, refl)
lang_end v by aliased signs (Some l) pass =
    let there = valid_end v by.likely by.rules aliased.rules signs l (id_of v (codes "t" ∷ []) l pass) in
    (Some there.form, there.is_end, id_parts_pass v (codes "t" ∷ []) there.form there.valid)

pub valid_whole : (v : Validity) (x : LocaleIdentifier) → IsValid v x → (by : WholeRules) → AllAreOfInvalid v by → AreMaps x
    → FormsWithoutAliases by → AreValidSigns v by.rules → (id : LanguageIdentifier) × ((lang : Option LanguageIdentifier)
    × IsWhole by x (with_identifier (with_transform x lang) id) × IsValid v (with_identifier (with_transform x lang) id))
valid_whole v x valid by aliased maps without signs =
    let at_id = valid_end v by.likely by.rules aliased.rules signs x.locale.id (valid_id v x valid) in
    let at_lang = lang_end v by aliased signs x.locale.extensions.transform.lang (lang_passes v x valid) in (
      at_id.form,
      (
        at_lang.0,
        whole_of v x valid by aliased maps without at_id.form at_lang.0 at_id.is_end at_lang.1,
        with_id v (with_transform x at_lang.0) (with_lang v x valid at_lang.0 at_lang.2) at_id.form at_id.valid at_id.region,
      ),
    )
