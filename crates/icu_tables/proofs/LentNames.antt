-- Names in the flat form: written forms are read back, and a look-up by them finds what the rows have.
use Rattle.std.proofs.Common.{◌≡◌, ◌≢◌, ◌<◌, ◌+◌, ℕ, suc, zero, Bool, true, false, not, ◌&&◌, ◌==◌, cond, length, take, drop, map, nat_lt, List, [], ◌∷◌, ◌++◌, Option, Some, None, option_map, option_and_then, refl, sym, ap, ◌∙◌, subst, arith, is_eq, filter_map, get_or, slice_get}
use Rattle.std.specs.Prelude.{if◌then◌else◌, IfSome}
use Rattle.std.specs.BTreeMap.{is_at}
use Rattle.std.specs.Char.{is_ascii_alphabetic, is_ascii_digit}
use Rattle.std.specs.List.{AllByRecursion, cons_option, list_all, position_or_len, before_first, after_first}
use Rattle.std.specs.List.Sorted.{IsStrictlySortedBy}
use Rattle.std.specs.Map.{keys_of}
use Rattle.std.specs.Option.{option_or}
use Rattle.std.specs.declared.cmp.Ordering.TheVariants.{Less, Equal}
use Rattle.std.proofs.lemmas.Bool.{and_parts, false≢true}
use Rattle.std.proofs.lemmas.Bool.Decides.{nat_tests}
use Rattle.std.proofs.lemmas.Cmp.{tied_itself}
use Rattle.std.proofs.lemmas.List.{append-nil, length-append}
use Rattle.std.proofs.lemmas.List.Sums.{split_at_first, passes_at_first}
use Rattle.std.proofs.lemmas.Map.Made.{lookup-map_values}
use Rattle.std.proofs.lemmas.Option.{none-some, same_Some}
use Rattle.std.proofs.lemmas.Slice.Eq.{bytes_eq-Decides}
use Rattle.icu_locale_core.specs.Maps.{IsSortedMap, value_at}
use Rattle.icu_locale_core.specs.Subtag.{IsLanguage, IsRegion, IsScript, IsWritten, is_alphabetic, is_language, is_numeric, is_region, is_script, is_variant, lowercase, titlecase, uppercase}
use Rattle.icu_locale_core.specs.TextSet.{text_cmp}
use Rattle.icu_locale_core.specs.laws.TextSets.{same_from_tied, text_same, text_total}
use Rattle.icu_provider.specs.Requests.{name_cmp}
use Rattle.icu_provider.specs.SortedMaps.{TiesEqualAlone}
use Rattle.icu_provider.specs.declared.data_locale.DataLocale.{DataLocale}
use Rattle.icu_provider.specs.declared.names.NameKey.{NameKey}
use Rattle.icu_provider.specs.declared.names.NameKey.TheVariants.{Language, Script, Region, Variant}
use Rattle.icu_provider.specs.declared.names.NameMarker.{NameMarker}
use Rattle.icu_provider.specs.declared.names.NameMarker.TheVariants as names
use Rattle.icu_provider.specs.laws.SortedMaps.{not_tied}
use Rattle.icu_tables_flat.specs.Flat.{FlatRows, listed, run_at}
use Rattle.icu_tables.specs.Groups.{NameGroup, flat_names, group_cmp, key_cmp, request_of}
use Rattle.icu_tables.specs.LentNames.{behind_dash, group_key, group_text, is_slash, key_text, keyed, keyed_group, locale_text, marker_text}
use Rattle.icu_tables.specs.Names.{cut_locale, locale_key, locale_of, name_key, name_markers, named_in, script_and_region}
use Rattle.icu_tables.specs.Shape.{both}
use Rattle.icu_tables.specs.Subtags.{cut_at_dash, if_written, in_class, is_dash, key_of, key_pair, region_key, script_key, variant_key}
use Rattle.icu_tables.specs.Tables.{is_of_kind, names_languages, names_regions, names_scripts, names_variants}
use Rattle.icu_tables.specs.inner.KeyLaws.{both_there}
use Rattle.icu_tables.specs.inner.Lent.{IsKey, IsLocale, IsRunOf, items_there, key_in_row}
use Rattle.icu_tables.proofs.Groups.{looked_up, or_none, passed}
use Rattle.icu_tables.proofs.KeyNames.{key_written, locale_written, names_marker}
use Rattle.icu_tables.proofs.Lookups.{map_of_some}
use Rattle.icu_tables.proofs.NameGroups.{group_total, same_group}
use Rattle.icu_tables.proofs.NamedKeys.{exact, tests_agree}

-- ---- one separator

module _ (p : ℕ → Bool) where
  -- no character of a text is one
  abbrev pub has_none : List ℕ → Bool
  has_none t = list_all (λ x. not (p x)) t

  none_first : (a : List ℕ) → has_none a ≡ true → position_or_len p a ≡ length a
  none_first [] all = refl
  none_first (x ∷ a) all =
      let parts = and_parts (not (p x)) (has_none a) all in
      let rest = none_first a parts.1 in
      rw parts.0 (omega (arith, rest))

  pub none_there : (a : List ℕ) → has_none a ≡ true → nat_lt (position_or_len p a) (length a) ≡ false
  none_there a all = let at = none_first a all in grind (arith, nat_tests, at)

  module _ (c : ℕ) (is : p c ≡ true) where
    first_at : (a b : List ℕ) → has_none a ≡ true → position_or_len p (a ++ c ∷ b) ≡ length a
    first_at [] b all = ap (λ b'. cond (not b') (1 + position_or_len p b) 0) is
    first_at (x ∷ a) b all =
        let parts = and_parts (not (p x)) (has_none a) all in
        let rest = first_at a b parts.1 in
        rw parts.0 (omega (arith, rest))

    taken : (a b : List ℕ) → take (length a) (a ++ c ∷ b) ≡ a
    taken [] b = refl
    taken (x ∷ a) b = ap (λ l. x ∷ l) (taken a b)

    dropped : (a b : List ℕ) → drop (length a + 1) (a ++ c ∷ b) ≡ b
    dropped [] b = refl
    dropped (x ∷ a) b =
        let more : length (x ∷ a) + 1 ≡ suc (length a + 1) = omega arith in
        ap (λ n. drop n (x ∷ (a ++ c ∷ b))) more ∙ dropped a b

    pub before_it : (a b : List ℕ) → has_none a ≡ true → before_first p (a ++ c ∷ b) ≡ a
    before_it a b all = ap (λ n. take n (a ++ c ∷ b)) (first_at a b all) ∙ taken a b

    pub after_it : (a b : List ℕ) → has_none a ≡ true → after_first p (a ++ c ∷ b) ≡ b
    after_it a b all = ap (λ n. drop (n + 1) (a ++ c ∷ b)) (first_at a b all) ∙ dropped a b

    pub is_there : (a b : List ℕ) → has_none a ≡ true → nat_lt (position_or_len p (a ++ c ∷ b)) (length (a ++ c ∷ b)) ≡ true
    is_there a b all =
        let at = first_at a b all in
        let long = length-append a (c ∷ b) in
        grind (arith, nat_tests, at, long)

all_kept : (p q : ℕ → Bool) → ((c : ℕ) → p c ≡ true → q c ≡ true) → (t : List ℕ) → list_all p t ≡ true → list_all q t ≡ true
all_kept p q kept [] all = refl
all_kept p q kept (c ∷ cs) all =
    let parts = and_parts (p c) (list_all p cs) all in
    ap (λ b. b && list_all q cs) (kept c parts.0) ∙ all_kept p q kept cs parts.1

all_append : (p : ℕ → Bool) (a b : List ℕ) → list_all p a ≡ true → list_all p b ≡ true → list_all p (a ++ b) ≡ true
all_append p [] b all later = later
all_append p (c ∷ a) b all later =
    let parts = and_parts (p c) (list_all p a) all in
    ap (λ t. t && list_all p (a ++ b)) parts.0 ∙ all_append p a b parts.1 later

-- ---- subtags have no separator, and are read from their own text

abbrev is_plain : ℕ → Bool
is_plain c = not (c == 45) && not (c == 47)

alphabetic : (t : List ℕ) → is_alphabetic t ≡ true → list_all is_plain t ≡ true
alphabetic t all = all_kept is_ascii_alphabetic is_plain (λ c h. grind (arith, nat_tests)) t all

numeric : (t : List ℕ) → is_numeric t ≡ true → list_all is_plain t ≡ true
numeric t all = all_kept is_ascii_digit is_plain (λ c h. grind (arith, nat_tests)) t all

plain_language : (t : List ℕ) → IsLanguage t → list_all is_plain t ≡ true
plain_language t is = grind (arith, nat_tests, is.member, alphabetic t)

plain_script : (t : List ℕ) → IsScript t → list_all is_plain t ≡ true
plain_script t is = grind (arith, nat_tests, is.member, alphabetic t)

plain_region : (t : List ℕ) → IsRegion t → list_all is_plain t ≡ true
plain_region t is = grind (arith, nat_tests, is.member, alphabetic t, numeric t)

no_dash : (t : List ℕ) → list_all is_plain t ≡ true → has_none is_dash t ≡ true
no_dash t all = all_kept is_plain (λ c. not (is_dash c)) (λ c h. grind (arith, nat_tests)) t all

no_slash : (t : List ℕ) → list_all is_plain t ≡ true → has_none is_slash t ≡ true
no_slash t all = all_kept is_plain (λ c. not (is_slash c)) (λ c h. grind (arith, nat_tests)) t all

reads_itself : (class : List ℕ → Bool) (written : List ℕ → List ℕ) (t : List ℕ) → IsWritten class written t
    → key_of (λ x. x) (in_class class written) t ≡ Some t
reads_itself class written t is =
    ap (λ b. option_and_then (if_written (λ x. x) t) (if b then Some (written t) else None)) is.member
    ∙ ap (if_written (λ x. x) t) is.written
    ∙ ap (λ b. if b then Some t else None) ((bytes_eq-Decides t t).1 refl)

none_of_class : (class : List ℕ → Bool) (written : List ℕ → List ℕ) (t : List ℕ) → class t ≡ false
    → key_of (λ x. x) (in_class class written) t ≡ None
none_of_class class written t is = ap (λ b. option_and_then (if_written (λ x. x) t) (if b then Some (written t) else None)) is

-- ---- a locale is read from its written form

cut_between : (a b : List ℕ) → list_all is_plain a ≡ true → cut_at_dash (a ++ 45 ∷ b) ≡ Some (a, b)
cut_between a b plain =
    let none = no_dash a plain in
    ap (λ t. if t then Some (before_first is_dash (a ++ 45 ∷ b), after_first is_dash (a ++ 45 ∷ b)) else None) (is_there is_dash 45 refl a b none)
    ∙ (λ i. Some (before_it is_dash 45 refl a b none i, after_it is_dash 45 refl a b none i))

uncut : (a : List ℕ) → list_all is_plain a ≡ true → cut_at_dash a ≡ None
uncut a plain = ap (λ t. if t then Some (before_first is_dash a, after_first is_dash a) else None) (none_there is_dash a (no_dash a plain))

reads_alone : (t : List ℕ) → IsLanguage t → locale_key t ≡ Some (locale_of (t, (None, None)))
reads_alone t is =
    ap (cut_locale t) (uncut t (plain_language t is))
    ∙ ap (option_map (λ language. locale_of (language, (None, None)))) (reads_itself is_language lowercase t is)

reads_more : (t rest : List ℕ) (parts : Option (List ℕ) × Option (List ℕ)) → IsLanguage t → script_and_region rest ≡ Some parts
    → locale_key (t ++ 45 ∷ rest) ≡ Some (locale_of (t, parts))
reads_more t rest parts is more =
    ap (cut_locale (t ++ 45 ∷ rest)) (cut_between t rest (plain_language t is))
    ∙ (λ i. option_map locale_of (both (reads_itself is_language lowercase t is i) (more i)))

-- what follows a language, by what it is read as
abbrev parts_by : Option (List ℕ) → Option (List ℕ) → Option (List ℕ × List ℕ) → Option (Option (List ℕ) × Option (List ℕ))
parts_by script region pair =
    option_or (option_map (λ script. (Some script, None)) script)
    (option_or (option_map (λ region. (None, Some region)) region)
    (option_map (λ pair. (Some pair.0, Some pair.1)) pair))

reads_script : (s : List ℕ) → IsScript s → script_and_region s ≡ Some (Some s, None)
reads_script s is = λ i. parts_by (reads_itself is_script titlecase s is i) (region_key s) (key_pair script_key region_key s)

reads_region : (r : List ℕ) → IsRegion r → script_and_region r ≡ Some (None, Some r)
reads_region r is =
    let no_script : is_script r ≡ false = grind (arith, nat_tests, is.member) in
    λ i. parts_by (none_of_class is_script titlecase r no_script i) (reads_itself is_region uppercase r is i) (key_pair script_key region_key r)

reads_both : (s r : List ℕ) → IsScript s → IsRegion r → script_and_region (s ++ 45 ∷ r) ≡ Some (Some s, Some r)
reads_both s r is_s is_r =
    let t = s ++ 45 ∷ r in
    let long = length-append s (45 ∷ r) in
    let no_script : is_script t ≡ false = grind (arith, nat_tests, is_s.member, long) in
    let no_region : is_region t ≡ false = grind (arith, nat_tests, is_s.member, long) in
    let pair : key_pair script_key region_key t ≡ Some (s, r) =
    ap (option_and_then (λ cut. both (script_key cut.0) (region_key cut.1))) (cut_between s r (plain_script s is_s))
    ∙ (λ i. both (reads_itself is_script titlecase s is_s i) (reads_itself is_region uppercase r is_r i)) in
    λ i. parts_by (none_of_class is_script titlecase t no_script i) (none_of_class is_region uppercase t no_region i) (pair i)

pub locale_reads : (l : DataLocale) → IsLocale l → locale_key (locale_text l) ≡ Some l
locale_reads l is = by l.script l.region is.script is.region
  where
    by : (script region : Option (List ℕ)) → IfSome script IsScript → IfSome region IsRegion
        → locale_key (l.language ++ (behind_dash script ++ behind_dash region)) ≡ Some (locale_of (l.language, (script, region)))
    by None None is_s is_r = ap locale_key (append-nil l.language) ∙ reads_alone l.language is.language
    by (Some s) None is_s is_r =
        ap (λ t. locale_key (l.language ++ 45 ∷ t)) (append-nil s) ∙ reads_more l.language s (Some s, None) is.language (reads_script s is_s)
    by None (Some r) is_s is_r = reads_more l.language r (None, Some r) is.language (reads_region r is_r)
    by (Some s) (Some r) is_s is_r = reads_more l.language (s ++ 45 ∷ r) (Some s, Some r) is.language (reads_both s r is_s is_r)

-- ---- a key is read from its written form

-- one of four passes
abbrev is_one : Bool → Bool → Bool → Bool → Bool
is_one true false false false = true
is_one false true false false = true
is_one false false true false = true
is_one false false false true = true
is_one _ _ _ _ = false

-- a marker is of one kind, and is read from its name
marker_is : (m : NameMarker) → (is_one (names_languages m) (names_scripts m) (names_regions m) (names_variants m) ≡ true)
    × (named_in name_markers (marker_text m) ≡ Some m)
marker_is names.RegionMediumTiny = (refl, refl)
marker_is names.RegionMediumLight = (refl, refl)
marker_is names.RegionShortTiny = (refl, refl)
marker_is names.RegionShortLight = (refl, refl)
marker_is names.LanguageMediumTiny = (refl, refl)
marker_is names.LanguageMediumLight = (refl, refl)
marker_is names.LanguageMediumHeavy = (refl, refl)
marker_is names.LanguageShortLight = (refl, refl)
marker_is names.LanguageShortHeavy = (refl, refl)
marker_is names.LanguageLongLight = (refl, refl)
marker_is names.LanguageLongHeavy = (refl, refl)
marker_is names.ScriptMediumTiny = (refl, refl)
marker_is names.ScriptMediumLight = (refl, refl)
marker_is names.ScriptMediumHeavy = (refl, refl)
marker_is names.ScriptShortHeavy = (refl, refl)
marker_is names.VariantMediumHeavy = (refl, refl)

module _ (m : NameMarker) where
  -- what a text is read as below a marker that is of some kinds
  abbrev read_by : Bool → Bool → Bool → List ℕ → Option NameKey
  read_by languages scripts regions t =
      if languages then option_map (λ locale. Language locale.language locale.script locale.region) (locale_key t)
      else if scripts then option_map (λ script. Script script) (script_key t)
      else if regions then option_map (λ region. Region region) (region_key t)
      else option_map (λ variant. Variant variant) (variant_key t)

  abbrev kind_by : Bool → Bool → Bool → Bool → NameKey → Bool
  kind_by languages scripts regions variants (Language l s r) = languages
  kind_by languages scripts regions variants (Script s) = scripts
  kind_by languages scripts regions variants (Region r) = regions
  kind_by languages scripts regions variants (Variant v) = variants

  reads_by : (languages scripts regions variants : Bool) → is_one languages scripts regions variants ≡ true
      → (k : NameKey) → IsKey k → kind_by languages scripts regions variants k ≡ true → read_by languages scripts regions (key_text k) ≡ Some k
  reads_by true false false false one (Language l s r) is of =
      ap (option_map (λ locale. Language locale.language locale.script locale.region)) (locale_reads (record { language = l; script = s; region = r }) is)
  reads_by false true false false one (Script s) is of = ap (option_map (λ script. Script script)) (reads_itself is_script titlecase s is)
  reads_by false false true false one (Region r) is of = ap (option_map (λ region. Region region)) (reads_itself is_region uppercase r is)
  reads_by false false false true one (Variant v) is of = ap (option_map (λ variant. Variant variant)) (reads_itself is_variant lowercase v is)
  reads_by languages scripts regions variants one k is of = grind (arith, one, of)

  pub key_reads : (k : NameKey) → IsKey k → is_of_kind m k ≡ true → name_key m (key_text k) ≡ Some k
  key_reads k is of = reads_by (names_languages m) (names_scripts m) (names_regions m) (names_variants m) (marker_is m).0 k is (kind k of)
    where
      kind : (k : NameKey) → is_of_kind m k ≡ true → kind_by (names_languages m) (names_scripts m) (names_regions m) (names_variants m) k ≡ true
      kind (Language l s r) of = of
      kind (Script s) of = of
      kind (Region r) of = of
      kind (Variant v) of = of

  kind_of_read : (languages scripts regions variants : Bool) → is_one languages scripts regions variants ≡ true
      → (t : List ℕ) (k : NameKey) → read_by languages scripts regions t ≡ Some k → kind_by languages scripts regions variants k ≡ true
  kind_of_read true false false false one t k is =
      let held = map_of_some (λ locale. Language locale.language locale.script locale.region) (locale_key t) k is in
      ap (kind_by true false false false) held.2
  kind_of_read false true false false one t k is =
      let held = map_of_some (λ script. Script script) (script_key t) k is in
      ap (kind_by false true false false) held.2
  kind_of_read false false true false one t k is =
      let held = map_of_some (λ region. Region region) (region_key t) k is in
      ap (kind_by false false true false) held.2
  kind_of_read false false false true one t k is =
      let held = map_of_some (λ variant. Variant variant) (variant_key t) k is in
      ap (kind_by false false false true) held.2
  kind_of_read languages scripts regions variants one t k is = grind (arith, one)

  -- what is read as a key of a marker is of its kind
  pub read_is_of_kind : (t : List ℕ) (k : NameKey) → name_key m t ≡ Some k → is_of_kind m k ≡ true
  read_is_of_kind t k is = kind k (kind_of_read (names_languages m) (names_scripts m) (names_regions m) (names_variants m) (marker_is m).0 t k is)
    where
      kind : (k : NameKey) → kind_by (names_languages m) (names_scripts m) (names_regions m) (names_variants m) k ≡ true → is_of_kind m k ≡ true
      kind (Language l s r) of = of
      kind (Script s) of = of
      kind (Region r) of = of
      kind (Variant v) of = of

-- ---- a group is read from what it is called

plain_locale : (l : DataLocale) → IsLocale l → has_none is_slash (locale_text l) ≡ true
plain_locale l is =
    all_append _ l.language _ (no_slash l.language (plain_language l.language is.language))
    (all_append _ (behind_dash l.script) _ (script l.script is.script) (region l.region is.region))
  where
    script : (s : Option (List ℕ)) → IfSome s IsScript → has_none is_slash (behind_dash s) ≡ true
    script None is = refl
    script (Some s) is = no_slash s (plain_script s is)

    region : (r : Option (List ℕ)) → IfSome r IsRegion → has_none is_slash (behind_dash r) ≡ true
    region None is = refl
    region (Some r) is = no_slash r (plain_region r is)

pub group_reads : (m : NameMarker) (l : DataLocale) → IsLocale l → group_key (group_text (m, l)) ≡ Some (m, l)
group_reads m l is =
    let front = locale_text l in
    let back = marker_text m in
    let none = plain_locale l is in
    let t = front ++ 47 ∷ back in
    ap (λ there. if there then both (named_in name_markers (after_first is_slash t)) (locale_key (before_first is_slash t)) else None)
    (is_there is_slash 47 refl front back none)
    ∙ (λ i. both (named_in name_markers (after_it is_slash 47 refl front back none i)) (locale_key (before_it is_slash 47 refl front back none i)))
    ∙ (λ i. both ((marker_is m).1 i) (locale_reads l is i))

there_some : {A : Type 0} (there : Bool) (o : Option A) (x : A) → (if there then o else None) ≡ Some x → (there ≡ true) × (o ≡ Some x)
there_some true o x is = (refl, is)
there_some false o x is = absurd (none-some x is)

pub group_written : (t : List ℕ) (g : NameGroup) → group_key t ≡ Some g → t ≡ group_text g
group_written t g is =
    let front = before_first is_slash t in
    let back = after_first is_slash t in
    let parts = there_some (nat_lt (position_or_len is_slash t) (length t)) (both (named_in name_markers back) (locale_key front)) g is in
    let within : position_or_len is_slash t < length t = grind (arith, nat_tests) in
    let passes = passes_at_first is_slash t 0 within in
    let slash : get_or t (position_or_len is_slash t) 0 ≡ 47 = grind (arith, nat_tests, passes) in
    let each = both_there (named_in name_markers back) (locale_key front) g parts.1 in
    split_at_first is_slash t 0 within
    ∙ ap (λ c. front ++ c ∷ back) slash
    ∙ (λ i. locale_written front g.1 each.1 i ++ 47 ∷ names_marker back g.0 each.0 i)

-- ---- look-ups among the rows of a marker

module _ (ties : TiesEqualAlone key_cmp) (m : NameMarker) (k : NameKey) where
  -- a key that a marker has is found by its text
  pub keyed_at : name_key m (key_text k) ≡ Some k → (rows : List (List ℕ × List ℕ))
      → value_at key_cmp (keyed m rows) k ≡ value_at text_cmp rows (key_text k)
  keyed_at read [] = refl
  keyed_at read (row ∷ rows) = by (name_key m row.0) refl (keyed_at read rows)
    where
      later : Bool → Option (List ℕ)
      later tied = cond tied (Some row.1) (value_at text_cmp rows (key_text k))

      other : name_key m row.0 ≡ None → is_eq (text_cmp (key_text k) row.0) ≡ false
      other is = not_tied _ (λ tied. none-some k (sym is ∙ ap (name_key m) (sym (text_same (key_text k) row.0 tied)) ∙ read))

      alike : (j : NameKey) → name_key m row.0 ≡ Some j → is_eq (key_cmp k j) ≡ is_eq (text_cmp (key_text k) row.0)
      alike j is = tests_agree _ _
          (λ tied. ap (λ t. is_eq (text_cmp (key_text k) t)) (key_written m row.0 j is ∙ ap key_text (sym (exact ties k j tied)))
          ∙ ap is_eq (tied_itself text_total (key_text k)))
          (λ tied.
          let same = same_Some k j (sym read ∙ ap (name_key m) (same_from_tied (key_text k) row.0 tied) ∙ is) in
          ap is_eq ((ties k j).1 same))

      by : (o : Option NameKey) → name_key m row.0 ≡ o → value_at key_cmp (keyed m rows) k ≡ value_at text_cmp rows (key_text k)
          → value_at key_cmp (cons_option (option_map (λ key. (key, row.1)) o) (keyed m rows)) k ≡ later (is_eq (text_cmp (key_text k) row.0))
      by None is rest = rest ∙ ap later (sym (other is))
      by (Some j) is rest = ap (λ found. cond (is_eq (key_cmp k j)) (Some row.1) found) rest ∙ ap later (alike j is)

  -- a key of another kind is not found
  pub keyed_other : is_of_kind m k ≡ false → (rows : List (List ℕ × List ℕ)) → value_at key_cmp (keyed m rows) k ≡ None
  keyed_other kind [] = refl
  keyed_other kind (row ∷ rows) = by (name_key m row.0) refl (keyed_other kind rows)
    where
      apart : (j : NameKey) → name_key m row.0 ≡ Some j → is_eq (key_cmp k j) ≡ false
      apart j is = not_tied _ (λ tied. absurd (false≢true (sym kind ∙ ap (is_of_kind m) ((ties k j).0 tied) ∙ read_is_of_kind m row.0 j is)))

      by : (o : Option NameKey) → name_key m row.0 ≡ o → value_at key_cmp (keyed m rows) k ≡ None
          → value_at key_cmp (cons_option (option_map (λ key. (key, row.1)) o) (keyed m rows)) k ≡ None
      by None is rest = rest
      by (Some j) is rest = ap (λ t. cond t (Some row.1) (value_at key_cmp (keyed m rows) k)) (apart j is) ∙ rest

-- ---- look-ups among groups

abbrev Named : Type 0
Named = List (List ℕ × List (List ℕ × List ℕ))

module _ (ties : TiesEqualAlone name_cmp) (g : NameGroup) (read : group_key (group_text g) ≡ Some g) (k : NameKey) where
  abbrev found_in : Named → Option (List ℕ)
  found_in named = value_at name_cmp (flat_names (filter_map keyed_group named)) (request_of g k)

  -- the rows of another group are passed over
  past : (t : List ℕ) (rows : List (List ℕ × List ℕ)) (named : Named) → t ≢ group_text g → found_in ((t, rows) ∷ named) ≡ found_in named
  past t rows named other = by (group_key t) refl
    where
      by : (o : Option NameGroup) → group_key t ≡ o → value_at name_cmp (flat_names (cons_option
          (option_map (λ h. (h, keyed h.0 rows)) o) (filter_map keyed_group named))) (request_of g k) ≡ found_in named
      by None is = refl
      by (Some h) is =
          let apart : is_eq (group_cmp g h) ≡ false =
          not_tied _ (λ tied. other (group_written t h is ∙ ap group_text (sym (same_group ties k g h tied)))) in
          passed request_of key_cmp name_cmp group_total (λ g h k l. refl) g h k (keyed h.0 rows) (flat_names (filter_map keyed_group named)) apart

  -- above the group no other has its name
  none_above : (named : Named) → AllByRecursion (λ t. text_cmp (group_text g) t ≡ Less) (keys_of named) → found_in named ≡ None
  none_above [] above = refl
  none_above (n ∷ named) above =
      past n.0 n.1 named (λ same. is_less (sym above.0 ∙ ap (text_cmp (group_text g)) same ∙ tied_itself text_total (group_text g)))
      ∙ none_above named above.1
    where
      is_less : Less ≡ Equal → ⊥
      is_less h = cc h

  -- a look-up in the one list is one of the group, and then one of the key
  pub at_group : (named : Named) → IsSortedMap text_cmp named
      → found_in named ≡ option_and_then (λ rows. value_at key_cmp (keyed g.0 rows) k) (value_at text_cmp named (group_text g))
  unfolding IsStrictlySortedBy
  at_group [] rise = refl
  at_group (n ∷ named) rise = by (is_eq (text_cmp (group_text g) n.0)) refl (at_group named rise.1)
    where
      after : Bool → Option (List ℕ)
      after tied = option_and_then (λ rows. value_at key_cmp (keyed g.0 rows) k) (cond tied (Some n.1) (value_at text_cmp named (group_text g)))

      here : group_text g ≡ n.0 → found_in (n ∷ named) ≡ value_at key_cmp (keyed g.0 n.1) k
      here same =
          let above = subst (λ t. AllByRecursion (λ u. text_cmp t u ≡ Less) (keys_of named)) (sym same) rise.0 in
          ap (λ o. value_at name_cmp (flat_names (cons_option (option_map (λ h. (h, keyed h.0 n.1)) o) (filter_map keyed_group named))) (request_of g k))
          (ap group_key (sym same) ∙ read)
          ∙ looked_up request_of key_cmp name_cmp group_total (λ g h k l. refl) g g k (keyed g.0 n.1) (flat_names (filter_map keyed_group named))
          (tied_itself group_total g)
          ∙ or_none (value_at key_cmp (keyed g.0 n.1) k) _ (none_above named above)

      by : (tied : Bool) → is_eq (text_cmp (group_text g) n.0) ≡ tied
          → found_in named ≡ option_and_then (λ rows. value_at key_cmp (keyed g.0 rows) k) (value_at text_cmp named (group_text g))
          → found_in (n ∷ named) ≡ after (is_eq (text_cmp (group_text g) n.0))
      by true is later = here (same_from_tied (group_text g) n.0 is) ∙ ap after (sym is)
      by false is later =
          past n.0 n.1 named (λ same. false≢true (sym is ∙ ap (λ t. is_eq (text_cmp (group_text g) t)) same ∙ ap is_eq (tied_itself text_total (group_text g))))
          ∙ later
          ∙ ap after (sym is)

-- ---- runs

same_keys_listed : (f : FlatRows) (groups : List (List ℕ × ℕ)) → keys_of (map (λ group. (group.0, run_at f group.1)) groups) ≡ keys_of groups
same_keys_listed f [] = refl
same_keys_listed f (group ∷ groups) = ap (λ keys. group.0 ∷ keys) (same_keys_listed f groups)

then_mapped : {A B C : Type 0} (f : A → B) (h : B → Option C) (o : Option A) → option_and_then h (option_map f o) ≡ option_and_then (λ a. h (f a)) o
then_mapped f h None = refl
then_mapped f h (Some a) = refl

-- the run at a group's name has its names
pub run_is : TiesEqualAlone name_cmp → (f : FlatRows) (g : NameGroup) → group_key (group_text g) ≡ Some g → IsSortedMap text_cmp f.groups
    → (run : Option ℕ) → run ≡ value_at text_cmp f.groups (group_text g) → IsRunOf f g run
run_is ties f g read rise run is = λ key.
    let h = λ (rows : List (List ℕ × List ℕ)). value_at key_cmp (keyed g.0 rows) key in
    let sorted : IsSortedMap text_cmp (listed f) = subst (IsStrictlySortedBy text_cmp) (sym (same_keys_listed f f.groups)) rise in
    ap (option_and_then (λ r. h (run_at f r))) is
    ∙ sym (then_mapped (run_at f) h (value_at text_cmp f.groups (group_text g)))
    ∙ ap (option_and_then h) (sym (lookup-map_values (run_at f) (is_at (text_cmp (group_text g))) f.groups))
    ∙ sym (at_group ties g read key (listed f) sorted)

-- ---- rows in turn

-- the keys of one row more
pub keyed_more : (m : NameMarker) (rows : List (List ℕ × List ℕ)) (i : ℕ)
    → keys_of (keyed m (take (i + 1) rows)) ≡ keys_of (keyed m (take i rows)) ++ items_there (key_in_row m (slice_get rows i))
keyed_more m [] i = none i
  where
    none : (i : ℕ) → keys_of (keyed m (take (i + 1) [])) ≡ keys_of (keyed m (take i [])) ++ []
    none zero = refl
    none (suc i) =
        let more : suc i + 1 ≡ suc (i + 1) = omega arith in
        ap (λ n. keys_of (keyed m (take n []))) more
keyed_more m (first ∷ rows) zero = by (name_key m first.0)
  where
    by : (o : Option NameKey) → keys_of (cons_option (option_map (λ key. (key, first.1)) o) []) ≡ items_there o
    by None = refl
    by (Some key) = refl
keyed_more m (first ∷ rows) (suc i) =
    let more : suc i + 1 ≡ suc (i + 1) = omega arith in
    ap (λ n. keys_of (keyed m (take n (first ∷ rows)))) more ∙ by (name_key m first.0) (keyed_more m rows i)
  where
    rest : List NameKey
    rest = items_there (key_in_row m (slice_get rows i))

    by : (o : Option NameKey) → keys_of (keyed m (take (i + 1) rows)) ≡ keys_of (keyed m (take i rows)) ++ rest
        → keys_of (cons_option (option_map (λ key. (key, first.1)) o) (keyed m (take (i + 1) rows)))
        ≡ keys_of (cons_option (option_map (λ key. (key, first.1)) o) (keyed m (take i rows))) ++ rest
    by None later = later
    by (Some key) later = ap (λ keys. key ∷ keys) later
