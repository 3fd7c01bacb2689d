-- Each key is read from one name.
use Rattle.std.proofs.Common.{◌≡◌, ℕ, Bool, true, false, cond, codes, List, [], ◌∷◌, ◌++◌, Option, Some, None, option_map, nat_eq, if◌then◌else◌}
use Rattle.std.proofs.Common.{refl, sym, ap, ◌∙◌}
use Rattle.std.proofs.lemmas.List.{append-nil}
use Rattle.std.proofs.lemmas.Option.{none-some, same_Some}
use Rattle.std.proofs.lemmas.Slice.Eq.{bytes_eq-Decides}
use Rattle.std.specs.Cmp.Lexicographic.{pointwise}
use Rattle.std.specs.List.{AllByRecursion}
use Rattle.std.specs.Option.{option_or}
use Rattle.icu_provider.specs.declared.data_locale.DataLocale.{DataLocale}
use Rattle.icu_provider.specs.declared.exemplars.ExemplarMarker.{ExemplarMarker}
use Rattle.icu_provider.specs.declared.exemplars.ExemplarMarker.TheVariants as exemplars
use Rattle.icu_provider.specs.declared.names.MenuMarker.{MenuMarker}
use Rattle.icu_provider.specs.declared.names.MenuMarker.TheVariants as menus
use Rattle.icu_provider.specs.declared.names.NameKey.{NameKey}
use Rattle.icu_provider.specs.declared.names.NameKey.TheVariants.{Language, Script, Region, Variant}
use Rattle.icu_provider.specs.declared.names.NameMarker.{NameMarker}
use Rattle.icu_tables.specs.Names.{named_in, exemplar_markers, name_markers, menu_markers, script_and_region, locale_of, cut_locale, locale_key, name_key}
use Rattle.icu_tables.specs.LentNames.{behind_dash, key_text, locale_text, marker_text}
use Rattle.icu_tables.specs.Shape.{both}
use Rattle.icu_tables.specs.Subtags.{key_of, key_pair, cut_at_dash, language_key, script_key, region_key, variant_key, read_language, read_script}
use Rattle.icu_tables.specs.Subtags.{read_region, read_variant}
use Rattle.icu_tables.specs.Tables.{names_languages, names_scripts, names_regions}
use Rattle.icu_tables.specs.inner.KeyLaws.{named, cut_joins, names as pair_names}
use Rattle.icu_tables.proofs.Lookups.{map_of_some}

-- no two names are read as one key
abbrev pub OneName : {K : Type 0} → (List ℕ → Option K) → Type 0
OneName {K} key = (s t : List ℕ) (k : K) → key s ≡ Some k → key t ≡ Some k → s ≡ t

by_written : {K : Type 0} {key : List ℕ → Option K} (written : K → List ℕ) → ((t : List ℕ) (k : K) → key t ≡ Some k → t ≡ written k) → OneName key
by_written written told s t k is_s is_t = told s k is_s ∙ sym (told t k is_t)

itself : (reads : List ℕ → Option (List ℕ)) (t x : List ℕ) → key_of (λ x. x) reads t ≡ Some x → t ≡ x
itself reads t x is = sym (named (λ y. y) reads t x is).1

pub one_language : OneName language_key
one_language = by_written (λ x. x) (itself read_language)

pub one_script : OneName script_key
one_script = by_written (λ x. x) (itself read_script)

pub one_region : OneName region_key
one_region = by_written (λ x. x) (itself read_region)

-- of two keys with a dash between them
pub one_pair : {A B : Type 0} (first : List ℕ → Option A) (second : List ℕ → Option B) → OneName first → OneName second → OneName (key_pair first second)
one_pair first second one_first one_second s t k is_s is_t =
    let a = pair_names first second s k is_s in
    let b = pair_names first second t k is_t in
    let front = one_first a.cut.0 b.cut.0 k.0 a.first_is b.first_is in
    let back = one_second a.cut.1 b.cut.1 k.1 a.second_is b.second_is in
    a.joins ∙ (λ i. front i ++ 45 ∷ back i) ∙ sym b.joins

-- ---- locales

rest_by : (t : List ℕ) (p : Option (List ℕ) × Option (List ℕ)) (script region : Option (List ℕ)) (pair : Option (List ℕ × List ℕ))
    → script_key t ≡ script → region_key t ≡ region → key_pair script_key region_key t ≡ pair
    → option_or (option_map (λ s. (Some s, None)) script) (option_or (option_map (λ r. (None, Some r)) region)
    (option_map (λ x. (Some x.0, Some x.1)) pair)) ≡ Some p
    → behind_dash p.0 ++ behind_dash p.1 ≡ 45 ∷ t
rest_by t p (Some s) region pair is_script is_region is_pair is =
    ap (λ q. behind_dash q.0 ++ behind_dash q.1) (sym (same_Some (Some s, None) p is))
    ∙ ap (λ x. 45 ∷ x) (append-nil s ∙ sym (itself read_script t s is_script))
rest_by t p None (Some r) pair is_script is_region is_pair is =
    ap (λ q. behind_dash q.0 ++ behind_dash q.1) (sym (same_Some (None, Some r) p is))
    ∙ ap (λ x. 45 ∷ x) (sym (itself read_region t r is_region))
rest_by t p None None (Some x) is_script is_region is_pair is =
    let cut = pair_names script_key region_key t x is_pair in
    let first = itself read_script cut.cut.0 x.0 cut.first_is in
    let second = itself read_region cut.cut.1 x.1 cut.second_is in
    ap (λ q. behind_dash q.0 ++ behind_dash q.1) (sym (same_Some (Some x.0, Some x.1) p is))
    ∙ ap (λ y. 45 ∷ y) ((λ i. sym first i ++ 45 ∷ sym second i) ∙ sym cut.joins)
rest_by t p None None None is_script is_region is_pair is = absurd (none-some p is)

both_of : {A B : Type 0} (first : Option A) (second : Option B) (x : A × B) → both first second ≡ Some x → (first ≡ Some x.0) × (second ≡ Some x.1)
both_of None second x is = absurd (none-some x is)
both_of (Some a) None x is = absurd (none-some x is)
both_of (Some a) (Some b) x is =
    let same = same_Some (a, b) x is in
    (ap (λ p. Some p.0) same, ap (λ p. Some p.1) same)

locale_by : (t : List ℕ) (l : DataLocale) (cut : Option (List ℕ × List ℕ)) → cut_at_dash t ≡ cut → cut_locale t cut ≡ Some l → t ≡ locale_text l
locale_by t l None is_cut is =
    let alone = map_of_some (λ language. locale_of (language, (None, None))) (language_key t) l is in
    itself read_language t alone.0 alone.1 ∙ sym (append-nil alone.0) ∙ ap locale_text (sym alone.2)
locale_by t l (Some cut) is_cut is =
    let parts = map_of_some locale_of (both (language_key cut.0) (script_and_region cut.1)) l is in
    let each = both_of (language_key cut.0) (script_and_region cut.1) parts.0 parts.1 in
    let front = itself read_language cut.0 parts.0.0 each.0 in
    let back = rest_by cut.1 parts.0.1 (script_key cut.1) (region_key cut.1) (key_pair script_key region_key cut.1) refl refl refl each.1 in
    cut_joins t cut is_cut ∙ (λ i. front i ++ sym back i) ∙ ap locale_text (sym parts.2)

pub locale_written : (t : List ℕ) (l : DataLocale) → locale_key t ≡ Some l → t ≡ locale_text l
locale_written t l is = locale_by t l (cut_at_dash t) refl is

pub one_locale : OneName locale_key
one_locale = by_written locale_text locale_written

-- ---- keys of names

pub key_by : (languages scripts regions : Bool) (t : List ℕ) (k : NameKey)
    → (if languages then option_map (λ locale. Language locale.language locale.script locale.region) (locale_key t)
    else if scripts then option_map (λ script. Script script) (script_key t)
    else if regions then option_map (λ region. Region region) (region_key t)
    else option_map (λ variant. Variant variant) (variant_key t)) ≡ Some k
    → t ≡ key_text k
key_by true scripts regions t k is =
    let held = map_of_some (λ locale. Language locale.language locale.script locale.region) (locale_key t) k is in
    locale_written t held.0 held.1 ∙ ap key_text (sym held.2)
key_by false true regions t k is =
    let held = map_of_some (λ script. Script script) (script_key t) k is in
    itself read_script t held.0 held.1 ∙ ap key_text (sym held.2)
key_by false false true t k is =
    let held = map_of_some (λ region. Region region) (region_key t) k is in
    itself read_region t held.0 held.1 ∙ ap key_text (sym held.2)
key_by false false false t k is =
    let held = map_of_some (λ variant. Variant variant) (variant_key t) k is in
    itself read_variant t held.0 held.1 ∙ ap key_text (sym held.2)

pub key_written : (marker : NameMarker) (t : List ℕ) (k : NameKey) → name_key marker t ≡ Some k → t ≡ key_text k
key_written marker t k is = key_by (names_languages marker) (names_scripts marker) (names_regions marker) t k is

pub one_name_key : (marker : NameMarker) → OneName (name_key marker)
one_name_key marker = by_written key_text (key_written marker)

-- ---- markers

by_test : {A : Type 0} (name_of : A → List ℕ) (e : List ℕ × A) (t : List ℕ) (m : A) (test : Bool) (later : Option A)
    → pointwise nat_eq e.0 t ≡ test → name_of e.1 ≡ e.0 → (later ≡ Some m → t ≡ name_of m) → cond test (Some e.1) later ≡ Some m → t ≡ name_of m
by_test name_of e t m true later same told rest is =
    sym ((bytes_eq-Decides e.0 t).0 same) ∙ sym told ∙ ap name_of (same_Some e.1 m is)
by_test name_of e t m false later same told rest is = rest is

marker_named : {A : Type 0} (name_of : A → List ℕ) (table : List (List ℕ × A)) → AllByRecursion (λ e. name_of e.1 ≡ e.0) table
    → (t : List ℕ) (m : A) → named_in table t ≡ Some m → t ≡ name_of m
marker_named name_of [] all t m is = absurd (none-some m is)
marker_named name_of (e ∷ table) all t m is =
    by_test name_of e t m (pointwise nat_eq e.0 t) (named_in table t) refl all.0 (marker_named name_of table all.1 t m) is

abbrev exemplar_name : ExemplarMarker → List ℕ
exemplar_name exemplars.Main = codes "main"
exemplar_name exemplars.Auxiliary = codes "auxiliary"
exemplar_name exemplars.Punctuation = codes "punctuation"
exemplar_name exemplars.Numbers = codes "numbers"
exemplar_name exemplars.Index = codes "index"

pub one_exemplar_name : OneName (named_in exemplar_markers)
one_exemplar_name = by_written exemplar_name (λ t m is. marker_named exemplar_name exemplar_markers (refl, (refl, (refl, (refl, (refl, tt))))) t m is)

pub names_marker : (t : List ℕ) (m : NameMarker) → named_in name_markers t ≡ Some m → t ≡ marker_text m
names_marker t m is = marker_named marker_text name_markers
    (refl, (refl, (refl, (refl, (refl, (refl, (refl, (refl, (refl, (refl, (refl, (refl, (refl, (refl, (refl, (refl, tt)))))))))))))))) t m is

pub one_name_of_names : OneName (named_in name_markers)
one_name_of_names = by_written marker_text names_marker

abbrev menu_name : MenuMarker → List ℕ
menu_name menus.MediumLight = codes "language/menu/medium/light"
menu_name menus.MediumHeavy = codes "language/menu/medium/heavy"

pub one_menu_name : OneName (named_in menu_markers)
one_menu_name = by_written menu_name (λ t m is. marker_named menu_name menu_markers (refl, (refl, tt)) t m is)
