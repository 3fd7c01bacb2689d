-- What a look-up answers in the rows of a file.
use Rattle.std.proofs.Common.{◌≡◌, ℕ, Bool, true, false, cond, codes, List, [], ◌∷◌, Option, Some, None, Ok, option_and_then, option_map}
use Rattle.std.proofs.Common.{if◌then◌else◌, refl, sym, ap, ◌∙◌, subst}
use Rattle.std.proofs.lemmas.Cmp.{tied_itself}
use Rattle.std.proofs.lemmas.Option.{none-some, same_Some}
use Rattle.std.specs.Cmp.{IsTotalOrder}
use Rattle.std.specs.Ordering.{is_eq, match_ordering}
use Rattle.std.specs.Str.{is_utf8}
use Rattle.std.specs.declared.cmp.Ordering.{Ordering}
use Rattle.std.specs.declared.cmp.Ordering.TheVariants.{Less, Equal, Greater}
use Rattle.serde_json.specs.Data.{Data, null, boolean, number, string, array, object, Members, no_members, member}
use Rattle.serde_json.specs.Find.{get, get_member}
use Rattle.serde_json.specs.Read.{read}
use Rattle.icu_locale_core.specs.Maps.{value_at}
use Rattle.icu_locale_core.specs.TextSet.{text_cmp}
use Rattle.icu_locale_core.specs.laws.TextSets.{text_same, text_total}
use Rattle.icu_provider.specs.Requests.{exemplar_cmp, locale_cmp, menu_cmp, name_cmp}
use Rattle.icu_provider.specs.SortedMaps.{TiesEqualAlone, pair_cmp}
use Rattle.icu_provider.specs.declared.data_locale.DataLocale.{DataLocale}
use Rattle.icu_provider.specs.declared.essentials.LocaleNamesEssentials.{LocaleNamesEssentials}
use Rattle.icu_provider.specs.declared.exemplars.ExemplarCharactersData.{ExemplarCharactersData}
use Rattle.icu_provider.specs.declared.exemplars.ExemplarMarker.{ExemplarMarker}
use Rattle.icu_provider.specs.declared.names.MenuMarker.{MenuMarker}
use Rattle.icu_provider.specs.declared.names.MenuNameParts.{MenuNameParts}
use Rattle.icu_provider.specs.declared.names.NameKey.{NameKey}
use Rattle.icu_provider.specs.declared.names.NameMarker.{NameMarker}
use Rattle.icu_provider.specs.declared.likely.extended.LikelySubtagsExtended.{LikelySubtagsExtended}
use Rattle.icu_provider.specs.declared.likely.language.LikelySubtagsForLanguage.{LikelySubtagsForLanguage}
use Rattle.icu_provider.specs.declared.likely.script_region.LikelySubtagsForScriptRegion.{LikelySubtagsForScriptRegion}
use Rattle.icu_tables.specs.NamedRows.{name_patterns, exemplar_set, locale_essentials, marked_exemplars, marked_menus, marked_names, menu_name}
use Rattle.icu_tables.specs.Fields.{present, said_or}
use Rattle.icu_tables.specs.File.{aliases, direction, file, likely_language, likely_script_region, likely_extended, or_json, or_shape}
use Rattle.icu_tables.specs.Lookups.{at_path, said_at, IsFile, FindsAt, FindsByLanguage, FindsByScriptRegion, FindsExtended, FindsByLocale, FindsByKey}
use Rattle.icu_tables.specs.Names.{exemplar_markers, name_markers, menu_markers, locale_key, name_key}
use Rattle.icu_tables.specs.Puts.{map_by}
use Rattle.icu_tables.specs.Rows.{AliasRows, DirectionRows, FileRows}
use Rattle.icu_tables.specs.Shape.{Shape, applied, each_row, map_of, pair_of, text as text_shape, triple_of, with_row}
use Rattle.icu_tables.specs.Subtags.{key_pair, language_key, script_key, region_key}
use Rattle.icu_tables.specs.Subtags as subtags
use Rattle.icu_tables.specs.inner.Once.{NamesRise}
use Rattle.icu_tables.proofs.KeyNames.{OneName, one_exemplar_name, one_language, one_locale, one_menu_name, one_name_key, one_name_of_names, one_pair}
use Rattle.icu_tables.proofs.KeyNames.{one_region, one_script}
use Rattle.icu_tables.proofs.Lookups.{map_of_some, parts_of}
use Rattle.icu_tables.proofs.MarkedLookups.{finds_by_key, finds_by_locale, finds_by_marker}
use Rattle.icu_tables.proofs.Once.{rise-read}

-- what three members say that are put together
record Three {A B C R : Type 0} (make : A → B → C → R) (a : Option A) (b : Option B) (c : Option C) (r : R) : Type 0 where
  said_1 : A
  said_2 : B
  said_3 : C
  is_1 : a ≡ Some said_1
  is_2 : b ≡ Some said_2
  is_3 : c ≡ Some said_3
  whole : r ≡ make said_1 said_2 said_3

three : {A B C R : Type 0} (make : A → B → C → R) (a : Option A) (b : Option B) (c : Option C) (r : R)
    → applied (applied (applied (Some make) a) b) c ≡ Some r → Three make a b c r
three make (Some x1) (Some x2) (Some x3) r is = record {
  said_1 = x1;
  said_2 = x2;
  said_3 = x3;
  is_1 = refl;
  is_2 = refl;
  is_3 = refl;
  whole = sym (same_Some (make x1 x2 x3) r is);
}
three make None b c r is = absurd (none-some r is)
three make (Some x1) None c r is = absurd (none-some r is)
three make (Some x1) (Some x2) None r is = absurd (none-some r is)

-- what four members say that are put together
record Four {A B C D R : Type 0} (make : A → B → C → D → R) (a : Option A) (b : Option B) (c : Option C) (d : Option D) (r : R) : Type 0 where
  said_1 : A
  said_2 : B
  said_3 : C
  said_4 : D
  is_1 : a ≡ Some said_1
  is_2 : b ≡ Some said_2
  is_3 : c ≡ Some said_3
  is_4 : d ≡ Some said_4
  whole : r ≡ make said_1 said_2 said_3 said_4

four : {A B C D R : Type 0} (make : A → B → C → D → R) (a : Option A) (b : Option B) (c : Option C) (d : Option D) (r : R)
    → applied (applied (applied (applied (Some make) a) b) c) d ≡ Some r → Four make a b c d r
four make (Some x1) (Some x2) (Some x3) (Some x4) r is = record {
  said_1 = x1;
  said_2 = x2;
  said_3 = x3;
  said_4 = x4;
  is_1 = refl;
  is_2 = refl;
  is_3 = refl;
  is_4 = refl;
  whole = sym (same_Some (make x1 x2 x3 x4) r is);
}
four make None b c d r is = absurd (none-some r is)
four make (Some x1) None c d r is = absurd (none-some r is)
four make (Some x1) (Some x2) None d r is = absurd (none-some r is)
four make (Some x1) (Some x2) (Some x3) None r is = absurd (none-some r is)

-- what six members say that are put together
record Six {A B C D E F R : Type 0} (make : A → B → C → D → E → F → R) (a : Option A) (b : Option B) (c : Option C) (d : Option D)
    (e : Option E) (f : Option F) (r : R) : Type 0 where
  said_1 : A
  said_2 : B
  said_3 : C
  said_4 : D
  said_5 : E
  said_6 : F
  is_1 : a ≡ Some said_1
  is_2 : b ≡ Some said_2
  is_3 : c ≡ Some said_3
  is_4 : d ≡ Some said_4
  is_5 : e ≡ Some said_5
  is_6 : f ≡ Some said_6
  whole : r ≡ make said_1 said_2 said_3 said_4 said_5 said_6

six : {A B C D E F R : Type 0} (make : A → B → C → D → E → F → R) (a : Option A) (b : Option B) (c : Option C) (d : Option D) (e : Option E)
    (f : Option F) (r : R) → applied (applied (applied (applied (applied (applied (Some make) a) b) c) d) e) f ≡ Some r → Six make a b c d e f r
six make (Some x1) (Some x2) (Some x3) (Some x4) (Some x5) (Some x6) r is = record {
  said_1 = x1;
  said_2 = x2;
  said_3 = x3;
  said_4 = x4;
  said_5 = x5;
  said_6 = x6;
  is_1 = refl;
  is_2 = refl;
  is_3 = refl;
  is_4 = refl;
  is_5 = refl;
  is_6 = refl;
  whole = sym (same_Some (make x1 x2 x3 x4 x5 x6) r is);
}
six make None b c d e f r is = absurd (none-some r is)
six make (Some x1) None c d e f r is = absurd (none-some r is)
six make (Some x1) (Some x2) None d e f r is = absurd (none-some r is)
six make (Some x1) (Some x2) (Some x3) None e f r is = absurd (none-some r is)
six make (Some x1) (Some x2) (Some x3) (Some x4) None f r is = absurd (none-some r is)
six make (Some x1) (Some x2) (Some x3) (Some x4) (Some x5) None r is = absurd (none-some r is)

-- what nine members say that are put together
record Nine {A B C D E F G H I R : Type 0} (make : A → B → C → D → E → F → G → H → I → R) (a : Option A) (b : Option B) (c : Option C)
    (d : Option D) (e : Option E) (f : Option F) (g : Option G) (h : Option H) (i : Option I) (r : R) : Type 0 where
  said_1 : A
  said_2 : B
  said_3 : C
  said_4 : D
  said_5 : E
  said_6 : F
  said_7 : G
  said_8 : H
  said_9 : I
  is_1 : a ≡ Some said_1
  is_2 : b ≡ Some said_2
  is_3 : c ≡ Some said_3
  is_4 : d ≡ Some said_4
  is_5 : e ≡ Some said_5
  is_6 : f ≡ Some said_6
  is_7 : g ≡ Some said_7
  is_8 : h ≡ Some said_8
  is_9 : i ≡ Some said_9
  whole : r ≡ make said_1 said_2 said_3 said_4 said_5 said_6 said_7 said_8 said_9

nine : {A B C D E F G H I R : Type 0} (make : A → B → C → D → E → F → G → H → I → R) (a : Option A) (b : Option B) (c : Option C)
    (d : Option D) (e : Option E) (f : Option F) (g : Option G) (h : Option H) (i : Option I) (r : R)
    → applied (applied (applied (applied (applied (applied (applied (applied (applied (Some make) a) b) c) d) e) f) g) h) i ≡ Some r
    → Nine make a b c d e f g h i r
nine make (Some x1) (Some x2) (Some x3) (Some x4) (Some x5) (Some x6) (Some x7) (Some x8)
    (Some x9) r is = record {
      said_1 = x1;
      said_2 = x2;
      said_3 = x3;
      said_4 = x4;
      said_5 = x5;
      said_6 = x6;
      said_7 = x7;
      said_8 = x8;
      said_9 = x9;
      is_1 = refl;
      is_2 = refl;
      is_3 = refl;
      is_4 = refl;
      is_5 = refl;
      is_6 = refl;
      is_7 = refl;
      is_8 = refl;
      is_9 = refl;
      whole = sym (same_Some (make x1 x2 x3 x4 x5 x6 x7 x8 x9) r is);
    }
nine make None b c d e f g h i r is = absurd (none-some r is)
nine make (Some x1) None c d e f g h i r is = absurd (none-some r is)
nine make (Some x1) (Some x2) None d e f g h i r is = absurd (none-some r is)
nine make (Some x1) (Some x2) (Some x3) None e f g h i r is = absurd (none-some r is)
nine make (Some x1) (Some x2) (Some x3) (Some x4) None f g h i r is = absurd (none-some r is)
nine make (Some x1) (Some x2) (Some x3) (Some x4) (Some x5) None g h i r is = absurd (none-some r is)
nine make (Some x1) (Some x2) (Some x3) (Some x4) (Some x5) (Some x6) None h i r is = absurd (none-some r is)
nine make (Some x1) (Some x2) (Some x3) (Some x4) (Some x5) (Some x6) (Some x7) None i r is = absurd (none-some r is)
nine make (Some x1) (Some x2) (Some x3) (Some x4) (Some x5) (Some x6) (Some x7) (Some x8) None r is = absurd (none-some r is)

-- ---- rows of one member, one by one

not_tied : (o : Ordering) → (o ≡ Equal → ⊥) → is_eq o ≡ false
not_tied Less apart = refl
not_tied Equal apart = absurd (apart refl)
not_tied Greater apart = refl

module _ {K V : Type 0} (compare : K → K → Ordering) (ties : TiesEqualAlone compare) (key : List ℕ → Option K) (one : OneName key)
    (shape : Shape V) (mine : List ℕ) (k : K) (named : key mine ≡ Some k) where
  here : (w : V) (more : List (K × V)) → value_at compare ((k, w) ∷ more) k ≡ Some w
  here w more = ap (λ tied. cond (is_eq tied) (Some w) (value_at compare more k)) ((ties k k).1 refl)

  -- a row of another name is passed over
  passed : (name : List ℕ) (w : V) (more : List (K × V)) → (name ≡ mine → ⊥) → (other : Option K) → key name ≡ other
      → value_at compare (with_row other w more) k ≡ value_at compare more k
  passed name w more apart None is = refl
  passed name w more apart (Some x) is =
      ap (λ tied. cond tied (Some w) (value_at compare more k))
      (not_tied (compare k x) (λ tied. apart (one name mine k (is ∙ ap (λ y. Some y) (sym ((ties k x).0 tied))) named)))

  row_of : (ms : Members) (rows : List (K × V)) → each_row key shape ms ≡ Some rows → value_at compare rows k ≡ option_and_then shape (get_member mine ms)
  row_of no_members rows is = ap (λ r. value_at compare r k) (sym (same_Some [] rows is))
  row_of (member name value ms) rows is =
      let all = parts_of (option_map (with_row (key name)) (shape value)) (each_row key shape ms) rows is in
      let held = map_of_some (with_row (key name)) (shape value) all.made all.made_is in
      let whole : rows ≡ with_row (key name) held.0 all.given = all.whole ∙ (λ i. held.2 i all.given) in
      ap (λ r. value_at compare r k) whole ∙ by held.0 all.given held.1 (text_cmp mine name) refl (row_of ms all.given all.given_is)
    where
      apart : (o : Ordering) → text_cmp mine name ≡ o → (o ≡ Equal → ⊥) → name ≡ mine → ⊥
      apart o is not_equal same = not_equal (sym is ∙ subst (λ n. text_cmp mine n ≡ Equal) (sym same) (tied_itself text_total mine))

      by : (w : V) (more : List (K × V)) → shape value ≡ Some w → (o : Ordering) → text_cmp mine name ≡ o
          → value_at compare more k ≡ option_and_then shape (get_member mine ms)
          → value_at compare (with_row (key name) w more) k ≡ option_and_then shape (match_ordering o (get_member mine ms) (Some value) (get_member mine ms))
      by w more said Less is rest = passed name w more (apart Less is (λ e. absurd (cc))) (key name) refl ∙ rest
      by w more said Greater is rest = passed name w more (apart Greater is (λ e. absurd (cc))) (key name) refl ∙ rest
      by w more said Equal is rest =
          let same = text_same mine name is in
          ap (λ x. value_at compare (with_row x w more) k) (ap key (sym same) ∙ named)
          ∙ here w more ∙ sym said

  at_end : (o : Option Data) → option_and_then (at_path []) o ≡ o
  at_end None = refl
  at_end (Some v) = refl

  rows_of_map : (value : Data) (rows : List (K × V)) → map_of key shape value ≡ Some rows → value_at compare rows k ≡ option_and_then shape (get mine value)
  rows_of_map null rows is = absurd (none-some rows is)
  rows_of_map (boolean b) rows is = absurd (none-some rows is)
  rows_of_map (number n) rows is = absurd (none-some rows is)
  rows_of_map (string s) rows is = absurd (none-some rows is)
  rows_of_map (array items) rows is = absurd (none-some rows is)
  rows_of_map (object ms) rows is = row_of ms rows is

  -- the rows of a member of a table
  pub found_in_table : (table : List ℕ) (name : List ℕ) (value object_value : Data) (rows : List (K × V)) → get table value ≡ Some object_value
      → said_or (Some []) (map_of key shape) (get name object_value) ≡ Some rows
      → value_at compare rows k ≡ said_at shape (table ∷ name ∷ mine ∷ []) value
  found_in_table table name value inner rows held is =
      by (get name inner) is
      ∙ ap (λ o. option_and_then shape (option_and_then (at_path (name ∷ mine ∷ [])) o)) (sym held)
    where
      by : (found : Option Data) → said_or (Some []) (map_of key shape) found ≡ Some rows
          → value_at compare rows k ≡ option_and_then shape (option_and_then (at_path (mine ∷ [])) found)
      by None none = ap (λ r. value_at compare r k) (sym (same_Some [] rows none))
      by (Some v) some = rows_of_map v rows some ∙ ap (option_and_then shape) (sym (at_end (get mine v)))

pub finds_in_table : {K V : Type 0} (compare : K → K → Ordering) → TiesEqualAlone compare → (key : List ℕ → Option K) → OneName key → (shape : Shape V)
    → (table name : List ℕ) (value inner : Data) (rows : List (K × V)) → get table value ≡ Some inner
    → said_or (Some []) (map_of key shape) (get name inner) ≡ Some rows
    → FindsAt compare key shape (table ∷ name ∷ []) value rows
finds_in_table compare ties key one shape table name value inner rows held is mine k named =
    found_in_table compare ties key one shape mine k named table name value inner rows held is

-- a table that a file holds is in it
held_table : {T : Type 0} (shape : Shape T) (found : Option Data) (table : T) (said : Option T)
    → said_or (Some None) (present shape) found ≡ Some said → said ≡ Some table → (inner : Data) × (found ≡ Some inner) × (shape inner ≡ Some table)
held_table shape None table said is there = absurd (none-some table (same_Some None said is ∙ there))
held_table shape (Some v) table said is there =
    let some = map_of_some (λ x. Some x) (shape v) said is in
    (v, refl, some.1 ∙ sym some.2 ∙ there)

abbrev rows_under : {K V : Type 0} → List ℕ → (List ℕ → Option K) → Shape V → Data → Option (List (K × V))
rows_under name key shape inner = said_or (Some []) (map_of key shape) (get name inner)

abbrev required_of : {A : Type 0} → List ℕ → Shape A → Data → Option A
required_of name shape inner = said_or None shape (get name inner)

-- ---- the file

only_said : {A : Type 0} (test : Bool) (said : Option A) (r : A) → (if test then said else None) ≡ Some r → said ≡ Some r
only_said true said r is = is
only_said false said r is = absurd (none-some r is)

of_shape : (said : Option FileRows) (rows : FileRows) → or_shape said ≡ Ok rows → said ≡ Some rows
of_shape None rows is = absurd (cc)
of_shape (Some held) rows is = ap (λ r. Some r) (cc)

module _ (text : List ℕ) (value : Data) (rows : FileRows) (is_file : IsFile text value rows) where
  rise : NamesRise value
  rise = rise-read text value (only_said (is_utf8 text) (read text) value is_file.value_is)

  whole_file : file value ≡ Some rows
  whole_file = of_shape (file value) rows (sym (ap (or_json file) is_file.value_is) ∙ is_file.rows_are)

  -- the members of the file
  abbrev made_of_members : Option LikelySubtagsForLanguage → Option LikelySubtagsForScriptRegion → Option LikelySubtagsExtended
      → Option AliasRows → Option DirectionRows
      → List ((ExemplarMarker × DataLocale) × ExemplarCharactersData) → List ((NameMarker × DataLocale × NameKey) × List ℕ)
      → List ((MenuMarker × DataLocale × List ℕ) × MenuNameParts) → List (DataLocale × LocaleNamesEssentials) → FileRows
  made_of_members l s e a d x n m p = record {
    likely_language = l;
    likely_script_region = s;
    likely_extended = e;
    aliases = a;
    direction = d;
    exemplars = x;
    names = n;
    menus = m;
    essentials = p;
  }

  abbrev table_of : {T : Type 0} → List ℕ → Shape T → Option (Option T)
  table_of name shape = said_or (Some None) (present shape) (get name value)

  abbrev map_under : {K V : Type 0} → (K → K → Ordering) → List ℕ → (List ℕ → Shape (List (K × V))) → Option (List (K × V))
  map_under compare name says = said_or (Some []) (map_by compare says) (get name value)

  members_of : Nine made_of_members (table_of (codes "likely_language") likely_language)
      (table_of (codes "likely_script_region") likely_script_region) (table_of (codes "likely_extended") likely_extended)
      (table_of (codes "aliases") aliases) (table_of (codes "direction") direction) (map_under exemplar_cmp (codes "exemplars") marked_exemplars)
      (map_under name_cmp (codes "names") marked_names) (map_under menu_cmp (codes "menus") marked_menus)
      (map_under locale_cmp (codes "essentials") locale_essentials) rows
  members_of = nine made_of_members (table_of (codes "likely_language") likely_language)
      (table_of (codes "likely_script_region") likely_script_region) (table_of (codes "likely_extended") likely_extended)
      (table_of (codes "aliases") aliases) (table_of (codes "direction") direction) (map_under exemplar_cmp (codes "exemplars") marked_exemplars)
      (map_under name_cmp (codes "names") marked_names) (map_under menu_cmp (codes "menus") marked_menus)
      (map_under locale_cmp (codes "essentials") locale_essentials) rows
      (only_said _ _ rows whole_file)

  pub exemplars_found : TiesEqualAlone exemplar_cmp → IsTotalOrder exemplar_cmp
      → FindsByLocale exemplar_cmp exemplar_markers exemplar_set (codes "exemplars") value rows.exemplars
  exemplars_found ties total =
      finds_by_locale exemplar_cmp ties total exemplar_markers one_exemplar_name exemplar_set (codes "exemplars") value rows.exemplars rise
      (members_of.is_6 ∙ ap (λ r. Some r.exemplars) (sym members_of.whole))

  pub names_found : TiesEqualAlone name_cmp → IsTotalOrder name_cmp → FindsByKey name_cmp name_markers name_key text_shape (codes "names") value rows.names
  names_found ties total =
      finds_by_marker name_cmp ties total name_markers one_name_of_names name_key one_name_key text_shape (codes "names") value rows.names rise
      (members_of.is_7 ∙ ap (λ r. Some r.names) (sym members_of.whole))

  pub menus_found : TiesEqualAlone menu_cmp → IsTotalOrder menu_cmp → FindsByKey menu_cmp menu_markers (λ _. language_key) menu_name
      (codes "menus") value rows.menus
  menus_found ties total =
      finds_by_marker menu_cmp ties total menu_markers one_menu_name (λ _. language_key) (λ _. one_language) menu_name (codes "menus") value rows.menus rise
      (members_of.is_8 ∙ ap (λ r. Some r.menus) (sym members_of.whole))

  pub essentials_found : TiesEqualAlone locale_cmp → IsTotalOrder locale_cmp
      → FindsAt locale_cmp locale_key name_patterns (codes "essentials" ∷ []) value rows.essentials
  essentials_found ties total =
      finds_by_key locale_cmp ties total name_patterns locale_key one_locale (codes "essentials") value rows.essentials rise
      (members_of.is_9 ∙ ap (λ r. Some r.essentials) (sym members_of.whole))

  module _ (texts : TiesEqualAlone text_cmp) (pairs : TiesEqualAlone pair_cmp) where
    pub language_found : (table : LikelySubtagsForLanguage) → rows.likely_language ≡ Some table → FindsByLanguage value table
    language_found table there =
        let held = held_table likely_language (get (codes "likely_language") value) table members_of.said_1 members_of.is_1
        (ap (λ r. r.likely_language) (sym members_of.whole) ∙ there) in
        let parts = four (λ u a b c. record { und = u; language = a; language_script = b; language_region = c })
        (required_of (codes "und") (triple_of subtags.language subtags.script subtags.region) held.0)
        (rows_under (codes "language") language_key (pair_of subtags.script subtags.region) held.0)
        (rows_under (codes "language_script") (key_pair language_key script_key) subtags.region held.0)
        (rows_under (codes "language_region") (key_pair language_key region_key) subtags.script held.0) table (only_said _ _ table held.2) in
        record {
          language = finds_in_table text_cmp texts language_key one_language _ (codes "likely_language")
              (codes "language") value held.0 table.language held.1 (parts.is_2 ∙ ap (λ t. Some t.language) (sym parts.whole));
          language_script = finds_in_table pair_cmp pairs (key_pair language_key script_key)
              (one_pair language_key script_key one_language one_script) _ (codes "likely_language")
              (codes "language_script") value held.0 table.language_script held.1 (parts.is_3 ∙ ap (λ t. Some t.language_script) (sym parts.whole));
          language_region = finds_in_table pair_cmp pairs (key_pair language_key region_key)
              (one_pair language_key region_key one_language one_region) _ (codes "likely_language")
              (codes "language_region") value held.0 table.language_region held.1 (parts.is_4 ∙ ap (λ t. Some t.language_region) (sym parts.whole));
        }

    pub script_region_found : (table : LikelySubtagsForScriptRegion) → rows.likely_script_region ≡ Some table → FindsByScriptRegion value table
    script_region_found table there =
        let held = held_table likely_script_region (get (codes "likely_script_region") value) table members_of.said_2 members_of.is_2
        (ap (λ r. r.likely_script_region) (sym members_of.whole) ∙ there) in
        let parts = three (λ a b c. record { script_region = a; script = b; region = c })
        (rows_under (codes "script_region") (key_pair script_key region_key) subtags.language held.0)
        (rows_under (codes "script") script_key (pair_of subtags.language subtags.region) held.0)
        (rows_under (codes "region") region_key (pair_of subtags.language subtags.script) held.0) table (only_said _ _ table held.2) in
        record {
          script_region = finds_in_table pair_cmp pairs (key_pair script_key region_key)
              (one_pair script_key region_key one_script one_region) _ (codes "likely_script_region")
              (codes "script_region") value held.0 table.script_region held.1 (parts.is_1 ∙ ap (λ t. Some t.script_region) (sym parts.whole));
          script = finds_in_table text_cmp texts script_key one_script _ (codes "likely_script_region")
              (codes "script") value held.0 table.script held.1 (parts.is_2 ∙ ap (λ t. Some t.script) (sym parts.whole));
          region = finds_in_table text_cmp texts region_key one_region _ (codes "likely_script_region")
              (codes "region") value held.0 table.region held.1 (parts.is_3 ∙ ap (λ t. Some t.region) (sym parts.whole));
        }

    pub extended_found : (table : LikelySubtagsExtended) → rows.likely_extended ≡ Some table → FindsExtended value table
    extended_found table there =
        let held = held_table likely_extended (get (codes "likely_extended") value) table members_of.said_3 members_of.is_3
        (ap (λ r. r.likely_extended) (sym members_of.whole) ∙ there) in
        let parts = six (λ a b c d e f. record {
          language = a;
          language_script = b;
          language_region = c;
          script_region = d;
          script = e;
          region = f;
        }) (rows_under (codes "language") language_key (pair_of subtags.script subtags.region) held.0)
        (rows_under (codes "language_script") (key_pair language_key script_key) subtags.region held.0)
        (rows_under (codes "language_region") (key_pair language_key region_key) subtags.script held.0)
        (rows_under (codes "script_region") (key_pair script_key region_key) subtags.language held.0)
        (rows_under (codes "script") script_key (pair_of subtags.language subtags.region) held.0)
        (rows_under (codes "region") region_key (pair_of subtags.language subtags.script) held.0) table (only_said _ _ table held.2) in
        record {
          language = finds_in_table text_cmp texts language_key one_language _ (codes "likely_extended")
              (codes "language") value held.0 table.language held.1 (parts.is_1 ∙ ap (λ t. Some t.language) (sym parts.whole));
          language_script = finds_in_table pair_cmp pairs (key_pair language_key script_key)
              (one_pair language_key script_key one_language one_script) _ (codes "likely_extended")
              (codes "language_script") value held.0 table.language_script held.1 (parts.is_2 ∙ ap (λ t. Some t.language_script) (sym parts.whole));
          language_region = finds_in_table pair_cmp pairs (key_pair language_key region_key)
              (one_pair language_key region_key one_language one_region) _ (codes "likely_extended")
              (codes "language_region") value held.0 table.language_region held.1 (parts.is_3 ∙ ap (λ t. Some t.language_region) (sym parts.whole));
          script_region = finds_in_table pair_cmp pairs (key_pair script_key region_key)
              (one_pair script_key region_key one_script one_region) _ (codes "likely_extended")
              (codes "script_region") value held.0 table.script_region held.1 (parts.is_4 ∙ ap (λ t. Some t.script_region) (sym parts.whole));
          script = finds_in_table text_cmp texts script_key one_script _ (codes "likely_extended")
              (codes "script") value held.0 table.script held.1 (parts.is_5 ∙ ap (λ t. Some t.script) (sym parts.whole));
          region = finds_in_table text_cmp texts region_key one_region _ (codes "likely_extended")
              (codes "region") value held.0 table.region held.1 (parts.is_6 ∙ ap (λ t. Some t.region) (sym parts.whole));
        }
