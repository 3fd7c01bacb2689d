-- The likely table of an expander as one finite map.
use Rattle.std.proofs.Common.{◌≡◌, ◌++◌, ◌&&◌, Option, Some, None, ap, sym, ◌∙◌, ⊎_elim, arith}
use Rattle.std.specs.Option.{option_or}
use Rattle.std.specs.Str.{bytes_eq}
use Rattle.std.specs.List.{Contains}
use Rattle.std.specs.Borrow.{Bor}
use Rattle.std.proofs.lemmas.Option.{cond_some}
use Rattle.std.proofs.lemmas.Bool.{and_parts}
use Rattle.std.proofs.lemmas.List.Elements.{Contains-append_left, Contains-append_right}
use Rattle.icu_locale_core.specs.TextSet.{text_cmp}
use Rattle.icu_locale_core.specs.Maps.{value_at}
use Rattle.icu_provider.specs.SortedMaps.{pair_cmp}
use Rattle.icu_provider.specs.declared.likely.extended.LikelySubtagsExtended.{LikelySubtagsExtended}
use Rattle.icu_locale.specs.declared.expander.looks.LikelyKey.{LikelyKey}
use Rattle.icu_locale.specs.declared.expander.looks.LikelyKey.TheVariants.{LanguageRegion, LanguageScript, LanguageAlone, ScriptRegion, ScriptAlone}
use Rattle.icu_locale.specs.declared.expander.looks.LikelyKey.TheVariants.{RegionAlone}
use Rattle.icu_locale.specs.LikelySubtags.{Triple}
use Rattle.icu_locale.specs.LikelyTable.{LikelyRows, common_rows, extended_rows, row_at, common_row, extension_row, und_row, likely}
use Rattle.icu_locale.specs.TableKeys.{HasKey, keys_by, row_keys, extension_keys, und_row_keys, table_keys}
use Rattle.icu_locale.specs.declared.expander.LocaleExpander.{LocaleExpander}
use Rattle.icu_locale.specs.laws.Locales.{same_text}
use Rattle.icu_locale_core.specs.laws.TextSets.{text_same}
use Rattle.icu_locale_runs.specs.laws.Lists.{some_map, some_or}
use Rattle.icu_locale.proofs.TableRows.{row_found, key_among, pair_same}

-- ---- the triple at a key has the subtags of the key

row_has_key : (rows : LikelyRows) (k : LikelyKey) (t : Triple) → row_at rows k ≡ Some t → HasKey t k
row_has_key rows (LanguageRegion l r) t e = let v = some_map _ (value_at pair_cmp rows.language_region (l, r)) t e in
    (ap (λ (w : Triple). w.0) (sym v.2), ap (λ (w : Triple). w.2) (sym v.2))
row_has_key rows (LanguageScript l s) t e = let v = some_map _ (value_at pair_cmp rows.language_script (l, s)) t e in
    (ap (λ (w : Triple). w.0) (sym v.2), ap (λ (w : Triple). w.1) (sym v.2))
row_has_key rows (LanguageAlone l) t e = let v = some_map _ (value_at text_cmp rows.language l) t e in ap (λ (w : Triple). w.0) (sym v.2)
row_has_key rows (ScriptRegion s r) t e = let v = some_map _ (value_at pair_cmp rows.script_region (s, r)) t e in
    (ap (λ (w : Triple). w.1) (sym v.2), ap (λ (w : Triple). w.2) (sym v.2))
row_has_key rows (ScriptAlone s) t e = let v = some_map _ (value_at text_cmp rows.script s) t e in ap (λ (w : Triple). w.1) (sym v.2)
row_has_key rows (RegionAlone r) t e = let v = some_map _ (value_at text_cmp rows.region r) t e in ap (λ (w : Triple). w.2) (sym v.2)

extension_has_key : (extended : Option (Bor LikelySubtagsExtended)) (k : LikelyKey) (t : Triple) → extension_row extended k ≡ Some t → HasKey t k
extension_has_key None k t e = absurd (cc)
extension_has_key (Some a) k t e = row_has_key (extended_rows a.now) k t e

und_has_key : (u : Triple) (k : LikelyKey) (t : Triple) → und_row u k ≡ Some t → HasKey t k
und_has_key u (LanguageRegion l r) t e = absurd (cc)
und_has_key u (LanguageScript l s) t e = absurd (cc)
und_has_key u (LanguageAlone l) t e = absurd (cc)
und_has_key u (ScriptRegion s r) t e =
    let tests = and_parts (bytes_eq s u.1) (bytes_eq r u.2) (cond_some (bytes_eq s u.1 && bytes_eq r u.2) u t e).0 in
    let is = (cond_some (bytes_eq s u.1 && bytes_eq r u.2) u t e).1 in
    (sym (same_text s u.1 tests.0 ∙ ap (λ (w : Triple). w.1) is), sym (same_text r u.2 tests.1 ∙ ap (λ (w : Triple). w.2) is))
und_has_key u (ScriptAlone s) t e = sym (same_text s u.1 (cond_some (bytes_eq s u.1) u t e).0 ∙ ap (λ (w : Triple). w.1) (cond_some (bytes_eq s u.1) u t e).1)
und_has_key u (RegionAlone r) t e = sym (same_text r u.2 (cond_some (bytes_eq r u.2) u t e).0 ∙ ap (λ (w : Triple). w.2) (cond_some (bytes_eq r u.2) u t e).1)

pub table_has_key : (e : LocaleExpander) (k : LikelyKey) (t : Triple) → likely e k ≡ Some t → HasKey t k
table_has_key e k t f =
    let extended = extension_row e.extended k in
    let served = und_row e.language.now.und k in
    ⊎_elim (row_has_key _ k t) (λ rest. ⊎_elim (extension_has_key e.extended k t) (und_has_key e.language.now.und k t)
    (some_or extended served t rest)) (some_or (common_row e k) (option_or extended served) t f)

-- ---- a key with a triple is that of a row

row_key_among : (rows : LikelyRows) (k : LikelyKey) (t : Triple) → row_at rows k ≡ Some t → Contains (row_keys rows) k
row_key_among rows (LanguageAlone l) t e =
    let v = some_map _ (value_at text_cmp rows.language l) t e in
    Contains-append_left (keys_by LanguageAlone rows.language) _ _ (key_among LanguageAlone rows.language l (row_found text_cmp text_same _ l v.0 v.1))
row_key_among rows (LanguageScript l s) t e =
    let v = some_map _ (value_at pair_cmp rows.language_script (l, s)) t e in
    Contains-append_right (keys_by LanguageAlone rows.language) _ _ (Contains-append_left
    (keys_by (λ q. LanguageScript q.0 q.1) rows.language_script) _ _ (key_among (λ q. LanguageScript q.0 q.1) rows.language_script
    (l, s) (row_found pair_cmp pair_same _ (l, s) v.0 v.1)))
row_key_among rows (LanguageRegion l r) t e =
    let v = some_map _ (value_at pair_cmp rows.language_region (l, r)) t e in
    Contains-append_right (keys_by LanguageAlone rows.language) _ _ (Contains-append_right
    (keys_by (λ q. LanguageScript q.0 q.1) rows.language_script) _ _ (Contains-append_left
    (keys_by (λ q. LanguageRegion q.0 q.1) rows.language_region) _ _ (key_among (λ q. LanguageRegion q.0 q.1) rows.language_region
    (l, r) (row_found pair_cmp pair_same _ (l, r) v.0 v.1))))
row_key_among rows (ScriptRegion s r) t e =
    let v = some_map _ (value_at pair_cmp rows.script_region (s, r)) t e in
    Contains-append_right (keys_by LanguageAlone rows.language) _ _ (Contains-append_right
    (keys_by (λ q. LanguageScript q.0 q.1) rows.language_script) _ _ (Contains-append_right
    (keys_by (λ q. LanguageRegion q.0 q.1) rows.language_region) _ _ (Contains-append_left
    (keys_by (λ q. ScriptRegion q.0 q.1) rows.script_region) _ _ (key_among (λ q. ScriptRegion q.0 q.1) rows.script_region (s, r)
    (row_found pair_cmp pair_same _ (s, r) v.0 v.1)))))
row_key_among rows (ScriptAlone s) t e =
    let v = some_map _ (value_at text_cmp rows.script s) t e in
    Contains-append_right (keys_by LanguageAlone rows.language) _ _ (Contains-append_right
    (keys_by (λ q. LanguageScript q.0 q.1) rows.language_script) _ _ (Contains-append_right
    (keys_by (λ q. LanguageRegion q.0 q.1) rows.language_region) _ _ (Contains-append_right
    (keys_by (λ q. ScriptRegion q.0 q.1) rows.script_region) _ _ (Contains-append_left (keys_by ScriptAlone rows.script) _ _
    (key_among ScriptAlone rows.script s (row_found text_cmp text_same _ s v.0 v.1))))))
row_key_among rows (RegionAlone r) t e =
    let v = some_map _ (value_at text_cmp rows.region r) t e in
    Contains-append_right (keys_by LanguageAlone rows.language) _ _ (Contains-append_right
    (keys_by (λ q. LanguageScript q.0 q.1) rows.language_script) _ _ (Contains-append_right
    (keys_by (λ q. LanguageRegion q.0 q.1) rows.language_region) _ _ (Contains-append_right
    (keys_by (λ q. ScriptRegion q.0 q.1) rows.script_region) _ _ (Contains-append_right (keys_by ScriptAlone rows.script) _ _
    (key_among RegionAlone rows.region r (row_found text_cmp text_same _ r v.0 v.1))))))

extension_key_among : (extended : Option (Bor LikelySubtagsExtended)) (k : LikelyKey) (t : Triple) → extension_row extended k ≡ Some t
    → Contains (extension_keys extended) k
extension_key_among None k t e = absurd (cc)
extension_key_among (Some a) k t e = row_key_among (extended_rows a.now) k t e

und_key_among : (u : Triple) (k : LikelyKey) (t : Triple) → und_row u k ≡ Some t → Contains (und_row_keys u) k
und_key_among u (LanguageRegion l r) t e = absurd (cc)
und_key_among u (LanguageScript l s) t e = absurd (cc)
und_key_among u (LanguageAlone l) t e = absurd (cc)
und_key_among u (ScriptRegion s r) t e =
    let tests = and_parts (bytes_eq s u.1) (bytes_eq r u.2) (cond_some (bytes_eq s u.1 && bytes_eq r u.2) u t e).0 in
    let is_s : u.1 ≡ s = sym (same_text s u.1 tests.0) in
    let is_r : u.2 ≡ r = sym (same_text r u.2 tests.1) in
    (0, omega arith, λ i. ScriptRegion (is_s i) (is_r i))
und_key_among u (ScriptAlone s) t e = (1, omega arith, ap ScriptAlone (sym (same_text s u.1 (cond_some (bytes_eq s u.1) u t e).0)))
und_key_among u (RegionAlone r) t e = (2, omega arith, ap RegionAlone (sym (same_text r u.2 (cond_some (bytes_eq r u.2) u t e).0)))

pub table_key_among : (e : LocaleExpander) (k : LikelyKey) (t : Triple) → likely e k ≡ Some t → Contains (table_keys e) k
table_key_among e k t f =
    let extended = extension_row e.extended k in
    let served = und_row e.language.now.und k in
    let first = row_keys (common_rows e.language.now e.script_region.now) in
    let second = extension_keys e.extended in
    let third = und_row_keys e.language.now.und in
    ⊎_elim
    (λ common. Contains-append_left first (second ++ third) k (row_key_among _ k t common))
    (λ rest. Contains-append_right first (second ++ third) k (⊎_elim
    (λ here. Contains-append_left second third k (extension_key_among e.extended k t here))
    (λ here. Contains-append_right second third k (und_key_among e.language.now.und k t here))
    (some_or extended served t rest)))
    (some_or (common_row e k) (option_or extended served) t f)

-- ---- which row covers which

pub common_row_covers : (e : LocaleExpander) (k : LikelyKey) (t : Triple) → common_row e k ≡ Some t → likely e k ≡ Some t
common_row_covers e k t f = ap (λ o. option_or o (option_or (extension_row e.extended k) (und_row e.language.now.und k))) f

pub extended_row_covers : (e : LocaleExpander) (k : LikelyKey) (t : Triple) → common_row e k ≡ None → extension_row e.extended k ≡ Some t → likely e k ≡ Some t
extended_row_covers e k t none f = λ i. option_or (none i) (option_or (f i) (und_row e.language.now.und k))

pub und_row_serves : (e : LocaleExpander) (k : LikelyKey) → common_row e k ≡ None → extension_row e.extended k ≡ None
    → likely e k ≡ und_row e.language.now.und k
und_row_serves e k none none_extended = λ i. option_or (none i) (option_or (none_extended i) (und_row e.language.now.und k))

pub one_triple : (e : LocaleExpander) (k : LikelyKey) (t u : Triple) → likely e k ≡ Some t → likely e k ≡ Some u → t ≡ u
one_triple e k t u is_t is_u = some_same t u (sym is_t ∙ is_u)
  where
    some_same : (t u : Triple) → Some t ≡ Some u → t ≡ u
    some_same t u same = cc
