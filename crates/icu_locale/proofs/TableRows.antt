-- A key of the likely table is that of some row, and its own subtags are looked at.
use Rattle.std.proofs.Common.{◌≡◌, ◌↔◌, List, Bool, true, false, ◌&&◌, Option, Some, None, IfSome, MatchBool, IsTrue, refl, ap, subst}
use Rattle.std.proofs.Common.{sym, ◌∙◌, ⊎_elim}
use Rattle.std.specs.Option.{option_or}
use Rattle.std.specs.Str.{bytes_eq}
use Rattle.std.specs.List.{Contains}
use Rattle.std.specs.Borrow.{Bor}
use Rattle.std.specs.declared.cmp.Ordering.{Ordering}
use Rattle.std.specs.declared.cmp.Ordering.TheVariants.{Less, Equal, Greater}
use Rattle.std.specs.Ordering.{ordering_then}
use Rattle.std.specs.FinMap.{IsAntisymmetric}
use Rattle.std.specs.Cmp.{Equal-is}
use Rattle.std.proofs.lemmas.Option.{cond_some}
use Rattle.std.proofs.lemmas.Bool.{and_parts, false≢true}
use Rattle.std.proofs.lemmas.Map.Views.{Contains-from_lookup}
use Rattle.icu_locale_core.specs.TextSet.{text_cmp}
use Rattle.icu_locale_core.specs.Maps.{value_at}
use Rattle.icu_provider.specs.SortedMaps.{pair_cmp}
use Rattle.icu_provider.specs.declared.likely.extended.LikelySubtagsExtended.{LikelySubtagsExtended}
use Rattle.icu_locale.specs.declared.expander.looks.LikelyKey.{LikelyKey}
use Rattle.icu_locale.specs.declared.expander.looks.LikelyKey.TheVariants.{LanguageRegion, LanguageScript, LanguageAlone, ScriptRegion, ScriptAlone}
use Rattle.icu_locale.specs.declared.expander.looks.LikelyKey.TheVariants.{RegionAlone}
use Rattle.icu_locale.specs.LikelySubtags.{LikelySubtags, Triple, AreSettled}
use Rattle.icu_locale.specs.LikelyTable.{LikelyRows, common_rows, extended_rows, row_at, common_row, extension_row, und_row, likely}
use Rattle.icu_locale.specs.TableKeys.{keys_by}
use Rattle.icu_locale.specs.inner.SettledRows.{settles, AllSettle, RowsSettle, UndRowsSettle, AllRowsSettle, HasUnsettled}
use Rattle.icu_locale.specs.declared.expander.LocaleExpander.{LocaleExpander}
use Rattle.icu_locale_core.specs.laws.TextSets.{text_same}
use Rattle.icu_locale_runs.specs.laws.Lists.{Contains-map, some_map, some_or}
use Rattle.icu_locale.specs.laws.Locales.{same_text}
use Rattle.icu_locale.proofs.Settling.{AreSettled-from_rows}

both_tie : (a b : Ordering) → ordering_then a b ≡ Equal → (a ≡ Equal) × (b ≡ Equal)
both_tie Less b e = absurd (cc)
both_tie Equal b e = (refl, e)
both_tie Greater b e = absurd (cc)

-- so are pairs
pub pair_same : IsAntisymmetric pair_cmp
pair_same x y e =
    let ties = both_tie (text_cmp x.0 y.0) (text_cmp x.1 y.1) e in
    let first : x.0 ≡ y.0 = text_same x.0 y.0 ties.0 in
    let second : x.1 ≡ y.1 = text_same x.1 y.1 ties.1 in
    λ i. (first i, second i)

-- a key with a value is that of a row
pub row_found : {K V : Type 0} (compare : K → K → Ordering) → IsAntisymmetric compare → (rows : List (K × V)) (q : K) (v : V)
    → value_at compare rows q ≡ Some v → (row : K × V) × Contains rows row × (row.0 ≡ q)
row_found compare same rows q v found =
    ((q, v), Contains-from_lookup (λ x y tied. same x y ((Equal-is (compare x y)).0 tied)) q v rows found, refl)

-- so it is looked at
settled_at : {K V : Type 0} (table : LikelySubtags) (key : K → LikelyKey) (rows : List (K × V)) (q : K) → AllSettle table key rows
    → (row : K × V) × Contains rows row × (row.0 ≡ q) → settles table (key q) ≡ true
settled_at table key rows q all (row, among, is) = subst (λ w. settles table (key w) ≡ true) is
    (subst (λ w. settles table (key w.0) ≡ true) among.2 (all among.0 row among.1))

-- and is among the keys
pub key_among : {K V : Type 0} (key : K → LikelyKey) (rows : List (K × V)) (q : K) → (row : K × V) × Contains rows row × (row.0 ≡ q)
    → Contains (keys_by key rows) (key q)
key_among key rows q (row, among, is) = subst (λ w. Contains (keys_by key rows) (key w)) is (Contains-map (λ r. key r.0) rows row among)

module _ (table : LikelySubtags) where
  row_settles : (rows : LikelyRows) → RowsSettle table rows → (k : LikelyKey) (t : Triple) → row_at rows k ≡ Some t → settles table k ≡ true
  row_settles rows all (LanguageRegion l r) t e = let v = some_map _ (value_at pair_cmp rows.language_region (l, r)) t e in
      settled_at table (λ k. LanguageRegion k.0 k.1) rows.language_region (l, r) all.language_region (row_found pair_cmp pair_same _ (l, r) v.0 v.1)
  row_settles rows all (LanguageScript l s) t e = let v = some_map _ (value_at pair_cmp rows.language_script (l, s)) t e in
      settled_at table (λ k. LanguageScript k.0 k.1) rows.language_script (l, s) all.language_script (row_found pair_cmp pair_same _ (l, s) v.0 v.1)
  row_settles rows all (LanguageAlone l) t e = let v = some_map _ (value_at text_cmp rows.language l) t e in
      settled_at table LanguageAlone rows.language l all.language (row_found text_cmp text_same _ l v.0 v.1)
  row_settles rows all (ScriptRegion s r) t e = let v = some_map _ (value_at pair_cmp rows.script_region (s, r)) t e in
      settled_at table (λ k. ScriptRegion k.0 k.1) rows.script_region (s, r) all.script_region (row_found pair_cmp pair_same _ (s, r) v.0 v.1)
  row_settles rows all (ScriptAlone s) t e = let v = some_map _ (value_at text_cmp rows.script s) t e in
      settled_at table ScriptAlone rows.script s all.script (row_found text_cmp text_same _ s v.0 v.1)
  row_settles rows all (RegionAlone r) t e = let v = some_map _ (value_at text_cmp rows.region r) t e in
      settled_at table RegionAlone rows.region r all.region (row_found text_cmp text_same _ r v.0 v.1)

  extension_settles : (extended : Option (Bor LikelySubtagsExtended)) → IfSome extended (λ x. RowsSettle table (extended_rows x.now))
      → (k : LikelyKey) (t : Triple) → extension_row extended k ≡ Some t → settles table k ≡ true
  extension_settles None all k t e = absurd (cc)
  extension_settles (Some a) all k t e = row_settles (extended_rows a.now) all k t e

  -- a row that the triple of `und` serves as
  und_settles : (u : Triple) → UndRowsSettle table u → (k : LikelyKey) (t : Triple) → und_row u k ≡ Some t → settles table k ≡ true
  und_settles u all (LanguageRegion l r) t e = absurd (cc)
  und_settles u all (LanguageScript l s) t e = absurd (cc)
  und_settles u all (LanguageAlone l) t e = absurd (cc)
  und_settles u all (ScriptRegion s r) t e =
      let tests = and_parts (bytes_eq s u.1) (bytes_eq r u.2) (cond_some (bytes_eq s u.1 && bytes_eq r u.2) u t e).0 in
      let is_s : u.1 ≡ s = sym (same_text s u.1 tests.0) in
      let is_r : u.2 ≡ r = sym (same_text r u.2 tests.1) in
      (λ i. settles table (ScriptRegion (sym is_s i) (sym is_r i))) ∙ all.script_region
  und_settles u all (ScriptAlone s) t e = ap (λ w. settles table (ScriptAlone w)) (same_text s u.1 (cond_some (bytes_eq s u.1) u t e).0) ∙ all.script
  und_settles u all (RegionAlone r) t e = ap (λ w. settles table (RegionAlone w)) (same_text r u.2 (cond_some (bytes_eq r u.2) u t e).0) ∙ all.region

-- each key that the table has settles
every_row : (e : LocaleExpander) → AllRowsSettle e → (k : LikelyKey) (t : Triple) → likely e k ≡ Some t → settles (likely e) k ≡ true
every_row e all k t f =
    let common = common_row e k in
    let extended = extension_row e.extended k in
    let served = und_row e.language.now.und k in
    ⊎_elim (row_settles (likely e) (common_rows e.language.now e.script_region.now) all.common k t)
    (λ rest. ⊎_elim (extension_settles (likely e) e.extended all.extended k t)
    (und_settles (likely e) e.language.now.und all.und_rows k t) (some_or extended served t rest)) (some_or common (option_or extended served) t f)

-- the table is settled exactly where its rows are
pub settled_exactly : (e : LocaleExpander) (b : Bool) → MatchBool b (AllRowsSettle e) (HasUnsettled (likely e)) → IsTrue b ↔ AreSettled (likely e)
settled_exactly e true all = (λ _. AreSettled-from_rows (likely e) (every_row e all), λ _. refl)
settled_exactly e false found = (λ is. absurd (false≢true is), λ settled. absurd (found.unsettled (settled found.identifier found.is_identifier)))
