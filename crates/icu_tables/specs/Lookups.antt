-- What a file has under names, one in another, and what a look-up in its rows answers.
use Rattle.std.specs.Prelude.{◌≡◌, ℕ, List, [], ◌∷◌, ◌++◌, codes, Option, Some, Ok, option_and_then}
use Rattle.std.specs.declared.cmp.Ordering.{Ordering}
use Rattle.serde_json.specs.Data.{Data}
use Rattle.serde_json.specs.Find.{get}
use Rattle.icu_locale_core.specs.Maps.{value_at}
use Rattle.icu_locale_core.specs.TextSet.{text_cmp}
use Rattle.icu_provider.specs.SortedMaps.{pair_cmp}
use Rattle.icu_provider.specs.declared.data_locale.DataLocale.{DataLocale}
use Rattle.icu_provider.specs.declared.likely.extended.LikelySubtagsExtended.{LikelySubtagsExtended}
use Rattle.icu_provider.specs.declared.likely.language.LikelySubtagsForLanguage.{LikelySubtagsForLanguage}
use Rattle.icu_provider.specs.declared.likely.script_region.LikelySubtagsForScriptRegion.{LikelySubtagsForScriptRegion}
use Rattle.icu_tables.specs.Names.{named_in, locale_key}
use Rattle.icu_tables.specs.Rows.{FileRows}
use Rattle.icu_tables.specs.Shape.{Shape, pair_of}
use Rattle.icu_tables.specs.Subtags.{language_key, script_key, region_key, key_pair}
use Rattle.icu_tables.specs.Subtags as subtags
use Rattle.icu_tables.specs.File.{json_of, rows_in}

-- the value under some names, the first of them the outermost
abbrev pub at_path : List (List ℕ) → Data → Option Data
at_path [] value = Some value
at_path (name ∷ names) value = option_and_then (at_path names) (get name value)

-- what the value under some names says, if it is there
abbrev pub said_at : {A : Type 0} → Shape A → List (List ℕ) → Data → Option A
said_at shape path value = option_and_then shape (at_path path value)

-- a text is a file with this value and these rows
pub record IsFile (text : List ℕ) (value : Data) (rows : FileRows) : Type 0 where
  pub value_is : json_of text ≡ Some value
  pub rows_are : rows_in text ≡ Ok rows

-- a key has what the member says that is named as the key is written
abbrev pub FindsAt : {K V : Type 0} → (K → K → Ordering) → (List ℕ → Option K) → Shape V
    → List (List ℕ) → Data → List (K × V) → Type 0
FindsAt {K} compare key shape path value rows = (name : List ℕ) (k : K) → key name ≡ Some k
    → value_at compare rows k ≡ said_at shape (path ++ name ∷ []) value

-- the same by marker and locale
abbrev pub FindsByLocale : {M V : Type 0} → ((M × DataLocale) → (M × DataLocale) → Ordering)
    → List (List ℕ × M) → Shape V → List ℕ → Data → List ((M × DataLocale) × V) → Type 0
FindsByLocale {M} compare markers shape member value rows =
    (marker_name locale_name : List ℕ) (marker : M) (locale : DataLocale)
    → named_in markers marker_name ≡ Some marker → locale_key locale_name ≡ Some locale
    → value_at compare rows (marker, locale)
    ≡ said_at shape (member ∷ marker_name ∷ locale_name ∷ []) value

-- the same by marker, locale and key
abbrev pub FindsByKey : {M K V : Type 0}
    → ((M × DataLocale × K) → (M × DataLocale × K) → Ordering) → List (List ℕ × M)
    → (M → List ℕ → Option K) → Shape V → List ℕ → Data → List ((M × DataLocale × K) × V) → Type 0
FindsByKey {M} {K} compare markers key shape member value rows =
    (marker_name locale_name key_name : List ℕ) (marker : M) (locale : DataLocale) (k : K)
    → named_in markers marker_name ≡ Some marker → locale_key locale_name ≡ Some locale
    → key marker key_name ≡ Some k
    → value_at compare rows (marker, locale, k)
    ≡ said_at shape (member ∷ marker_name ∷ locale_name ∷ key_name ∷ []) value

-- the likely subtags by language
pub record FindsByLanguage (value : Data) (table : LikelySubtagsForLanguage) : Type 0 where
  pub language : FindsAt text_cmp language_key (pair_of subtags.script subtags.region)
      (codes "likely_language" ∷ codes "language" ∷ []) value table.language
  pub language_script : FindsAt pair_cmp (key_pair language_key script_key) subtags.region
      (codes "likely_language" ∷ codes "language_script" ∷ []) value table.language_script
  pub language_region : FindsAt pair_cmp (key_pair language_key region_key) subtags.script
      (codes "likely_language" ∷ codes "language_region" ∷ []) value table.language_region

-- the likely subtags by script and region
pub record FindsByScriptRegion (value : Data) (table : LikelySubtagsForScriptRegion) : Type 0 where
  pub script_region : FindsAt pair_cmp (key_pair script_key region_key) subtags.language
      (codes "likely_script_region" ∷ codes "script_region" ∷ []) value table.script_region
  pub script : FindsAt text_cmp script_key (pair_of subtags.language subtags.region)
      (codes "likely_script_region" ∷ codes "script" ∷ []) value table.script
  pub region : FindsAt text_cmp region_key (pair_of subtags.language subtags.script)
      (codes "likely_script_region" ∷ codes "region" ∷ []) value table.region

-- the further likely subtags
pub record FindsExtended (value : Data) (table : LikelySubtagsExtended) : Type 0 where
  pub language : FindsAt text_cmp language_key (pair_of subtags.script subtags.region)
      (codes "likely_extended" ∷ codes "language" ∷ []) value table.language
  pub language_script : FindsAt pair_cmp (key_pair language_key script_key) subtags.region
      (codes "likely_extended" ∷ codes "language_script" ∷ []) value table.language_script
  pub language_region : FindsAt pair_cmp (key_pair language_key region_key) subtags.script
      (codes "likely_extended" ∷ codes "language_region" ∷ []) value table.language_region
  pub script_region : FindsAt pair_cmp (key_pair script_key region_key) subtags.language
      (codes "likely_extended" ∷ codes "script_region" ∷ []) value table.script_region
  pub script : FindsAt text_cmp script_key (pair_of subtags.language subtags.region)
      (codes "likely_extended" ∷ codes "script" ∷ []) value table.script
  pub region : FindsAt text_cmp region_key (pair_of subtags.language subtags.script)
      (codes "likely_extended" ∷ codes "region" ∷ []) value table.region
