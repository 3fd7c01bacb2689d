-- The one likely table that an expander looks up in (UTS #35 Part 1, section 4.3).
use Rattle.std.specs.Prelude.{ℕ, List, Option, Some, None, ◌&&◌, if◌then◌else◌}
use Rattle.std.specs.Borrow.{Bor}
use Rattle.std.specs.Option.{option_or, option_map}
use Rattle.std.specs.Str.{bytes_eq}
use Rattle.icu_locale_core.specs.TextSet.{text_cmp}
use Rattle.icu_locale_core.specs.Maps.{value_at}
use Rattle.icu_provider.specs.SortedMaps.{pair_cmp}
use Rattle.icu_provider.specs.declared.likely.language.LikelySubtagsForLanguage.{LikelySubtagsForLanguage}
use Rattle.icu_provider.specs.declared.likely.script_region.LikelySubtagsForScriptRegion.{LikelySubtagsForScriptRegion}
use Rattle.icu_provider.specs.declared.likely.extended.LikelySubtagsExtended.{LikelySubtagsExtended}
use Rattle.icu_locale.specs.declared.expander.looks.LikelyKey.TheVariants.{
  LanguageRegion,
  LanguageScript,
  LanguageAlone,
  ScriptRegion,
  ScriptAlone,
  RegionAlone,
}
use Rattle.icu_locale.specs.LikelySubtags.{Triple, LikelySubtags}
use Rattle.icu_locale.specs.declared.expander.LocaleExpander.{LocaleExpander}

-- the rows of a table, by the subtags of their keys
pub record LikelyRows : Type 0 where
  pub language : List (List ℕ × (List ℕ × List ℕ))
  pub language_script : List ((List ℕ × List ℕ) × List ℕ)
  pub language_region : List ((List ℕ × List ℕ) × List ℕ)
  pub script_region : List ((List ℕ × List ℕ) × List ℕ)
  pub script : List (List ℕ × (List ℕ × List ℕ))
  pub region : List (List ℕ × (List ℕ × List ℕ))

-- the rows of the two common tables
abbrev pub common_rows : LikelySubtagsForLanguage → LikelySubtagsForScriptRegion → LikelyRows
common_rows a b = record {
  language = a.language;
  language_script = a.language_script;
  language_region = a.language_region;
  script_region = b.script_region;
  script = b.script;
  region = b.region;
}

-- the rows of the extended table
abbrev pub extended_rows : LikelySubtagsExtended → LikelyRows
extended_rows e = record {
  language = e.language;
  language_script = e.language_script;
  language_region = e.language_region;
  script_region = e.script_region;
  script = e.script;
  region = e.region;
}

-- the triple at a key: the key's own subtags, and the values of the row
abbrev pub row_at : LikelyRows → LikelySubtags
row_at rows (LanguageRegion l r) =
    option_map (λ s. (l, s, r)) (value_at pair_cmp rows.language_region (l, r))
row_at rows (LanguageScript l s) =
    option_map (λ r. (l, s, r)) (value_at pair_cmp rows.language_script (l, s))
row_at rows (LanguageAlone l) = option_map (λ v. (l, v.0, v.1)) (value_at text_cmp rows.language l)
row_at rows (ScriptRegion s r) =
    option_map (λ l. (l, s, r)) (value_at pair_cmp rows.script_region (s, r))
row_at rows (ScriptAlone s) = option_map (λ v. (v.0, s, v.1)) (value_at text_cmp rows.script s)
row_at rows (RegionAlone r) = option_map (λ v. (v.0, v.1, r)) (value_at text_cmp rows.region r)

-- the triple of the common tables at a key
abbrev pub common_row : LocaleExpander → LikelySubtags
common_row e k = row_at (common_rows e.language.now e.script_region.now) k

-- the triple of the extended table at a key, if there is such a table
abbrev pub extension_row : Option (Bor LikelySubtagsExtended) → LikelySubtags
extension_row None k = None
extension_row (Some e) k = row_at (extended_rows e.now) k

-- the triple of `und` serves as a row for its script and region, for its script and for its region
abbrev pub und_row : Triple → LikelySubtags
und_row t (ScriptRegion s r) = if bytes_eq s t.1 && bytes_eq r t.2 then Some t else None
und_row t (ScriptAlone s) = if bytes_eq s t.1 then Some t else None
und_row t (RegionAlone r) = if bytes_eq r t.2 then Some t else None
und_row t (LanguageRegion l r) = None
und_row t (LanguageScript l s) = None
und_row t (LanguageAlone l) = None

-- the rows of the common tables cover those of the extended one, and the triple of `und` serves last
abbrev pub likely : LocaleExpander → LikelySubtags
likely e k = option_or (common_row e k) (option_or (extension_row e.extended k)
    (und_row e.language.now.und k))
