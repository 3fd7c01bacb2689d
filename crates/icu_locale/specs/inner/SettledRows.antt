-- The rows of a likely table, and how it is seen to be settled: what only the expander's own functions cite.
use Rattle.std.specs.Prelude.{◌≡◌, Bool, true, ◌&&◌, List, Some, None, IfSome}
use Rattle.std.specs.List.{All}
use Rattle.icu_locale.specs.LikelyTable.{LikelyRows, common_rows, extended_rows, likely}
use Rattle.icu_locale.specs.declared.expander.looks.LikelyMaps.{LikelyMaps}
use Rattle.icu_locale_core.specs.Subtag.{und, IsLanguage, IsScript, IsRegion}
use Rattle.icu_locale_core.specs.Identifier.{IsIdentifier}
use Rattle.icu_locale_core.specs.declared.langid.LanguageIdentifier.{LanguageIdentifier}
use Rattle.icu_provider.specs.declared.data_locale.DataLocale.{DataLocale}
use Rattle.icu_locale.specs.declared.expander.looks.LikelyKey.{LikelyKey}
use Rattle.icu_locale.specs.declared.expander.looks.LikelyKey.TheVariants.{LanguageRegion, LanguageScript, LanguageAlone, ScriptRegion, ScriptAlone}
use Rattle.icu_locale.specs.declared.expander.looks.LikelyKey.TheVariants.{RegionAlone}
use Rattle.icu_locale.specs.LikelySubtags.{LikelySubtags, Triple, bare_locale, maximal_locale, maximal, IsSettled}
use Rattle.icu_locale.specs.declared.expander.LocaleExpander.{LocaleExpander}
use Rattle.icu_locale.specs.Locales.{same_locale}

-- the rows of the maps
abbrev pub map_rows : LikelyMaps → LikelyRows
map_rows maps = record {
  language = maps.language.now;
  language_script = maps.language_script.now;
  language_region = maps.language_region.now;
  script_region = maps.script_region.now;
  script = maps.script.now;
  region = maps.region.now;
}

-- the key's own subtags
abbrev pub key_locale : LikelyKey → DataLocale
key_locale (LanguageRegion l r) = record { language = l; script = None; region = Some r }
key_locale (LanguageScript l s) = record { language = l; script = Some s; region = None }
key_locale (LanguageAlone l) = record { language = l; script = None; region = None }
key_locale (ScriptRegion s r) = record { language = und; script = Some s; region = Some r }
key_locale (ScriptAlone s) = record { language = und; script = Some s; region = None }
key_locale (RegionAlone r) = record { language = und; script = None; region = Some r }

-- each subtag belongs to its class
pub record IsLocale (x : DataLocale) : Type 0 where
  pub language : IsLanguage x.language
  pub script : IfSome x.script IsScript
  pub region : IfSome x.region IsRegion

-- whether a locale is bare and its own maximal form
abbrev pub is_settled_locale : LikelySubtags → DataLocale → Bool
is_settled_locale table y = same_locale (bare_locale y) y && same_locale (maximal_locale table y) y

-- whether the maximal form of a key's own subtags is settled
unfoldable pub settles : LikelySubtags → LikelyKey → Bool
settles table k = is_settled_locale table (maximal_locale table (key_locale k))

-- each row's key settles
abbrev pub AllSettle : {K V : Type 0} → LikelySubtags → (K → LikelyKey) → List (K × V) → Type 0
AllSettle table key rows = All (λ row. settles table (key row.0) ≡ true) rows

-- some identifier's maximal form is not settled
pub record HasUnsettled (table : LikelySubtags) : Type 0 where
  pub identifier : LanguageIdentifier
  pub is_identifier : IsIdentifier identifier
  pub unsettled : IsSettled table (maximal table identifier) → ⊥

-- the keys of all rows of a table settle
pub record RowsSettle (table : LikelySubtags) (rows : LikelyRows) : Type 0 where
  pub language : AllSettle table LanguageAlone rows.language
  pub language_script : AllSettle table (λ k. LanguageScript k.0 k.1) rows.language_script
  pub language_region : AllSettle table (λ k. LanguageRegion k.0 k.1) rows.language_region
  pub script_region : AllSettle table (λ k. ScriptRegion k.0 k.1) rows.script_region
  pub script : AllSettle table ScriptAlone rows.script
  pub region : AllSettle table RegionAlone rows.region

-- those of the common tables do
abbrev pub CommonRowsSettle : LocaleExpander → Type 0
CommonRowsSettle e = RowsSettle (likely e) (common_rows e.language.now e.script_region.now)

-- those of the extended table do, if there is one
abbrev pub ExtendedRowsSettle : LocaleExpander → Type 0
ExtendedRowsSettle e = IfSome e.extended (λ x. RowsSettle (likely e) (extended_rows x.now))

-- the keys that the triple of `und` serves settle
pub record UndRowsSettle (table : LikelySubtags) (t : Triple) : Type 0 where
  pub script_region : settles table (ScriptRegion t.1 t.2) ≡ true
  pub script : settles table (ScriptAlone t.1) ≡ true
  pub region : settles table (RegionAlone t.2) ≡ true

-- every row of an expander's table settles
pub record AllRowsSettle (e : LocaleExpander) : Type 0 where
  pub common : CommonRowsSettle e
  pub extended : ExtendedRowsSettle e
  pub und_rows : UndRowsSettle (likely e) e.language.now.und
