-- The keys of the one likely table of an expander: finitely many.
use Rattle.std.specs.Prelude.{◌≡◌, List, [], ◌∷◌, ◌++◌, map, Option, Some, None}
use Rattle.std.specs.Borrow.{Bor}
use Rattle.icu_provider.specs.declared.likely.extended.LikelySubtagsExtended.{LikelySubtagsExtended}
use Rattle.icu_locale.specs.declared.expander.looks.LikelyKey.{LikelyKey}
use Rattle.icu_locale.specs.declared.expander.looks.LikelyKey.TheVariants.{
  LanguageRegion,
  LanguageScript,
  LanguageAlone,
  ScriptRegion,
  ScriptAlone,
  RegionAlone,
}
use Rattle.icu_locale.specs.LikelySubtags.{Triple}
use Rattle.icu_locale.specs.declared.expander.LocaleExpander.{LocaleExpander}
use Rattle.icu_locale.specs.LikelyTable.{LikelyRows, common_rows, extended_rows}

-- the triple has the subtags of the key
abbrev pub HasKey : Triple → LikelyKey → Type 0
HasKey t (LanguageRegion l r) = (t.0 ≡ l) × (t.2 ≡ r)
HasKey t (LanguageScript l s) = (t.0 ≡ l) × (t.1 ≡ s)
HasKey t (LanguageAlone l) = t.0 ≡ l
HasKey t (ScriptRegion s r) = (t.1 ≡ s) × (t.2 ≡ r)
HasKey t (ScriptAlone s) = t.1 ≡ s
HasKey t (RegionAlone r) = t.2 ≡ r

-- the keys of the rows of one map
abbrev pub keys_by : {K V : Type 0} → (K → LikelyKey) → List (K × V) → List LikelyKey
keys_by key rows = map (λ row. key row.0) rows

-- the keys of all rows of a table
abbrev pub row_keys : LikelyRows → List LikelyKey
row_keys rows = keys_by LanguageAlone rows.language
    ++ (keys_by (λ k. LanguageScript k.0 k.1) rows.language_script
    ++ (keys_by (λ k. LanguageRegion k.0 k.1) rows.language_region
    ++ (keys_by (λ k. ScriptRegion k.0 k.1) rows.script_region
    ++ (keys_by ScriptAlone rows.script ++ keys_by RegionAlone rows.region))))

-- the keys of the extended table, if there is one
abbrev pub extension_keys : Option (Bor LikelySubtagsExtended) → List LikelyKey
extension_keys None = []
extension_keys (Some e) = row_keys (extended_rows e.now)

-- the keys that the triple of `und` serves
abbrev pub und_row_keys : Triple → List LikelyKey
und_row_keys t = ScriptRegion t.1 t.2 ∷ ScriptAlone t.1 ∷ RegionAlone t.2 ∷ []

-- the keys of the one likely table of an expander
abbrev pub table_keys : LocaleExpander → List LikelyKey
table_keys e = row_keys (common_rows e.language.now e.script_region.now)
    ++ (extension_keys e.extended ++ und_row_keys e.language.now.und)
