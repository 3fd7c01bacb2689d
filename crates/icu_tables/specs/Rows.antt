-- The rows of tables: texts by their bytes, lists by their items, sets by their members.
use Rattle.std.specs.Prelude.{ℕ, List, map, Option, option_map, string_bytes}
use Rattle.std.specs.Map.{keys_of}
use Rattle.icu_provider.specs.declared.aliases.Aliases.{Aliases}
use Rattle.icu_provider.specs.declared.aliases.LanguageStrStrPair.{LanguageStrStrPair}
use Rattle.icu_provider.specs.declared.aliases.StrStrPair.{StrStrPair}
use Rattle.icu_provider.specs.declared.data_locale.DataLocale.{DataLocale}
use Rattle.icu_provider.specs.declared.direction.ScriptDirection.{ScriptDirection}
use Rattle.icu_provider.specs.declared.essentials.LocaleNamesEssentials.{LocaleNamesEssentials}
use Rattle.icu_provider.specs.declared.exemplars.ExemplarCharactersData.{ExemplarCharactersData}
use Rattle.icu_provider.specs.declared.exemplars.ExemplarMarker.{ExemplarMarker}
use Rattle.icu_provider.specs.declared.likely.extended.LikelySubtagsExtended.{LikelySubtagsExtended}
use Rattle.icu_provider.specs.declared.likely.language.LikelySubtagsForLanguage.{LikelySubtagsForLanguage}
use Rattle.icu_provider.specs.declared.likely.script_region.LikelySubtagsForScriptRegion.{LikelySubtagsForScriptRegion}
use Rattle.icu_provider.specs.declared.names.MenuMarker.{MenuMarker}
use Rattle.icu_provider.specs.declared.names.MenuNameParts.{MenuNameParts}
use Rattle.icu_provider.specs.declared.names.NameKey.{NameKey}
use Rattle.icu_provider.specs.declared.names.NameMarker.{NameMarker}
use Rattle.icu_tables.specs.declared.tables.Tables.{Tables}

-- rows of aliases
pub record AliasRows : Type 0 where
  pub language_variants : List (List ℕ × List ℕ × List ℕ)
  pub language : List (List ℕ × List ℕ)
  pub sgn_region : List (List ℕ × List ℕ)
  pub language_len2 : List (List ℕ × List ℕ)
  pub language_len3 : List (List ℕ × List ℕ)
  pub script : List (List ℕ × List ℕ)
  pub region_alpha : List (List ℕ × List ℕ)
  pub region_num : List (List ℕ × List ℕ)
  pub complex_region : List (List ℕ × List (List ℕ))
  pub variant : List (List ℕ × List ℕ)
  pub subdivision : List (List ℕ × List ℕ)

-- the scripts of each direction, each once, in rising order
pub record DirectionRows : Type 0 where
  pub rtl : List (List ℕ)
  pub ltr : List (List ℕ)

-- the rows of each table; a table that is left out is none
pub record FileRows : Type 0 where
  pub likely_language : Option LikelySubtagsForLanguage
  pub likely_script_region : Option LikelySubtagsForScriptRegion
  pub likely_extended : Option LikelySubtagsExtended
  pub aliases : Option AliasRows
  pub direction : Option DirectionRows
  pub exemplars : List ((ExemplarMarker × DataLocale) × ExemplarCharactersData)
  pub names : List ((NameMarker × DataLocale × NameKey) × List ℕ)
  pub menus : List ((MenuMarker × DataLocale × List ℕ) × MenuNameParts)
  pub essentials : List (DataLocale × LocaleNamesEssentials)

-- rows with what is seen of their values
abbrev pub seen_rows : {K V W : Type 0} → (V → W) → List (K × V) → List (K × W)
seen_rows seen rows = map (λ row. (row.0, seen row.1)) rows

-- a rule text and a replacement text
abbrev pub rule : StrStrPair → List ℕ × List ℕ
rule row = (string_bytes row.0, string_bytes row.1)

-- a language, a text of variants and a replacement text
abbrev pub variants_rule : LanguageStrStrPair → List ℕ × List ℕ × List ℕ
variants_rule row = (row.0, string_bytes row.1, string_bytes row.2)

-- the rows of a table of aliases
abbrev pub alias_rows : Aliases → AliasRows
alias_rows table = record {
  language_variants = map variants_rule table.language_variants;
  language = map rule table.language;
  sgn_region = table.sgn_region;
  language_len2 = seen_rows string_bytes table.language_len2;
  language_len3 = seen_rows string_bytes table.language_len3;
  script = table.script;
  region_alpha = table.region_alpha;
  region_num = table.region_num;
  complex_region = seen_rows (λ regions. regions.items) table.complex_region;
  variant = table.variant;
  subdivision = seen_rows string_bytes table.subdivision;
}

-- the scripts of a table of directions
abbrev pub direction_rows : ScriptDirection → DirectionRows
direction_rows table = record { rtl = keys_of table.rtl; ltr = keys_of table.ltr }

-- the rows that tables hold
abbrev pub rows_of : Tables → FileRows
rows_of tables = record {
  likely_language = tables.likely_language;
  likely_script_region = tables.likely_script_region;
  likely_extended = tables.likely_extended;
  aliases = option_map alias_rows tables.aliases;
  direction = option_map direction_rows tables.script_direction;
  exemplars = tables.exemplars;
  names = tables.names;
  menus = tables.menus;
  essentials = tables.essentials;
}
