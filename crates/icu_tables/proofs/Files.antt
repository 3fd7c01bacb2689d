-- Files: which texts are JSON, and what tables hold of what was read.
use Rattle.std.proofs.Common.{◌≡◌, ℕ, Bool, true, false, List, [], ◌∷◌, map, Vec, Global, string_bytes, Option, Some, None, option_map, Result, Ok}
use Rattle.std.proofs.Common.{Err, IfOk, refl, ap, ◌∙◌, if◌then◌else◌}
use Rattle.std.specs.Str.{IsUtf8, is_utf8}
use Rattle.std.proofs.lemmas.Iterator.Adapters.{option_map_id}
use Rattle.std.proofs.lemmas.Str.{IsUtf8-from_is_utf8, is_utf8-from_IsUtf8}
use Rattle.serde_json.specs.Data.{Data}
use Rattle.serde_json.specs.Read.{read}
use Rattle.icu_provider.specs.declared.likely.extended.LikelySubtagsExtended.{LikelySubtagsExtended}
use Rattle.icu_provider.specs.declared.likely.language.LikelySubtagsForLanguage.{LikelySubtagsForLanguage}
use Rattle.icu_provider.specs.declared.likely.script_region.LikelySubtagsForScriptRegion.{LikelySubtagsForScriptRegion}
use Rattle.icu_tables.specs.declared.error.TableError.{TableError}
use Rattle.icu_tables.specs.declared.tables.Tables.{Tables}
use Rattle.icu_tables.specs.File.{file, json_of, or_json, or_shape, rows_in}
use Rattle.icu_provider.specs.declared.aliases.Aliases.{Aliases}
use Rattle.icu_tables.specs.inner.Reads.{Reads, language_seen, script_region_seen, extended_seen, alias_seen, file_seen}
use Rattle.icu_tables.specs.Rows.{alias_rows, direction_rows, rows_of, seen_rows, rule, variants_rule}
use Rattle.icu_tables.proofs.Members.{seen_rows-same}

-- a text that is UTF-8 and reads as a value is that value
pub json_from_read : (text : List ℕ) (value : Data) → IsUtf8 text → read text ≡ Some value → json_of text ≡ Some value
json_from_read text value utf8 is = rw (is_utf8-from_IsUtf8 text utf8) is

by_utf8 : (text : List ℕ) (test : Bool) → is_utf8 text ≡ test → (IsUtf8 text → read text ≡ None) → (if test then read text else None) ≡ None
by_utf8 text true is none = none (IsUtf8-from_is_utf8 text is)
by_utf8 text false is none = refl

-- a text that reads as no value where it is UTF-8 is no value
pub no_json : (text : List ℕ) → (IsUtf8 text → read text ≡ None) → json_of text ≡ None
no_json text none = by_utf8 text (is_utf8 text) refl none

language_seen-same : (table : LikelySubtagsForLanguage) → language_seen table ≡ table
language_seen-same table = λ i. record {
  und = table.und;
  language = seen_rows-same table.language i;
  language_script = seen_rows-same table.language_script i;
  language_region = seen_rows-same table.language_region i;
}

script_region_seen-same : (table : LikelySubtagsForScriptRegion) → script_region_seen table ≡ table
script_region_seen-same table = λ i. record {
  script_region = seen_rows-same table.script_region i;
  script = seen_rows-same table.script i;
  region = seen_rows-same table.region i;
}

extended_seen-same : (table : LikelySubtagsExtended) → extended_seen table ≡ table
extended_seen-same table = λ i. record {
  language = seen_rows-same table.language i;
  language_script = seen_rows-same table.language_script i;
  language_region = seen_rows-same table.language_region i;
  script_region = seen_rows-same table.script_region i;
  script = seen_rows-same table.script i;
  region = seen_rows-same table.region i;
}

pub map-same : {T : Type 0} (xs : List T) → map (λ x. x) xs ≡ xs
map-same [] = refl
map-same (x ∷ xs) = ap (λ more. x ∷ more) (map-same xs)

pub lists_seen-same : {K V : Type 0} (rows : List (K × Vec V Global)) → seen_rows (λ list. map (λ v. v) list.items) rows ≡ seen_rows (λ list. list.items) rows
lists_seen-same [] = refl
lists_seen-same (row ∷ rows) = λ i. (row.0, map-same row.1.items i) ∷ lists_seen-same rows i

alias_seen-same : (table : Aliases) → alias_seen table ≡ alias_rows table
alias_seen-same table = λ i. record {
  language_variants = map variants_rule table.language_variants;
  language = map rule table.language;
  sgn_region = seen_rows-same table.sgn_region i;
  language_len2 = seen_rows string_bytes table.language_len2;
  language_len3 = seen_rows string_bytes table.language_len3;
  script = seen_rows-same table.script i;
  region_alpha = seen_rows-same table.region_alpha i;
  region_num = seen_rows-same table.region_num i;
  complex_region = lists_seen-same table.complex_region i;
  variant = seen_rows-same table.variant i;
  subdivision = seen_rows string_bytes table.subdivision;
}

pub option_map-seen : {T A : Type 0} (f g : T → A) → ((x : T) → f x ≡ g x) → (o : Option T) → option_map f o ≡ option_map g o
option_map-seen f g same None = refl
option_map-seen f g same (Some x) = ap (λ y. Some y) (same x)

pub option_map-same : {T : Type 0} (f : T → T) → ((x : T) → f x ≡ x) → (o : Option T) → option_map f o ≡ o
option_map-same f same o = option_map-seen f (λ x. x) same o ∙ option_map_id o

-- tables are seen as the rows that they hold
file_seen-is : (tables : Tables) → file_seen tables ≡ rows_of tables
file_seen-is tables = λ i. record {
  likely_language = option_map-same language_seen language_seen-same tables.likely_language i;
  likely_script_region = option_map-same script_region_seen script_region_seen-same tables.likely_script_region i;
  likely_extended = option_map-same extended_seen extended_seen-same tables.likely_extended i;
  aliases = option_map-seen alias_seen alias_rows alias_seen-same tables.aliases i;
  direction = option_map direction_rows tables.script_direction;
  exemplars = seen_rows-same tables.exemplars i;
  names = seen_rows-same tables.names i;
  menus = seen_rows-same tables.menus i;
  essentials = seen_rows-same tables.essentials i;
}

-- what was read of the value of a text are the rows of the text
pub rows_from_reads : (text : List ℕ) (value : Data) (result : Result Tables TableError) → json_of text ≡ Some value
    → Reads file_seen result (file value) → IfOk result (λ tables. rows_in text ≡ Ok (rows_of tables))
rows_from_reads text value (Ok tables) is reads = ap (or_json file) is ∙ ap or_shape reads ∙ ap (λ rows. Ok rows) (file_seen-is tables)
rows_from_reads text value (Err e) is reads = tt
