-- What a reader answers beside what a value says: what only the readers' own functions cite.
use Rattle.std.specs.Prelude.{◌≡◌, ℕ, Bool, true, false, List, ◌++◌, map, string_bytes, Option, Some, None, option_map, Result, Ok, Err}
use Rattle.std.specs.Borrow.{Bor}
use Rattle.icu_provider.specs.declared.aliases.Aliases.{Aliases}
use Rattle.icu_provider.specs.declared.likely.extended.LikelySubtagsExtended.{LikelySubtagsExtended}
use Rattle.icu_provider.specs.declared.likely.language.LikelySubtagsForLanguage.{LikelySubtagsForLanguage}
use Rattle.icu_provider.specs.declared.likely.script_region.LikelySubtagsForScriptRegion.{LikelySubtagsForScriptRegion}
use Rattle.icu_tables.specs.Rows.{AliasRows, FileRows, seen_rows, rule, variants_rule, direction_rows}
use Rattle.icu_tables.specs.declared.error.TableError.{TableError}
use Rattle.icu_tables.specs.declared.error.TableError.TheVariants.{Json, Shape, Memory}
use Rattle.icu_tables.specs.declared.tables.Tables.{Tables}

-- a refusal is `Shape` where nothing is said, or memory was refused
abbrev pub Refuses : {A : Type 0} → TableError → Option A → Type 0
Refuses Json said = ⊥
Refuses Shape said = said ≡ None
Refuses Memory said = Unit {0}

-- what was read is seen as what is said, or it was refused
abbrev pub Reads : {T A : Type 0} → (T → A) → Result T TableError → Option A → Type 0
Reads seen (Ok x) said = said ≡ Some (seen x)
Reads seen (Err e) said = Refuses e said

-- a place was filled with what is said, or that was refused
abbrev pub Fills : {A : Type 0} → Result (Unit {0}) TableError → A → Option A → Type 0
Fills (Ok done) new said = said ≡ Some new
Fills (Err e) new said = Refuses e said

-- rows are added to others, or what says them is refused
abbrev pub Appends : {R : Type 0} → Result (Unit {0}) TableError → (old new : List R)
    → Option (List R) → Type 0
Appends result old new said = Fills result new (option_map (λ rows. old ++ rows) said)

-- a test holds, or it fails and the refusal is `Shape`
abbrev pub Accepts : Result (Unit {0}) TableError → Bool → Type 0
Accepts (Ok done) test = test ≡ true
Accepts (Err e) test = (e ≡ Shape) × (test ≡ false)

-- the texts behind references
abbrev pub texts_of : List (Bor (List ℕ)) → List (List ℕ)
texts_of texts = map (λ text. text.now) texts

-- a table of names, whose texts are behind references
abbrev pub names_of : {A : Type 0} → List (Bor (List ℕ) × A) → List (List ℕ × A)
names_of table = map (λ row. (row.0.now, row.1)) table

-- tables as their rows were read, one by one
abbrev pub language_seen : LikelySubtagsForLanguage → LikelySubtagsForLanguage
language_seen table = record {
  und = table.und;
  language = seen_rows (λ v. v) table.language;
  language_script = seen_rows (λ v. v) table.language_script;
  language_region = seen_rows (λ v. v) table.language_region;
}

abbrev pub script_region_seen : LikelySubtagsForScriptRegion → LikelySubtagsForScriptRegion
script_region_seen table = record {
  script_region = seen_rows (λ v. v) table.script_region;
  script = seen_rows (λ v. v) table.script;
  region = seen_rows (λ v. v) table.region;
}

abbrev pub extended_seen : LikelySubtagsExtended → LikelySubtagsExtended
extended_seen table = record {
  language = seen_rows (λ v. v) table.language;
  language_script = seen_rows (λ v. v) table.language_script;
  language_region = seen_rows (λ v. v) table.language_region;
  script_region = seen_rows (λ v. v) table.script_region;
  script = seen_rows (λ v. v) table.script;
  region = seen_rows (λ v. v) table.region;
}

abbrev pub alias_seen : Aliases → AliasRows
alias_seen table = record {
  language_variants = map variants_rule table.language_variants;
  language = map rule table.language;
  sgn_region = seen_rows (λ v. v) table.sgn_region;
  language_len2 = seen_rows string_bytes table.language_len2;
  language_len3 = seen_rows string_bytes table.language_len3;
  script = seen_rows (λ v. v) table.script;
  region_alpha = seen_rows (λ v. v) table.region_alpha;
  region_num = seen_rows (λ v. v) table.region_num;
  complex_region = seen_rows (λ regions. map (λ v. v) regions.items) table.complex_region;
  variant = seen_rows (λ v. v) table.variant;
  subdivision = seen_rows string_bytes table.subdivision;
}

abbrev pub file_seen : Tables → FileRows
file_seen tables = record {
  likely_language = option_map language_seen tables.likely_language;
  likely_script_region = option_map script_region_seen tables.likely_script_region;
  likely_extended = option_map extended_seen tables.likely_extended;
  aliases = option_map alias_seen tables.aliases;
  direction = option_map direction_rows tables.script_direction;
  exemplars = seen_rows (λ v. v) tables.exemplars;
  names = seen_rows (λ v. v) tables.names;
  menus = seen_rows (λ v. v) tables.menus;
  essentials = seen_rows (λ v. v) tables.essentials;
}
