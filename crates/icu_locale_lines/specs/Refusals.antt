-- Why a run stops before its first line, and the words of each refusal.
use Rattle.std.specs.Prelude.{◌≡◌, ℕ, List, Err, codes, ◌++◌, Option}
use Rattle.icu_tables.specs.File.{rows_in}
use Rattle.icu_tables.specs.Supplement as further
use Rattle.icu_locale_lines.specs.declared.error.CliError.{CliError}
use Rattle.icu_locale_lines.specs.declared.error.CliError.TheVariants.{Tables, Supplement, Data, Memory, Available, NotSettled, Usage, Read, Write}
use Rattle.icu_locale_lines.specs.Lists.{listed, IsFirstFault}
use Rattle.icu_locale_extensions.specs.declared.syntax.Syntax.{Syntax}
use Rattle.icu_locale_core.specs.Identifier.{parse_error_name}
use Rattle.icu_provider.specs.Provider.{kind_name}
use Rattle.icu_tables.specs.declared.error.TableError.{TableError}
use Rattle.icu_tables.specs.declared.error.TableError.TheVariants.{Json, Shape}
use Rattle.icu_tables.specs.declared.error.TableError.TheVariants as tables

-- why a text gives no tables
abbrev pub IsRefusedReading : List ℕ → CliError → Type 0
IsRefusedReading text (Tables e) = rows_in text ≡ Err e
IsRefusedReading text Memory = Unit {0}
IsRefusedReading text e = ⊥

-- why a text gives no supplement
abbrev pub IsRefusedSupplement : List ℕ → CliError → Type 0
IsRefusedSupplement text (Supplement e) = further.rows_in text ≡ Err e
IsRefusedSupplement text Memory = Unit {0}
IsRefusedSupplement text e = ⊥

-- why the line of what is available lists none
abbrev pub IsFaultyList : Option Syntax → List ℕ → CliError → Type 0
IsFaultyList syntax line (Available e) = IsFirstFault syntax (listed line) e
IsFaultyList syntax line Memory = Unit {0}
IsFaultyList syntax line e = ⊥

-- the name of a refusal of tables
abbrev pub table_error_name : TableError → List ℕ
table_error_name Json = codes "Json"
table_error_name Shape = codes "Shape"
table_error_name tables.Memory = codes "Memory"

-- what Display writes
abbrev pub error_words : CliError → List ℕ
error_words Usage = codes "usage: icu_locale_cli COMMAND [json]"
error_words (Tables e) = codes "tables: " ++ table_error_name e
error_words (Supplement e) = codes "supplement: " ++ table_error_name e
error_words (Data e) = codes "data: " ++ kind_name e.kind
error_words Read = codes "read failed"
error_words Write = codes "write failed"
error_words Memory = codes "no memory"
error_words (Available e) = codes "available: " ++ parse_error_name e
error_words NotSettled = codes "tables not settled"
