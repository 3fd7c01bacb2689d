-- Names in the flat form: those that tables are lent, and those that are written of them.
use Rattle.std.specs.Prelude.{◌≡◌, ◌<◌, ℕ, List, take, length, Option, Some, None, IsSomeAnd, Result, Ok, Err}
use Rattle.icu_tables_flat.specs.Flat.{FlatRows}
use Rattle.icu_tables_flat.specs.Form.{flat_rows}
use Rattle.icu_tables.specs.FlatNames.{SayNames}
use Rattle.icu_tables.specs.declared.tables.Tables.{Tables}
use Rattle.icu_locale_c.specs.Calls.{Writes}
use Rattle.icu_locale_lines.specs.Held.{Held}
use Rattle.icu_locale_c.specs.declared.refusal.Refusal.{Refusal}
use Rattle.icu_locale_c.specs.declared.refusal.Refusal.TheVariants as refusal

-- what is held, with names lent to its tables
abbrev pub with_lent : Held → FlatRows → Held
with_lent h names = record {
  tables = record h.tables { lent_names = Some names };
  available = h.available;
  wholes = h.wholes;
}

-- why no names are lent; that another handle has the tables too is told by no clause
abbrev pub IsRefusedLending : Option Held → List ℕ → Refusal → Type 0
IsRefusedLending held flat refusal.Closed = held ≡ None
IsRefusedLending held flat refusal.Shape = IsSomeAnd held (λ h. flat_rows flat ≡ None)
IsRefusedLending held flat refusal.Shared =
    IsSomeAnd held (λ h. (names : FlatRows) × (flat_rows flat ≡ Some names))
IsRefusedLending held flat e = ⊥

-- the tables that are held are lent the names of bytes in place of those before, or all stays
abbrev pub IsLent : Option Held → List ℕ → Option Held → Result (Unit {0}) Refusal → Type 0
IsLent old flat new (Ok u) = IsSomeAnd old (λ h. (names : FlatRows)
    × (flat_rows flat ≡ Some names) × (new ≡ Some (with_lent h names)))
IsLent old flat new (Err e) = (new ≡ old) × IsRefusedLending old flat e

-- bytes in the flat form say what the own names of tables do
abbrev pub SaysNamesOf : Tables → List ℕ → Type 0
SaysNamesOf t bytes =
    (names : FlatRows) × (flat_rows bytes ≡ Some names) × SayNames names t.names

-- `out` begins with such bytes, or is as it was; without room their length is told
abbrev pub IsFlatCall : Tables → (out out' : List ℕ) → ℕ → Result (Unit {0}) Refusal → Type 0
IsFlatCall t out out' written (Ok u) =
    SaysNamesOf t (take written out') × Writes out out' written
IsFlatCall t out out' written (Err refusal.Room) = (bytes : List ℕ) × SaysNamesOf t bytes
    × (out' ≡ out) × (written ≡ length bytes) × (length out < length bytes)
IsFlatCall t out out' written (Err refusal.Memory) = (out' ≡ out) × (written ≡ 0)
IsFlatCall t out out' written (Err refusal.Shape) = (out' ≡ out) × (written ≡ 0)
IsFlatCall t out out' written (Err e) = ⊥

-- the same over what is held; without tables nothing is written
abbrev pub IsFlatOf : Option Held → (out out' : List ℕ) → ℕ → Result (Unit {0}) Refusal → Type 0
IsFlatOf (Some h) out out' written outcome = IsFlatCall h.tables out out' written outcome
IsFlatOf None out out' written outcome =
    (outcome ≡ Err refusal.Closed) × (out' ≡ out) × (written ≡ 0)
