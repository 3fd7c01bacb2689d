-- The name of the data that is held, and the table that a command misses in it.
use Rattle.std.specs.Prelude.{◌≡◌, ◌<◌, ℕ, List, take, length, Bool, true, false, Option, Some, None, Result, Ok, Err}
use Rattle.icu_tables.specs.declared.tables.Tables.{Tables}
use Rattle.icu_locale_lines.specs.Commands.{missing_for}
use Rattle.icu_locale_lines.specs.Held.{Held}
use Rattle.icu_locale_lines.specs.declared.command.LineCommand.{LineCommand}
use Rattle.icu_locale_c.specs.Calls.{Names, NamesNone, Writes}
use Rattle.icu_locale_c.specs.declared.refusal.Refusal.{Refusal}
use Rattle.icu_locale_c.specs.declared.refusal.Refusal.TheVariants as refusal

-- nothing is written, and no length told
abbrev pub WritesNone : (out out' : List ℕ) → ℕ → Type 0
WritesNone out out' written = (out' ≡ out) × (written ≡ 0)

-- a text has no room: its length is told
abbrev pub LacksRoom : (List ℕ → Type 0) → (out out' : List ℕ) → ℕ → Type 0
LacksRoom IsText out out' written = (text : List ℕ) × IsText text
    × (out' ≡ out) × (written ≡ length text) × (length out < length text)

-- tables have a name, which their supplement says
abbrev pub HasName : Tables → List ℕ → Type 0
HasName t name = t.supplement.cldr ≡ Some name

-- `out` begins with the name, or is as it was where there is none or no room: then its length is told
abbrev pub IsNamedCall : Tables → (out out' : List ℕ) → ℕ → Result Bool Refusal → Type 0
IsNamedCall t out out' written (Ok true) =
    HasName t (take written out') × Writes out out' written
IsNamedCall t out out' written (Ok false) =
    (t.supplement.cldr ≡ None) × WritesNone out out' written
IsNamedCall t out out' written (Err refusal.Room) = LacksRoom (HasName t) out out' written
IsNamedCall t out out' written (Err e) = ⊥

-- the same over what is held; without tables nothing is written
abbrev pub IsDataNamed : Option Held → (out out' : List ℕ) → ℕ → Result Bool Refusal → Type 0
IsDataNamed (Some h) out out' written outcome = IsNamedCall h.tables out out' written outcome
IsDataNamed None out out' written outcome =
    (outcome ≡ Err refusal.Closed) × WritesNone out out' written

-- the first table that a command needs and that is not held, by its name in JSON
abbrev pub Misses : Tables → List ℕ → Option (List ℕ) → Type 0
Misses t command name =
    (c : LineCommand) × Names command c × (missing_for c.task t ≡ name)

-- `out` begins with that name, or is as it was where all are held or no room is: then its length is
-- told
abbrev pub IsMissingCall : Tables → List ℕ → (out out' : List ℕ) → ℕ → Result Bool Refusal → Type 0
IsMissingCall t command out out' written (Ok true) =
    Misses t command (Some (take written out')) × Writes out out' written
IsMissingCall t command out out' written (Ok false) =
    Misses t command None × WritesNone out out' written
IsMissingCall t command out out' written (Err refusal.Room) =
    LacksRoom (λ name. Misses t command (Some name)) out out' written
IsMissingCall t command out out' written (Err refusal.Command) =
    NamesNone command × WritesNone out out' written
IsMissingCall t command out out' written (Err e) = ⊥

-- the same over what is held; without tables nothing is written
abbrev pub IsMissing : Option Held → List ℕ → (out out' : List ℕ) → ℕ → Result Bool Refusal
    → Type 0
IsMissing (Some h) command out out' written outcome =
    IsMissingCall h.tables command out out' written outcome
IsMissing None command out out' written outcome =
    (outcome ≡ Err refusal.Closed) × WritesNone out out' written
