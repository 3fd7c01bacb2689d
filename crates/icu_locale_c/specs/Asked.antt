-- What a command that is read answers over what is held.
use Rattle.std.specs.Prelude.{◌≡◌, ℕ, Bool, true, false, List, None, IsSome}
use Rattle.icu_locale_lines.specs.Answers.{IsAnswer}
use Rattle.icu_locale_lines.specs.Commands.{IsUnsettled, has_tables, plain}
use Rattle.icu_locale_lines.specs.Held.{Held, IsWorkOver}
use Rattle.icu_locale_lines.specs.Tasks.{asks_list}
use Rattle.icu_locale_lines.specs.declared.command.Command.TheVariants.{Lines}
use Rattle.icu_locale_lines.specs.declared.command.LineCommand.{LineCommand}
use Rattle.icu_locale_lines.specs.declared.command.Task.TheVariants.{Negotiate}
use Rattle.icu_locale_lines.specs.declared.work.Work.{Work}
use Rattle.icu_locale_c.specs.declared.refusal.Refusal.{Refusal}
use Rattle.icu_locale_c.specs.declared.refusal.Refusal.TheVariants as refusal

-- the program's line for a line, and whether that is accepted
pub record IsLineOf (h : Held) (asked : LineCommand) (line whole : List ℕ) (accepted : Bool)
    : Type 0 where
  pub work : Work
  pub work_of : IsWorkOver asked h work
  pub answer : IsAnswer work line whole accepted

-- the list is there that the task asks for, if it asks for one
abbrev pub HasList : Held → LineCommand → Type 0
HasList h asked = asks_list asked.task ≡ true → IsSome h.available

-- a list is held over tables that are not settled
abbrev pub HasUnsettledList : Held → Type 0
HasUnsettledList h = IsSome h.available × IsUnsettled (Lines (plain Negotiate)) h.tables

-- why there is no negotiation over what is held: that a list is lacking comes first
abbrev pub HasNoNegotiation : Held → Refusal → Type 0
HasNoNegotiation h refusal.Negotiate = h.available ≡ None
HasNoNegotiation h refusal.Unsettled = HasUnsettledList h
HasNoNegotiation h e = ⊥

-- why there is none: that a list is lacking comes before all else, and then that a table is; at
-- `negotiate` that the tables are not settled
abbrev pub IsRefusedLine : Held → LineCommand → Refusal → Type 0
IsRefusedLine h asked refusal.Memory =
    HasList h asked × (has_tables (Lines asked) h.tables ≡ true)
IsRefusedLine h asked refusal.Table =
    HasList h asked × (has_tables (Lines asked) h.tables ≡ false)
IsRefusedLine h asked refusal.Negotiate = (asks_list asked.task ≡ true) × (h.available ≡ None)
IsRefusedLine h asked refusal.Unsettled = (asked.task ≡ Negotiate) × HasUnsettledList h
IsRefusedLine h asked e = ⊥
