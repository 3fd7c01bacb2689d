-- A whole run: tables, input and output.
use Rattle.std.specs.Prelude.{◌≡◌, ◌↔◌, ◌⊎◌, ℕ, Bool, true, false, List, [], None, Ok}
use Rattle.std.specs.Io.KnownBytes.{Appends}
use Rattle.icu_locale.specs.LikelyTable.{likely}
use Rattle.icu_locale.specs.LikelySubtags.{AreSettled}
use Rattle.icu_locale.specs.declared.expander.LocaleExpander.{LocaleExpander}
use Rattle.icu_tables.specs.Rows.{rows_of}
use Rattle.icu_tables.specs.File.{rows_in}
use Rattle.icu_tables.specs.Supplement.{no_supplement}
use Rattle.icu_tables.specs.declared.tables.Tables.{Tables}
use Rattle.icu_locale_lines.specs.declared.command.Command.{Command}
use Rattle.icu_locale_lines.specs.declared.command.Command.TheVariants as command
use Rattle.icu_locale_lines.specs.declared.command.LineCommand.{LineCommand}
use Rattle.icu_locale_lines.specs.declared.error.CliError.{CliError}
use Rattle.icu_locale_lines.specs.declared.error.CliError.TheVariants as error
use Rattle.icu_locale_lines.specs.declared.runs.Status.{Status}
use Rattle.icu_locale_lines.specs.declared.runs.Status.TheVariants.{Accepted}
use Rattle.icu_locale_lines.specs.declared.work.Work.{Work}
use Rattle.icu_locale_lines.specs.Lines.{first_line, after_first_line, Stream}
use Rattle.icu_locale_lines.specs.Loads.{IsExpanderOf, not_found}
use Rattle.icu_locale_core.specs.Sinks.{AppendsPart}
use Rattle.icu_locale_lines.specs.Runs.{ReadsAll, WritesAll, WritesEarlier, WritesPart}
use Rattle.icu_locale_lines.specs.Refusals.{IsFaultyList, IsRefusedReading}
use Rattle.icu_locale_lines.specs.Texts.{settled_line}
use Rattle.icu_locale_lines.specs.Commands.{AnswersLines, ReadsRules, IsUnsettled, ListsOver, has_tables}
use Rattle.icu_locale_lines.specs.Held.{IsWorkOf, text_answered}

-- the work of the command was done on every line that it answers
pub record WritesLines (c : LineCommand) (t : Tables) (input : List ℕ) (wrote wrote' : Stream)
    (status : Status) : Type 0 where
  pub work : Work
  pub work_of : IsWorkOf c t input work
  pub all_written : WritesAll work (text_answered c input) wrote wrote' status

-- the answer tells whether the tables are settled
pub record TellsSettled (t : Tables) (answer : Bool) : Type 0 where
  pub expander : LocaleExpander
  pub over : IsExpanderOf t expander
  pub tells : (answer ≡ true) ↔ AreSettled (likely expander)

-- the one line was written that tells whether the tables are settled
pub record WritesSettled (t : Tables) (wrote wrote' : Stream) (status : Status) : Type 0 where
  pub answer : Bool
  pub tells : TellsSettled t answer
  pub written : Appends wrote wrote' (settled_line answer)
  pub accepted : status ≡ Accepted

-- what a command writes over tables for an input
abbrev pub WritesOutput : Command → Tables → List ℕ → Stream → Stream → Status → Type 0
WritesOutput command.Settled t input wrote wrote' status = WritesSettled t wrote wrote' status
WritesOutput (command.Lines c) t input wrote wrote' status =
    WritesLines c t input wrote wrote' status

-- ---- where a call stops, and why it may stop there

-- before lines are read: a table is not held, likely tables are not settled, or there is no memory for
-- rules, which only `canonicalize`, `serve` and `nearest` read there
abbrev pub IsUnloaded : Command → Tables → CliError → Type 0
IsUnloaded c t (error.Data e) = (e ≡ not_found) × (has_tables c t ≡ false)
IsUnloaded c t error.NotSettled = IsUnsettled c t
IsUnloaded c t error.Memory = ReadsRules c t
IsUnloaded c t e = ⊥

-- while lines are read: a read failed, which leaves what Left says, or there was no memory
abbrev pub IsUnread : Type 0 → CliError → Type 0
IsUnread Left error.Read = Left
IsUnread Left error.Memory = Unit {0}
IsUnread Left e = ⊥

-- at the first line, which lists what is available
abbrev pub IsUnlisted : LineCommand → Tables → List ℕ → CliError → Type 0
IsUnlisted c t line e = ListsOver c.task t × IsFaultyList c.syntax line e

-- among the answers to the lines of a text: where memory was refused all lines before the one in hand
-- are written, and a failed write leaves these and a beginning of the one in hand
abbrev pub WritesUntil : CliError → Work → List ℕ → Stream → Stream → Type 0
WritesUntil error.Memory work text wrote wrote' = WritesEarlier work text wrote wrote'
WritesUntil error.Write work text wrote wrote' = WritesPart work text wrote wrote'
WritesUntil e work text wrote wrote' = ⊥

-- ---- a whole run

-- some lines that the command answers were answered
pub record StopsAmongLines (c : LineCommand) (t : Tables) (input : List ℕ) (wrote wrote' : Stream)
    (e : CliError) : Type 0 where
  pub work : Work
  pub work_of : IsWorkOf c t input work
  pub left : WritesUntil e work (text_answered c input) wrote wrote'

-- what is left of lines: a first line that lists nothing leaves the writer as it was
abbrev pub StopsLines : LineCommand → Tables → List ℕ → Stream → Stream → CliError → Type 0
StopsLines c t input wrote wrote' e = (IsUnlisted c t (first_line input) e × (wrote' ≡ wrote))
    ⊎ StopsAmongLines c t input wrote wrote' e

-- what is left of `settled`: a failed write leaves a beginning of its line
abbrev pub StopsSettled : Tables → Stream → Stream → CliError → Type 0
StopsSettled t wrote wrote' e = (e ≡ error.Write) × (answer : Bool) × TellsSettled t answer
    × AppendsPart wrote wrote' (settled_line answer)

-- what is left of a command's output once its tables are loaded
abbrev pub StopsOutput : Command → Tables → List ℕ → Stream → Stream → CliError → Type 0
StopsOutput command.Settled t input wrote wrote' e = StopsSettled t wrote wrote' e
StopsOutput (command.Lines c) t input wrote wrote' e = StopsLines c t input wrote wrote' e

-- what refused output leaves
abbrev pub IsRefusedOutput : Command → Tables → List ℕ → Stream → Stream → CliError → Type 0
IsRefusedOutput c t input wrote wrote' e =
    (IsUnloaded c t e × (wrote' ≡ wrote)) ⊎ StopsOutput c t input wrote wrote' e

-- what a command reads: `settled` nothing, so that left stays, and every other the lines to their
-- end
abbrev pub ReadsInput : Command → Stream → Stream → Stream → List ℕ → Type 0
ReadsInput command.Settled read left read' input = (input ≡ []) × (read' ≡ left)
ReadsInput (command.Lines c) read left read' input = ReadsAll read read' input

-- a run over tables that are loaded, with all of read to answer; of that the reader still held left
abbrev pub IsRunFrom : Command → Tables → Stream → Stream → Stream → Stream → Stream → Status
    → Type 0
IsRunFrom c t read left read' wrote wrote' status = (input : List ℕ)
    × ReadsInput c read left read' input × WritesOutput c t input wrote wrote' status

-- a run over tables that were there before anything was read
abbrev pub IsRun : Command → Tables → Stream → Stream → Stream → Stream → Status → Type 0
IsRun c t read read' wrote wrote' status = IsRunFrom c t read read read' wrote wrote' status

-- what a refused run leaves: it stopped before it read, while it read, or once it had read all
abbrev pub IsRefusedRun : Command → Tables → Stream → Stream → Stream → Stream → CliError → Type 0
IsRefusedRun c t read read' wrote wrote' e =
    (IsUnloaded c t e × (read' ≡ read) × (wrote' ≡ wrote))
    ⊎ (AnswersLines c × IsUnread (Unit {0}) e × (wrote' ≡ wrote))
    ⊎ ((input : List ℕ) × ReadsInput c read read read' input
    × StopsOutput c t input wrote wrote' e)

-- tables have no supplement, and are lent no names
abbrev pub StandAlone : Tables → Type 0
StandAlone t = (t.supplement ≡ no_supplement) × (t.lent_names ≡ None)

-- the reader was read to its end, and its first line gives tables with these rows
pub record ReadsTables (read read' : Stream) (t : Tables) (rest : List ℕ) : Type 0 where
  pub input : List ℕ
  pub all_read : ReadsAll read read' input
  pub rows : rows_in (first_line input) ≡ Ok (rows_of t)
  pub alone : StandAlone t
  pub rest_is : rest ≡ after_first_line input

-- a run over the tables of the first line
abbrev pub IsJsonRun : Command → Stream → Stream → Stream → Stream → Status → Type 0
IsJsonRun c read read' wrote wrote' status = (t : Tables) × (rest : List ℕ)
    × ReadsTables read read' t rest × WritesOutput c t rest wrote wrote' status

-- what a refused run over the tables of the first line leaves: it stopped while it read, at that
-- line, or once it had its tables
abbrev pub IsRefusedJsonRun : Command → Stream → Stream → Stream → Stream → CliError → Type 0
IsRefusedJsonRun c read read' wrote wrote' e =
    (IsUnread (Unit {0}) e × (wrote' ≡ wrote))
    ⊎ ((input : List ℕ) × ReadsAll read read' input × IsRefusedReading (first_line input) e
    × (wrote' ≡ wrote))
    ⊎ ((t : Tables) × (rest : List ℕ) × ReadsTables read read' t rest
    × IsRefusedOutput c t rest wrote wrote' e)
