-- What the program writes for a line that a call answers.
use Rattle.std.specs.Prelude.{◌≡◌, ◌↔◌, ℕ, Bool, true, false, List, [], ◌∷◌, ◌++◌, Option, Some}
use Rattle.icu_tables.specs.declared.tables.Tables.{Tables}
use Rattle.icu_locale_extensions.specs.declared.syntax.Syntax.{Syntax}
use Rattle.icu_locale_lines.specs.Lines.{Stream}
use Rattle.icu_locale_lines.specs.WholeRuns.{IsJsonRun, WritesOutput}
use Rattle.icu_locale_lines.specs.declared.command.Command.TheVariants.{Lines}
use Rattle.icu_locale_lines.specs.declared.command.LineCommand.{LineCommand}
use Rattle.icu_locale_lines.specs.declared.runs.Status.{Status}
use Rattle.icu_locale_lines.specs.declared.runs.Status.TheVariants.{Accepted}
use Rattle.icu_locale_lines.specs.Tasks.{asks_list}
use Rattle.icu_locale_c.specs.Calls.{Names, unended}

-- a text names no command that asks for a list
abbrev pub AsksNoList : List ℕ → Type 0
AsksNoList command = (c : LineCommand) → Names command c → asks_list c.task ≡ false

-- each command that a text names asks for a list, whose texts are in this syntax
abbrev pub AsksListIn : Option Syntax → List ℕ → Type 0
AsksListIn syntax command =
    (c : LineCommand) → Names command c → (asks_list c.task ≡ true) × (c.syntax ≡ syntax)

-- a text as the program's one line, and behind a line that has tables or lists what is available
abbrev pub as_line : List ℕ → List ℕ
as_line line = line ++ 10 ∷ []

abbrev pub behind_list : (list line : List ℕ) → List ℕ
behind_list list line = list ++ 10 ∷ as_line line

-- the program, asked by the words of a text, writes this text and a line feed for its input over the tables, and its status
-- says whether the line is accepted
pub record IsWrittenFor (t : Tables) (command input text : List ℕ) (accepted : Bool) : Type 0 where
  pub asked : LineCommand
  pub named : Names command asked
  pub whole : List ℕ
  pub status : Status
  pub written : WritesOutput (Lines asked) t input (Some []) (Some whole) status
  pub status_is : (status ≡ Accepted) ↔ (accepted ≡ true)
  pub text_is : text ≡ unended whole

-- the program, asked by the words of a text and `json`, takes its tables of the first line, and writes this text and a line
-- feed for the one behind it; its status says whether that is accepted
pub record IsWrittenOverJson (json command line text : List ℕ) (accepted : Bool) : Type 0 where
  pub asked : LineCommand
  pub named : Names command asked
  pub left : Stream
  pub whole : List ℕ
  pub status : Status
  pub written : IsJsonRun (Lines asked) (Some (behind_list json line)) left (Some []) (Some whole)
      status
  pub status_is : (status ≡ Accepted) ↔ (accepted ≡ true)
  pub text_is : text ≡ unended whole
