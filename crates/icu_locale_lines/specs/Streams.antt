-- What a run that answers lines as they come reads and writes.
use Rattle.std.specs.Prelude.{◌≡◌, ◌≢◌, ◌⊎◌, ◌<◌, ◌≤◌, ℕ, length, Bool, true, false, List, [], ◌∷◌, ◌++◌, Option, None, Ok}
use Rattle.std.specs.List.{list_any}
use Rattle.std.specs.Io.KnownBytes.{Consumes, IsAtEnd, prepend_known}
use Rattle.icu_tables.specs.Rows.{rows_of}
use Rattle.icu_tables.specs.File.{rows_in}
use Rattle.icu_tables.specs.Supplement as further
use Rattle.icu_tables.specs.declared.supplement.Supplement.{Supplement}
use Rattle.icu_tables.specs.declared.tables.Tables.{Tables}
use Rattle.icu_locale_lines.specs.declared.command.Command.{Command}
use Rattle.icu_locale_lines.specs.declared.command.Command.TheVariants as command
use Rattle.icu_locale_lines.specs.declared.command.LineCommand.{LineCommand}
use Rattle.icu_locale_lines.specs.declared.error.CliError.{CliError}
use Rattle.icu_locale_lines.specs.declared.error.CliError.TheVariants as error
use Rattle.icu_locale_lines.specs.declared.runs.Status.{Status}
use Rattle.icu_locale_lines.specs.declared.work.Work.{Work}
use Rattle.icu_locale_lines.specs.Lines.{is_line_feed, lines, first_line, exceeds, AreWithin, Stream}
use Rattle.icu_locale_lines.specs.Runs.{Answered}
use Rattle.icu_locale_lines.specs.WholeRuns.{StandAlone, IsUnloaded, IsUnread, IsUnlisted, StopsSettled, ReadsInput, WritesOutput}
use Rattle.icu_locale_lines.specs.Commands.{ListsOver}
use Rattle.icu_locale_lines.specs.Held.{IsWorkOf, text_answered}

-- what is read at once, in bytes
abbrev pub part_size : ℕ
part_size = 16384

-- ---- lines within a bound, where there is one

-- a line that has not ended, and is not longer than the bound
abbrev pub IsUnended : Option ℕ → List ℕ → Type 0
IsUnended longest text = (list_any is_line_feed text ≡ false) × (exceeds longest text ≡ false)

-- a text is the beginning of a line, if any, and no more behind it than is read at once
pub record IsFew (longest : Option ℕ) (text : List ℕ) : Type 0 where
  pub begun : List ℕ
  pub part : List ℕ
  pub parted : text ≡ begun ++ part
  pub unended : IsUnended longest begun
  pub short : length part ≤ part_size

-- what is left where reading stops: a line that has not ended, or that is too long
abbrev pub StopsReading : Option ℕ → List ℕ → Type 0
StopsReading longest text =
    IsFew longest text × (IsUnended longest text ⊎ (exceeds longest (first_line text) ≡ true))

-- a text of whole lines: nothing, or all up to a line feed
abbrev pub EndsLines : List ℕ → Type 0
EndsLines t = (t ≡ []) ⊎ ((front : List ℕ) × (t ≡ front ++ 10 ∷ []))

-- how far the lines of a text came: those that end before what is left are answered, each within
-- the bound, but for what is pending; where Last holds the last of the text may have no line feed
pub record AnswersUpTo (Last : Type 0) (longest : Option ℕ) (work : Work)
    (text left pending : List ℕ) (old new : Stream) (status : Status) : Type 0 where
  pub ended : List ℕ
  pub whole : EndsLines ended ⊎ (Last × (left ≡ []))
  pub within : AreWithin longest ended
  pub parted : text ≡ ended ++ left
  pub answered : Answered work (lines ended) pending old new status

-- why lines stop at what is left: its first is too long, or memory was refused for that, whether it
-- had ended or was begun, or a write failed within an answer
abbrev pub StopsAt : Option ℕ → CliError → (left pending : List ℕ) → Type 0
StopsAt longest error.Read left pending =
    (pending ≡ []) × (exceeds longest (first_line left) ≡ true)
StopsAt longest error.Memory left pending = (pending ≡ []) × (left ≢ [])
StopsAt longest error.Write left pending = pending ≢ []
StopsAt longest e left pending = ⊥

-- or between lines: a read or a flush failed
abbrev pub StopsBetween : Option ℕ → CliError → (left pending : List ℕ) → Type 0
StopsBetween longest e left pending =
    ((e ≡ error.Read) ⊎ (e ≡ error.Write)) × (pending ≡ []) × IsUnended longest left

-- what lines leave that stop early: a write may fail within the last answer of the input too
pub record StopsStream (longest : Option ℕ) (work : Work) (read read' wrote wrote' : Stream)
    (e : CliError) : Type 0 where
  pub text : List ℕ
  pub left : List ℕ
  pub pending : List ℕ
  pub status : Status
  pub consumed : Consumes read read' text
  pub answered : AnswersUpTo ((pending ≢ []) × IsAtEnd read') longest work text left pending
      wrote wrote' status
  pub few : IsFew longest left
  pub why : StopsAt longest e left pending ⊎ StopsBetween longest e left pending

-- ---- a first line

-- what ends a line: a line feed, or nothing at the end of the input
abbrev pub line_end : Bool → List ℕ
line_end true = []
line_end false = 10 ∷ []

-- a line within the bound was read to its line feed, or to the end of the input, and mid is what is
-- left after it
pub record ReadsLine (longest : Option ℕ) (read mid : Stream) (line : List ℕ) (has_ended : Bool)
    : Type 0 where
  pub consumed : Consumes read mid (line ++ line_end has_ended)
  pub alone : list_any is_line_feed line ≡ false
  pub within : exceeds longest line ≡ false
  pub at_end : has_ended ≡ true → IsAtEnd mid

-- a line was read that did not end, or one that is too long
abbrev pub ReadsNoLine : Option ℕ → Stream → Stream → Type 0
ReadsNoLine longest read read' =
    (text : List ℕ) × Consumes read read' text × StopsReading longest text

-- ---- a command

-- a run over tables that are loaded, all of whose lines are within the bound; of what it read the
-- reader still held left
abbrev pub IsRunWithin : Option ℕ → Command → Tables → Stream → Stream → Stream → Stream → Stream
    → Status → Type 0
IsRunWithin longest c t read left read' wrote wrote' status = (input : List ℕ)
    × ReadsInput c read left read' input × AreWithin longest input
    × WritesOutput c t input wrote wrote' status

-- what is read of a command before the lines that it answers, and its work on these: the first line
-- where it lists what is available, and else nothing
pub record HasHead (longest : Option ℕ) (c : LineCommand) (t : Tables) (read mid : Stream)
    (work : Work) : Type 0 where
  pub head : List ℕ
  pub head_read : Consumes read mid head
  pub ends : EndsLines head
  pub within : AreWithin longest head
  pub work_of : (text : List ℕ) → IsWorkOf c t (head ++ text) work
  pub answered : (text : List ℕ) → text_answered c (head ++ text) ≡ text

-- behind that some lines were answered, as far as StopsStream says
abbrev pub StopsAmong : Option ℕ → LineCommand → Tables → Stream → Stream → Stream
    → Stream → CliError → Type 0
StopsAmong longest c t read read' wrote wrote' e = (mid : Stream) × (work : Work)
    × HasHead longest c t read mid work × StopsStream longest work mid read' wrote wrote' e

-- the first line, which lists what is available, was not read whole or lists nothing
abbrev pub StopsListing : Option ℕ → LineCommand → Tables → Stream → Stream → CliError → Type 0
StopsListing longest c t read read' e =
    (ListsOver c.task t × IsUnread (ReadsNoLine longest read read') e)
    ⊎ ((line : List ℕ) × (has_ended : Bool) × (mid : Stream)
    × ReadsLine longest read mid line has_ended × IsUnlisted c t line e)

-- what is left of a command once its tables are loaded, with all of read to answer; of that the
-- reader still held left
abbrev pub StopsLoaded : Option ℕ → Command → Tables → Stream → Stream → Stream → Stream → Stream
    → CliError → Type 0
StopsLoaded longest command.Settled t read left read' wrote wrote' e =
    (read' ≡ left) × StopsSettled t wrote wrote' e
StopsLoaded longest (command.Lines c) t read left read' wrote wrote' e =
    (StopsListing longest c t read read' e × (wrote' ≡ wrote))
    ⊎ StopsAmong longest c t read read' wrote wrote' e

-- what a refused stream leaves, with read and left as above: it stopped before it read more, or once
-- its tables were loaded
abbrev pub IsRefusedStream : Option ℕ → Command → Tables → Stream → Stream → Stream → Stream
    → Stream → CliError → Type 0
IsRefusedStream longest c t read left read' wrote wrote' e =
    (IsUnloaded c t e × (read' ≡ left) × (wrote' ≡ wrote))
    ⊎ StopsLoaded longest c t read left read' wrote wrote' e

-- ---- tables of the first line

-- what follows a line and was read with it is less than what is read at once; left is all else
pub record LeavesBehind (mid left : Stream) : Type 0 where
  pub rest : List ℕ
  pub short : length rest < part_size
  pub behind : mid ≡ prepend_known rest left

-- the first line, however long, was read, and gives tables with these rows
pub record ReadsTablesLine (read mid : Stream) (t : Tables) : Type 0 where
  pub line : List ℕ
  pub has_ended : Bool
  pub reads : ReadsLine None read mid line has_ended
  pub rows : rows_in line ≡ Ok (rows_of t)
  pub alone : StandAlone t

-- the first line, however long, was not read whole, or is refused
abbrev pub ReadsRefused : (List ℕ → CliError → Type 0) → Stream → Stream → CliError
    → Type 0
ReadsRefused IsRefused read read' e = IsUnread (ReadsNoLine None read read') e
    ⊎ ((line : List ℕ) × (has_ended : Bool) × (mid : Stream)
    × ReadsLine None read mid line has_ended × LeavesBehind mid read' × IsRefused line e)

-- ---- tables of the first line, and their supplement of the second

-- the second line, however long, was read, and gives a supplement of tables with these rows
pub record ReadsSupplement (between mid : Stream) (tables t : Tables) : Type 0 where
  pub supplement : Supplement
  pub line : List ℕ
  pub has_ended : Bool
  pub reads : ReadsLine None between mid line has_ended
  pub rows : further.rows_in line ≡ Ok (further.rows_of supplement)
  pub is : t ≡ record tables { supplement = supplement }

-- both lines were read
pub record ReadsBoth (read mid : Stream) (t : Tables) : Type 0 where
  pub tables : Tables
  pub between : Stream
  pub first : ReadsTablesLine read between tables
  pub second : ReadsSupplement between mid tables t
