-- What is done that words ask for.
use Rattle.std.specs.Prelude.{◌≡◌, ◌⊎◌, ℕ, Bool, true, false, List, Option, Some, Ok}
use Rattle.icu_tables.specs.Rows.{rows_of}
use Rattle.icu_tables.specs.File.{rows_in}
use Rattle.icu_tables.specs.Supplement as further
use Rattle.icu_tables.specs.declared.supplement.Supplement.{Supplement}
use Rattle.icu_tables.specs.declared.tables.Tables.{Tables}
use Rattle.icu_locale_lines.specs.declared.command.Command.{Command}
use Rattle.icu_locale_lines.specs.declared.asked.Asked.{Asked}
use Rattle.icu_locale_lines.specs.declared.asked.Source.{Source}
use Rattle.icu_locale_lines.specs.declared.asked.Source.TheVariants as source
use Rattle.icu_locale_lines.specs.declared.error.CliError.{CliError}
use Rattle.icu_locale_lines.specs.declared.error.CliError.TheVariants as error
use Rattle.icu_locale_lines.specs.declared.runs.Status.{Status}
use Rattle.icu_locale_lines.specs.declared.sample_tables.TheConstants.{SAMPLE, SAMPLE_SUPPLEMENT}
use Rattle.icu_locale_lines.specs.Grammar.{parse, parse_run}
use Rattle.icu_locale_lines.specs.Lines.{Stream}
use Rattle.icu_locale_lines.specs.Refusals.{IsRefusedReading, IsRefusedSupplement}
use Rattle.icu_locale_lines.specs.Streams.{IsRunWithin, IsRefusedStream, ReadsTablesLine, ReadsBoth, ReadsRefused, LeavesBehind}
use Rattle.icu_locale_lines.specs.WholeRuns.{StandAlone, IsRun, IsRefusedRun, IsJsonRun, IsRefusedJsonRun}

-- the tables of the sample
abbrev pub IsSample : Tables → Type 0
IsSample t = (rows_in SAMPLE.now ≡ Ok (rows_of t)) × StandAlone t

-- the tables of the sample with their supplement
pub record IsWholeSample (t : Tables) : Type 0 where
  pub sample : Tables
  pub rows : IsSample sample
  pub supplement : Supplement
  pub supplement_rows : further.rows_in SAMPLE_SUPPLEMENT.now ≡ Ok (further.rows_of supplement)
  pub is : t ≡ record sample { supplement = supplement }

-- nothing was read or written
abbrev pub LeavesAll : Stream → Stream → Stream → Stream → Type 0
LeavesAll read read' wrote wrote' = (read' ≡ read) × (wrote' ≡ wrote)

-- ---- runs

-- a run of a command: over the tables of the first line where json is true, else over the sample
abbrev pub IsRunBy : Command → Bool → Stream → Stream → Stream → Stream → Status → Type 0
IsRunBy c true read read' wrote wrote' status = IsJsonRun c read read' wrote wrote' status
IsRunBy c false read read' wrote wrote' status =
    (t : Tables) × IsSample t × IsRun c t read read' wrote wrote' status

-- what such a run leaves where it is refused; the sample may find no memory
abbrev pub IsRefusedRunBy : Command → Bool → Stream → Stream → Stream → Stream → CliError → Type 0
IsRefusedRunBy c true read read' wrote wrote' e = IsRefusedJsonRun c read read' wrote wrote' e
IsRefusedRunBy c false read read' wrote wrote' e =
    ((e ≡ error.Memory) × LeavesAll read read' wrote wrote')
    ⊎ ((t : Tables) × IsSample t × IsRefusedRun c t read read' wrote wrote' e)

-- the run of the command that words name
abbrev pub IsWordsRun : List (List ℕ) → Stream → Stream → Stream → Stream → Status → Type 0
IsWordsRun words read read' wrote wrote' status = (c : Command) × (json : Bool)
    × (parse_run words ≡ Some (c, json)) × IsRunBy c json read read' wrote wrote' status

-- what is left where words name no command, or its run is refused
abbrev pub IsRefusedWordsRun : List (List ℕ) → Stream → Stream → Stream → Stream → CliError → Type 0
IsRefusedWordsRun words read read' wrote wrote' e =
    ((e ≡ error.Usage) × LeavesAll read read' wrote wrote')
    ⊎ ((c : Command) × (json : Bool) × (parse_run words ≡ Some (c, json))
    × IsRefusedRunBy c json read read' wrote wrote' e)

-- ---- streams

-- the tables of a source were read, and mid is what is left after them, of which the reader still
-- holds left
abbrev pub ReadsFrom : Source → (read mid left : Stream) → Tables → Type 0
ReadsFrom source.Sample read mid left t = IsWholeSample t × (mid ≡ read) × (left ≡ read)
ReadsFrom source.Json read mid left t = ReadsTablesLine read mid t × LeavesBehind mid left
ReadsFrom source.JsonAndSupplement read mid left t = ReadsBoth read mid t × LeavesBehind mid left

-- none were read: the sample may find no memory, and a line may be refused
abbrev pub ReadsNone : Source → Stream → Stream → CliError → Type 0
ReadsNone source.Sample read read' e = (e ≡ error.Memory) × (read' ≡ read)
ReadsNone source.Json read read' e = ReadsRefused IsRefusedReading read read' e
ReadsNone source.JsonAndSupplement read read' e = ReadsRefused IsRefusedReading read read' e
    ⊎ ((tables : Tables) × (between : Stream) × ReadsTablesLine read between tables
    × ReadsRefused IsRefusedSupplement between read' e)

-- a stream of a command over tables that come from a source
abbrev pub IsStreamFrom : Source → Option ℕ → Command → Stream → Stream → Stream → Stream → Status
    → Type 0
IsStreamFrom source longest c read read' wrote wrote' status = (t : Tables) × (mid : Stream)
    × (left : Stream) × ReadsFrom source read mid left t
    × IsRunWithin longest c t mid left read' wrote wrote' status

-- what such a stream leaves where it is refused
abbrev pub IsRefusedStreamFrom : Source → Option ℕ → Command → Stream → Stream → Stream → Stream
    → CliError → Type 0
IsRefusedStreamFrom source longest c read read' wrote wrote' e =
    (ReadsNone source read read' e × (wrote' ≡ wrote))
    ⊎ ((t : Tables) × (mid : Stream) × (left : Stream) × ReadsFrom source read mid left t
    × IsRefusedStream longest c t mid left read' wrote wrote' e)

-- the stream that words ask for
abbrev pub IsWordsStream : List (List ℕ) → Stream → Stream → Stream → Stream → Status → Type 0
IsWordsStream words read read' wrote wrote' status = (asked : Asked) × (parse words ≡ Some asked)
    × IsStreamFrom asked.source asked.longest asked.command read read' wrote wrote' status

-- what is left where words ask for none, or it is refused
abbrev pub IsRefusedWordsStream : List (List ℕ) → Stream → Stream → Stream → Stream → CliError
    → Type 0
IsRefusedWordsStream words read read' wrote wrote' e =
    ((e ≡ error.Usage) × LeavesAll read read' wrote wrote')
    ⊎ ((asked : Asked) × (parse words ≡ Some asked)
    × IsRefusedStreamFrom asked.source asked.longest asked.command read read' wrote wrote' e)
