-- What the calls answer.
use Rattle.std.specs.Prelude.{◌≡◌, ◌<◌, ◌≤◌, ℕ, ◌-◌, Bool, true, false, List, take, drop, length, Option, None, Some, Result, Ok, Err, IsSomeAnd, ℤ, pos}
use Rattle.std.specs.List.{slice_split}
use Rattle.std.specs.Str.{IsUtf8}
use Rattle.icu_tables.specs.Rows.{rows_of}
use Rattle.icu_tables.specs.File.{rows_in}
use Rattle.icu_tables.specs.Supplement as further
use Rattle.icu_tables.specs.declared.error.TableError.TheVariants as table
use Rattle.icu_tables.specs.declared.supplement.Supplement.{Supplement}
use Rattle.icu_locale_lines.specs.Answers.{IsAnswer}
use Rattle.icu_locale_lines.specs.Commands.{has_tables}
use Rattle.icu_locale_lines.specs.Grammar.{parse}
use Rattle.icu_locale_lines.specs.Lists.{is_space}
use Rattle.icu_locale_lines.specs.WholeRuns.{StandAlone, TellsSettled}
use Rattle.icu_locale_lines.specs.declared.command.Command.TheVariants.{Settled, Lines}
use Rattle.icu_locale_lines.specs.declared.asked.Asked.{Asked}
use Rattle.icu_locale_lines.specs.declared.asked.Source.TheVariants.{Sample}
use Rattle.icu_locale_lines.specs.declared.command.LineCommand.{LineCommand}
use Rattle.icu_locale_lines.specs.declared.command.Task.TheVariants.{Negotiate}
use Rattle.icu_locale_lines.specs.declared.work.Work.{Work}
use Rattle.icu_locale_c.specs.Asked.{HasList, HasUnsettledList}
use Rattle.icu_locale_lines.specs.Tasks.{asks_list}
use Rattle.icu_locale_lines.specs.Held.{Held, IsWorkOver, without_list}
use Rattle.icu_locale_c.specs.declared.refusal.Refusal.{Refusal}
use Rattle.icu_locale_c.specs.declared.refusal.Refusal.TheVariants as refusal

-- a command is asked for, without a bound and over the tables that are held
abbrev pub plainly : LineCommand → Asked
plainly c = record { longest = None; command = Lines c; source = Sample }

-- a text names a command of a stream: its words are between single spaces
abbrev pub Names : List ℕ → LineCommand → Type 0
Names command c = parse (slice_split is_space command) ≡ Some (plainly c)

-- a text in UTF-8 that names none
abbrev pub NamesNone : List ℕ → Type 0
NamesNone command = IsUtf8 command → (c : LineCommand) → ¬ (Names command c)

-- a line of the program without its last byte, which is its line feed
abbrev pub unended : List ℕ → List ℕ
unended line = take (length line - 1) line

-- what the program writes for a line, without its line feed, and whether the line is accepted
pub record IsAnswerTo (h : Held) (command line text : List ℕ) (accepted : Bool) : Type 0 where
  pub asked : LineCommand
  pub named : Names command asked
  pub work : Work
  pub work_of : IsWorkOver asked h work
  pub whole : List ℕ
  pub answer : IsAnswer work line whole accepted
  pub text_is : text ≡ unended whole

-- the answer has no room: how much it wants is told
pub record WantsRoom (h : Held) (command line out : List ℕ) (written : ℕ) : Type 0 where
  pub text : List ℕ
  pub accepted : Bool
  pub answer : IsAnswerTo h command line text accepted
  pub wanted : written ≡ length text
  pub short : length out < length text

-- the text names a command, the list is there that this asks for, if it asks for one, and whether
-- the tables that it needs are held
pub record NeedsTables (h : Held) (command : List ℕ) (held : Bool) : Type 0 where
  pub asked : LineCommand
  pub named : Names command asked
  pub listed : HasList h asked
  pub are_held : has_tables (Lines asked) h.tables ≡ held

-- the text names a task that asks for a list, in a syntax or none
abbrev pub NamesListed : List ℕ → Type 0
NamesListed command = (c : LineCommand) × Names command c × (asks_list c.task ≡ true)

-- the text names `negotiate`, in a syntax or none
abbrev pub NamesNegotiate : List ℕ → Type 0
NamesNegotiate command = (c : LineCommand) × Names command c × (c.task ≡ Negotiate)

-- why there is no answer, whatever the room: the handle is asked first, then the words, then a list,
-- and then the tables
abbrev pub HasNoAnswer : Option Held → List ℕ → Refusal → Type 0
HasNoAnswer held command refusal.Closed = held ≡ None
HasNoAnswer held command refusal.Memory = IsSomeAnd held (λ h. NeedsTables h command true)
HasNoAnswer held command refusal.Command = IsSomeAnd held (λ h. NamesNone command)
HasNoAnswer held command refusal.Table = IsSomeAnd held (λ h. NeedsTables h command false)
HasNoAnswer held command refusal.Negotiate =
    IsSomeAnd held (λ h. NamesListed command × (h.available ≡ None))
HasNoAnswer held command refusal.Unsettled =
    IsSomeAnd held (λ h. NamesNegotiate command × HasUnsettledList h)
HasNoAnswer held command e = ⊥

-- why nothing is answered: too little room tells how much is wanted, and all else tells no length
abbrev pub IsRefusedCall : Option Held → List ℕ → List ℕ → List ℕ → ℕ → Refusal → Type 0
IsRefusedCall held command line out written refusal.Room =
    IsSomeAnd held (λ h. WantsRoom h command line out written)
IsRefusedCall held command line out written e = (written ≡ 0) × HasNoAnswer held command e

-- so many bytes are written at the beginning of `out`, and the others are as they were
pub record Writes (out out' : List ℕ) (written : ℕ) : Type 0 where
  pub within : written ≤ length out'
  pub behind : drop written out' ≡ drop written out

-- a call over what is held: `out` begins with the answer, or is as it was
abbrev pub IsCall : Option Held → List ℕ → List ℕ → List ℕ → List ℕ → ℕ
    → Result Bool Refusal → Type 0
IsCall held command line out out' written (Ok accepted) =
    IsSomeAnd held (λ h. IsAnswerTo h command line (take written out') accepted)
    × Writes out out' written
IsCall held command line out out' written (Err e) =
    (out' ≡ out) × IsRefusedCall held command line out written e

-- why no tables are read
abbrev pub IsRefusedOpen : List ℕ → Refusal → Type 0
IsRefusedOpen json refusal.Json = rows_in json ≡ Err table.Json
IsRefusedOpen json refusal.Shape = rows_in json ≡ Err table.Shape
IsRefusedOpen json refusal.Memory = Unit {0}
IsRefusedOpen json e = ⊥

-- tables are read and held alone, without a list, or what was held stays
abbrev pub IsOpened : List ℕ → Option Held → Option Held → Result (Unit {0}) Refusal → Type 0
IsOpened json old new (Ok u) =
    IsSomeAnd new (λ h. (rows_in json ≡ Ok (rows_of h.tables))
    × StandAlone h.tables × (h.available ≡ None))
IsOpened json old new (Err e) = (new ≡ old) × IsRefusedOpen json e

-- what is held, with another supplement of its tables
abbrev pub with_supplement : Held → Supplement → Held
with_supplement h s = record {
  tables = record h.tables { supplement = s };
  available = h.available;
  wholes = h.wholes;
}

-- why the tables are given no supplement; that another handle has them too is told by no clause
abbrev pub IsRefusedSupplement : Option Held → List ℕ → Refusal → Type 0
IsRefusedSupplement held json refusal.Closed = held ≡ None
IsRefusedSupplement held json refusal.Json =
    IsSomeAnd held (λ h. further.rows_in json ≡ Err table.Json)
IsRefusedSupplement held json refusal.Shape =
    IsSomeAnd held (λ h. further.rows_in json ≡ Err table.Shape)
IsRefusedSupplement held json refusal.Memory = IsSomeAnd held (λ h. Unit {0})
IsRefusedSupplement held json refusal.Shared =
    IsSomeAnd held (λ h. (s : Supplement) × (further.rows_in json ≡ Ok (further.rows_of s)))
IsRefusedSupplement held json e = ⊥

-- the tables that are held get the supplement of a text in place of theirs, or all stays
abbrev pub IsSupplemented : Option Held → List ℕ → Option Held → Result (Unit {0}) Refusal
    → Type 0
IsSupplemented old json new (Ok u) = IsSomeAnd old (λ h. (s : Supplement)
    × (further.rows_in json ≡ Ok (further.rows_of s)) × (new ≡ Some (with_supplement h s)))
IsSupplemented old json new (Err e) = (new ≡ old) × IsRefusedSupplement old json e

-- the same tables are held twice, the second time without a list, or what was held stays
abbrev pub IsShared : Option Held → Option Held → Option Held → Result (Unit {0}) Refusal → Type 0
IsShared from old new (Ok u) =
    IsSomeAnd from (λ h. new ≡ Some (without_list h.tables))
IsShared from old new (Err refusal.Closed) = (new ≡ old) × (from ≡ None)
IsShared from old new (Err refusal.Memory) = (new ≡ old) × IsSomeAnd from (λ h. Unit {0})
IsShared from old new (Err e) = ⊥

-- whether the tables that are held are settled
abbrev pub IsSettledCall : Option Held → Result Bool Refusal → Type 0
IsSettledCall held (Ok settled) = IsSomeAnd held (λ h. TellsSettled h.tables settled)
IsSettledCall held (Err refusal.Closed) = held ≡ None
IsSettledCall held (Err refusal.Table) = IsSomeAnd held (λ h. has_tables Settled h.tables ≡ false)
IsSettledCall held (Err e) = ⊥

-- the number of a refusal
abbrev pub number : Refusal → ℤ
number refusal.Closed = pos 2
number refusal.Room = pos 3
number refusal.Memory = pos 4
number refusal.Json = pos 5
number refusal.Shape = pos 6
number refusal.Command = pos 7
number refusal.Table = pos 8
number refusal.Negotiate = pos 9
number refusal.List = pos 10
number refusal.Unsettled = pos 11
number refusal.Shared = pos 12

-- the number of what a call did that gives nothing: 0 where it did it
abbrev pub done_number : Result (Unit {0}) Refusal → ℤ
done_number (Ok u) = pos 0
done_number (Err e) = number e

-- the number of an answer: 0 where the line is accepted or a request is met, and 1 where not
abbrev pub answer_number : Result Bool Refusal → ℤ
answer_number (Ok true) = pos 0
answer_number (Ok false) = pos 1
answer_number (Err e) = number e

-- the number of a yes or a no: 1 and 0
abbrev pub yes_number : Result Bool Refusal → ℤ
yes_number (Ok true) = pos 1
yes_number (Ok false) = pos 0
yes_number (Err e) = number e
