-- The row of each task: what it asks for beside its line, and who may ask for it.
use Rattle.std.specs.Prelude.{Bool, true, false}
use Rattle.icu_locale_lines.specs.declared.command.ByRules.{ByRules}
use Rattle.icu_locale_lines.specs.declared.command.ByRules.TheVariants.{Always, InSyntax, Never}
use Rattle.icu_locale_lines.specs.declared.command.Task.{Task}
use Rattle.icu_locale_lines.specs.declared.command.Task.TheVariants.{Form, Canonicalize, Direction, Negotiate, Name, Fallback, Serve, Distance, Parts, Key, Validate, SubtagName, Exemplars, Subtags}
use Rattle.icu_locale_lines.specs.declared.command.TaskRow.{TaskRow}

-- when it works by rules, whether its first line lists what is available, whether streams alone have
-- it, and whether the place of the fault of its line may be told
abbrev pub task_row : ByRules → (lists streamed places : Bool) → TaskRow
task_row rules lists streamed places =
    record { rules = rules; lists = lists; streamed = streamed; places = places }

abbrev pub row_of : Task → TaskRow
row_of (Form form) = task_row Never false false true
row_of Canonicalize = task_row Always false false true
row_of Direction = task_row Never false false true
row_of Negotiate = task_row Never true false false
row_of (Name chain preferences) = task_row InSyntax false false true
row_of Fallback = task_row Never false true true
row_of (Serve served) = task_row Always true true false
row_of Distance = task_row Never false true false
row_of Parts = task_row Never false true true
row_of (Key of) = task_row Always false true true
row_of Validate = task_row Never false true true
row_of (SubtagName chain preferences) = task_row Never false true false
row_of (Exemplars marker preferences) = task_row Never false true false
row_of (Subtags kind preferences) = task_row Never false true false

-- a task asks for a list of what is available
abbrev pub asks_list : Task → Bool
asks_list task = (row_of task).lists
