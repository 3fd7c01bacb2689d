-- What words ask for: `[longest N] [threshold N] [demotion N] [favor-script] [or-first] [places] [locales | bcp47 | posix]
-- COMMAND [json [supplement]]`.
use Rattle.std.specs.Prelude.{◌&&◌, ◌||◌, not, ℕ, Bool, true, false, List, [], ◌∷◌, codes, Option, None, Some, is_some, unwrap_or, if◌then◌else◌}
use Rattle.std.specs.Option.{option_map, option_and_then}
use Rattle.std.specs.Str.{bytes_eq}
use Rattle.icu_locale_extensions.specs.declared.syntax.Syntax.{Syntax}
use Rattle.icu_locale_extensions.specs.declared.syntax.Syntax.TheVariants.{Unicode}
use Rattle.icu_locale_names.specs.declared.options.DisplayNamesPreferences.{DisplayNamesPreferences}
use Rattle.icu_locale_matching.specs.declared.limits.FavorSubtag.TheVariants.{Language, Script}
use Rattle.icu_locale_matching.specs.declared.limits.MatchLimits.{MatchLimits}
use Rattle.icu_locale_lines.specs.declared.asked.Asked.{Asked}
use Rattle.icu_locale_lines.specs.declared.asked.Source.{Source}
use Rattle.icu_locale_lines.specs.declared.asked.Source.TheVariants.{Sample, Json, JsonAndSupplement}
use Rattle.icu_locale_lines.specs.declared.command.Command.{Command}
use Rattle.icu_locale_lines.specs.declared.command.Command.TheVariants.{Settled, Lines}
use Rattle.icu_locale_lines.specs.declared.command.Task.{Task}
use Rattle.icu_locale_lines.specs.declared.command.Task.TheVariants.{Name, Serve, SubtagName, Exemplars, Subtags}
use Rattle.icu_locale_lines.specs.declared.given.Given.{Given}
use Rattle.icu_locale_lines.specs.Tasks.{row_of}
use Rattle.icu_locale_lines.specs.CommandWords.{kind_at, subtags_at, task_at, syntax_at, chain_at, subtag_chain_at, exemplars_at, preferences_at, bound_at, limit_at}

-- what follows `json`
abbrev pub parse_supplement : List (List ℕ) → Option Source
parse_supplement [] = Some Json
parse_supplement (w ∷ []) = if bytes_eq w (codes "supplement") then Some JsonAndSupplement else None
parse_supplement (w ∷ v ∷ ws) = None

-- where the tables come from
abbrev pub parse_source : List (List ℕ) → Option Source
parse_source [] = Some Sample
parse_source (w ∷ ws) = if bytes_eq w (codes "json") then parse_supplement ws else None

-- a command, and where its tables come from
abbrev pub asked_for : Option ℕ → Option Command → Option Source → Option Asked
asked_for longest None source = None
asked_for longest (Some command) None = None
asked_for longest (Some command) (Some source) =
    Some (record { longest = longest; command = command; source = source })

-- a task on lines of a syntax
abbrev pub lines_of : Option Syntax → Task → Command
lines_of syntax task = Lines (record { syntax = syntax; places = false; task = task })

-- a command of one word; `settled` has no syntax
abbrev pub parse_word : Option Syntax → List ℕ → Option Command
parse_word syntax word = if bytes_eq word (codes "settled")
    then (if is_some syntax then None else Some Settled)
    else option_map (lines_of syntax) (task_at word)

-- a choice and a locale come behind a word
abbrev pub has_arguments : List ℕ → Bool
has_arguments w = bytes_eq w (codes "name")
    || (bytes_eq w (codes "exemplars") || (bytes_eq w (codes "list") || is_some (kind_at w)))

-- the task of the word of a kind of subtag
abbrev pub subtag_task : List ℕ → List ℕ → DisplayNamesPreferences → Option Task
subtag_task w choice p = option_and_then
    (λ kind. option_map (λ c. SubtagName c p) (subtag_chain_at kind choice)) (kind_at w)

-- the same, or that of a list of subtags
abbrev pub listed_task : List ℕ → List ℕ → DisplayNamesPreferences → Option Task
listed_task w choice p = if bytes_eq w (codes "list")
    then option_map (λ k. Subtags k p) (subtags_at choice) else subtag_task w choice p

-- the task of a word and of what is chosen, in the language of preferences
abbrev pub named_task : List ℕ → List ℕ → DisplayNamesPreferences → Option Task
named_task w choice p = if bytes_eq w (codes "name")
    then option_map (λ c. Name c p) (chain_at choice)
    else (if bytes_eq w (codes "exemplars")
    then option_map (λ m. Exemplars m p) (exemplars_at choice) else listed_task w choice p)

-- such a command, after its first word
abbrev pub parse_named : Option ℕ → Option Syntax → List ℕ → List (List ℕ) → Option Asked
parse_named longest syntax w (choice ∷ text ∷ ws) = asked_for longest
    (option_map (lines_of syntax) (option_and_then (named_task w choice) (preferences_at text)))
    (parse_source ws)
parse_named longest syntax w ws = None

abbrev pub parse_command : Option ℕ → Option Syntax → List ℕ → List (List ℕ) → Option Asked
parse_command longest syntax w ws = if has_arguments w then parse_named longest syntax w ws
    else asked_for longest (parse_word syntax w) (parse_source ws)

-- a command after the word of a syntax, or without one
abbrev pub parse_behind : Option ℕ → Option Syntax → List ℕ → List (List ℕ) → Option Asked
parse_behind longest None w ws = parse_command longest None w ws
parse_behind longest (Some s) w [] = None
parse_behind longest (Some s) w (v ∷ ws) = parse_command longest (Some s) v ws

abbrev pub parse_lines : Option ℕ → List (List ℕ) → Option Asked
parse_lines longest [] = None
parse_lines longest (w ∷ ws) = parse_behind longest (syntax_at w) w ws

-- whether the next word is this one, and the words that follow it then
abbrev pub word_next : List ℕ → List (List ℕ) → Bool × List (List ℕ)
word_next name [] = (false, [])
word_next name (w ∷ ws) = if bytes_eq w name then (true, ws) else (false, w ∷ ws)

-- the number that the first word says
abbrev pub said_first : (List ℕ → Option ℕ) → List (List ℕ) → Option (Option ℕ × List (List ℕ))
said_first at [] = None
said_first at (w ∷ ws) = option_map (λ n. (Some n, ws)) (at w)

-- the number that follows this word, where that is the next
abbrev pub number_next : (List ℕ → Option ℕ) → List ℕ → List (List ℕ)
    → Option (Option ℕ × List (List ℕ))
number_next at name ws =
    if (word_next name ws).0 then said_first at (word_next name ws).1 else Some (None, ws)

-- the bound of a line, and a limit of a match
abbrev pub longest_next : List (List ℕ) → Option (Option ℕ × List (List ℕ))
longest_next = number_next bound_at (codes "longest")

abbrev pub limit_next : List ℕ → List (List ℕ) → Option (Option ℕ × List (List ℕ))
limit_next = number_next limit_at

-- how readers are served, and whether places are told
abbrev pub given_flags : (threshold demotion : Option ℕ) → List (List ℕ) → Given × List (List ℕ)
given_flags threshold demotion ws =
    let favor = word_next (codes "favor-script") ws in
    let first = word_next (codes "or-first") favor.1 in
    let places = word_next (codes "places") first.1 in (
      record {
        threshold = threshold;
        demotion = demotion;
        favor_script = favor.0;
        or_first = first.0;
        places = places.0;
      },
      places.1,
    )

abbrev pub given_next : List (List ℕ) → Option (Given × List (List ℕ))
given_next ws = option_and_then (λ threshold. option_map
    (λ demotion. given_flags threshold.0 demotion.0 demotion.1)
    (limit_next (codes "demotion") threshold.1)) (limit_next (codes "threshold") ws)

-- nothing is said of how readers are served
abbrev pub is_unsaid : Given → Bool
is_unsaid given = not (is_some given.threshold)
    && (not (is_some given.demotion) && (not given.favor_script && not given.or_first))

-- what is not said is as ICU has it
abbrev pub limits_by : Given → MatchLimits
limits_by given = record {
  threshold = unwrap_or given.threshold 50;
  demotion = unwrap_or given.demotion 5;
  favor = if given.favor_script then Script else Language;
}

-- a task that serves readers does so; of another, nothing is said
abbrev pub task_by : Given → Task → Option Task
task_by given (Serve served) = Some (Serve (record served {
  limits = limits_by given;
  or_first = given.or_first;
}))
task_by given task = if is_unsaid given then Some task else None

-- the place of a fault is told of lines that are each one locale identifier in the syntax of UTS #35
abbrev pub tells_places : Option Syntax → Task → Bool
tells_places (Some Unicode) task = (row_of task).places
tells_places syntax task = false

-- a task on lines of a syntax, with places only where they are told
abbrev pub placed_lines : Bool → Option Syntax → Task → Option Command
placed_lines places syntax task = if places && not (tells_places syntax task) then None
    else Some (Lines (record { syntax = syntax; places = places; task = task }))

abbrev pub command_by : Given → Command → Option Command
command_by given Settled =
    if is_unsaid given && not given.places then Some Settled else None
command_by given (Lines c) =
    option_and_then (placed_lines given.places c.syntax) (task_by given c.task)

abbrev pub asked_by : Given → Asked → Option Asked
asked_by given asked =
    option_map (λ c. record asked { command = c }) (command_by given asked.command)

-- the words of a stream
abbrev pub parse_served : Option ℕ → List (List ℕ) → Option Asked
parse_served longest ws =
    option_and_then (λ g. option_and_then (asked_by g.0) (parse_lines longest g.1)) (given_next ws)

unfoldable pub parse : List (List ℕ) → Option Asked
parse ws = option_and_then (λ longest. parse_served longest.0 longest.1) (longest_next ws)

-- ---- the words of a run: of no bound, no syntax, no supplement and no task for streams alone

abbrev pub is_for_runs : Command → Bool
is_for_runs Settled = true
is_for_runs (Lines c) = not (is_some c.syntax) && not ((row_of c.task).streamed)

-- whether tables come as JSON, where that is a run's
abbrev pub json_of : Source → Option Bool
json_of Sample = Some false
json_of Json = Some true
json_of JsonAndSupplement = None

abbrev pub run_of : Asked → Option (Command × Bool)
run_of asked = if is_for_runs asked.command && not (is_some asked.longest)
    then option_map (λ json. (asked.command, json)) (json_of asked.source) else None

abbrev pub parse_run : List (List ℕ) → Option (Command × Bool)
parse_run words = option_and_then run_of (parse words)
