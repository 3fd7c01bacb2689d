-- The form of the words of what they ask for.
use Rattle.std.specs.Prelude.{◌≡◌, ℕ, Bool, true, false, List, [], ◌∷◌, ◌++◌, codes, Option, None, Some}
use Rattle.icu_locale_extensions.specs.declared.syntax.Syntax.{Syntax}
use Rattle.icu_locale_names.specs.LanguageChains.{chain_word}
use Rattle.icu_locale_lines.specs.CommandWords.{bound_at, exemplars_word, limit_at, subtags_word}
use Rattle.icu_locale_lines.specs.Grammar.{command_by}
use Rattle.icu_locale_lines.specs.CommandWords.{preferences_at, subtag_chain_word, syntax_word, task_word}
use Rattle.icu_locale_lines.specs.declared.asked.Asked.{Asked}
use Rattle.icu_locale_lines.specs.declared.asked.Source.{Source}
use Rattle.icu_locale_lines.specs.declared.asked.Source.TheVariants.{Sample, Json, JsonAndSupplement}
use Rattle.icu_locale_lines.specs.declared.command.Command.{Command}
use Rattle.icu_locale_lines.specs.declared.command.Command.TheVariants.{Settled, Lines}
use Rattle.icu_locale_lines.specs.declared.command.Task.{Task}
use Rattle.icu_locale_lines.specs.declared.command.Task.TheVariants.{Name, SubtagName, Exemplars, Subtags}
use Rattle.icu_locale_lines.specs.declared.given.Given.{Given}

-- the arguments of a task: `text` is that of its preferences
abbrev pub arguments : Task → List ℕ → List (List ℕ)
arguments (Name chain preferences) text = chain_word chain ∷ text ∷ []
arguments (SubtagName chain preferences) text = subtag_chain_word chain ∷ text ∷ []
arguments (Exemplars marker preferences) text = exemplars_word marker ∷ text ∷ []
arguments (Subtags kind preferences) text = subtags_word kind ∷ text ∷ []
arguments task text = []

abbrev pub HasPreferences : Task → List ℕ → Type 0
HasPreferences (Name chain preferences) text = preferences_at text ≡ Some preferences
HasPreferences (SubtagName chain preferences) text = preferences_at text ≡ Some preferences
HasPreferences (Exemplars marker preferences) text = preferences_at text ≡ Some preferences
HasPreferences (Subtags kind preferences) text = preferences_at text ≡ Some preferences
HasPreferences task text = Unit {0}

abbrev pub source_words : Source → List (List ℕ)
source_words Sample = []
source_words Json = codes "json" ∷ []
source_words JsonAndSupplement = codes "json" ∷ codes "supplement" ∷ []

abbrev pub syntax_words : Option Syntax → List (List ℕ)
syntax_words None = []
syntax_words (Some syntax) = syntax_word syntax ∷ []

-- the words of a command, and what follows them
abbrev pub command_words : Command → List ℕ → List (List ℕ) → List (List ℕ)
command_words Settled text ws = codes "settled" ∷ ws
command_words (Lines c) text ws = syntax_words c.syntax ++ (task_word c.task ∷ arguments c.task text ++ ws)

abbrev pub CommandHas : Command → List ℕ → Type 0
CommandHas Settled text = Unit {0}
CommandHas (Lines c) text = HasPreferences c.task text

-- the words of a number, which `text` says
abbrev pub number_words : List ℕ → Option ℕ → List ℕ → List (List ℕ) → List (List ℕ)
number_words name None text ws = ws
number_words name (Some n) text ws = name ∷ text ∷ ws

abbrev pub IsSaid : (List ℕ → Option ℕ) → Option ℕ → List ℕ → Type 0
IsSaid at None text = Unit {0}
IsSaid at (Some n) text = at text ≡ Some n

-- a word, where it is said
abbrev pub word_said : List ℕ → Bool → List (List ℕ) → List (List ℕ)
word_said name true ws = name ∷ ws
word_said name false ws = ws

-- the words of how readers are served and of places, and what follows them
abbrev pub given_words : Given → (threshold demotion : List ℕ) → List (List ℕ) → List (List ℕ)
given_words given threshold demotion ws =
    number_words (codes "threshold") given.threshold threshold
    (number_words (codes "demotion") given.demotion demotion
    (word_said (codes "favor-script") given.favor_script
    (word_said (codes "or-first") given.or_first
    (word_said (codes "places") given.places ws))))

-- words have the form of what is asked for: of a bound, of how readers are served, and of a command that does so
pub record AreWordsOf (asked : Asked) (words : List (List ℕ)) : Type 0 where
  pub number : List ℕ
  pub threshold : List ℕ
  pub demotion : List ℕ
  pub text : List ℕ
  pub given : Given
  pub command : Command
  pub said : IsSaid bound_at asked.longest number
  pub threshold_said : IsSaid limit_at given.threshold threshold
  pub demotion_said : IsSaid limit_at given.demotion demotion
  pub spelled : CommandHas command text
  pub served : command_by given command ≡ Some asked.command
  pub whole : words ≡ number_words (codes "longest") asked.longest number
      (given_words given threshold demotion (command_words command text (source_words asked.source)))
