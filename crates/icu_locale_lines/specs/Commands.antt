-- The tables that each command needs, and the rules that it works by.
use Rattle.std.specs.Prelude.{◌≡◌, ℕ, Bool, true, false, List, ◌&&◌, codes, Option, None, Some, is_some, IsSomeAnd}
use Rattle.std.specs.Option.{option_or}
use Rattle.icu_locale_core.specs.Maps.{value_at}
use Rattle.icu_provider.specs.Requests.{exemplar_cmp}
use Rattle.icu_provider.specs.declared.exemplars.ExemplarCharactersData.{ExemplarCharactersData}
use Rattle.icu_provider.specs.declared.exemplars.ExemplarMarker.{ExemplarMarker}
use Rattle.icu_locale_names.specs.declared.options.DisplayNamesPreferences.{DisplayNamesPreferences}
use Rattle.icu_locale_extensions.specs.declared.syntax.Syntax.{Syntax}
use Rattle.icu_locale.specs.LikelyTable.{likely}
use Rattle.icu_locale.specs.LikelySubtags.{AreSettled}
use Rattle.icu_locale.specs.declared.canonicalizer.rules.ReadRules.{ReadRules}
use Rattle.icu_locale.specs.declared.expander.LocaleExpander.{LocaleExpander}
use Rattle.icu_tables.specs.declared.tables.Tables.{Tables}
use Rattle.icu_locale_lines.specs.Loads.{AreRulesOf, IsExpanderOf, has_likely, has_rules}
use Rattle.icu_locale_lines.specs.Tasks.{row_of}
use Rattle.icu_locale_lines.specs.declared.command.ByRules.{ByRules}
use Rattle.icu_locale_lines.specs.declared.command.ByRules.TheVariants.{Always, InSyntax, Never}
use Rattle.icu_locale_lines.specs.declared.command.Command.{Command}
use Rattle.icu_locale_lines.specs.declared.command.Command.TheVariants.{Settled, Lines}
use Rattle.icu_locale_lines.specs.declared.command.LineCommand.{LineCommand}
use Rattle.icu_locale_lines.specs.declared.command.Task.{Task}
use Rattle.icu_locale_lines.specs.declared.command.Task.TheVariants.{Canonicalize, Direction, Negotiate, Name, Serve, Distance, Parts, Key, Validate, SubtagName, Exemplars, Subtags}

-- a task on lines that are identifiers alone
abbrev pub plain : Task → LineCommand
plain task = record { syntax = None; places = false; task = task }

-- the match rules of a supplement are held
abbrev pub has_matching : Tables → Bool
has_matching t = is_some t.supplement.matching

-- a set of exemplar characters of a locale, if it is held
abbrev pub exemplars_in : Tables → ExemplarMarker → DisplayNamesPreferences
    → Option ExemplarCharactersData
exemplars_in t marker preferences =
    value_at exemplar_cmp t.exemplars (marker, preferences.locale)

-- the tables that a task needs are held; names and `parts` need none
abbrev pub holds_for : Task → Tables → Bool
holds_for Canonicalize t = has_rules t
holds_for (Key of) t = has_rules t
holds_for Direction t = has_likely t && is_some t.script_direction
holds_for (Name chain preferences) t = true
holds_for (Serve served) t = has_matching t && has_rules t
holds_for Distance t = has_matching t && has_likely t
holds_for Parts t = true
holds_for Validate t = is_some t.supplement.validity
holds_for (SubtagName chain preferences) t = true
holds_for (Subtags kind preferences) t = true
holds_for (Exemplars marker preferences) t = is_some (exemplars_in t marker preferences)
holds_for task t = has_likely t

-- the tables that a command needs are held
abbrev pub has_tables : Command → Tables → Bool
has_tables Settled t = has_likely t
has_tables (Lines c) t = holds_for c.task t

-- a table's name in its JSON text, where the table is not held
abbrev pub unless : Bool → List ℕ → Option (List ℕ)
unless true name = None
unless false name = Some name

abbrev pub missing_likely : Tables → Option (List ℕ)
missing_likely t = option_or (unless (is_some t.likely_language) (codes "likely_language"))
    (unless (is_some t.likely_script_region) (codes "likely_script_region"))

abbrev pub missing_rules : Tables → Option (List ℕ)
missing_rules t =
    option_or (missing_likely t) (unless (is_some t.aliases) (codes "aliases"))

-- the first table that a task needs and that is not held, by its name in JSON
abbrev pub missing_for : Task → Tables → Option (List ℕ)
missing_for Canonicalize t = missing_rules t
missing_for (Key of) t = missing_rules t
missing_for Direction t =
    option_or (missing_likely t) (unless (is_some t.script_direction) (codes "direction"))
missing_for (Name chain preferences) t = None
missing_for (Serve served) t =
    option_or (unless (has_matching t) (codes "matching")) (missing_rules t)
missing_for Distance t =
    option_or (unless (has_matching t) (codes "matching")) (missing_likely t)
missing_for Parts t = None
missing_for Validate t = unless (is_some t.supplement.validity) (codes "validity")
missing_for (SubtagName chain preferences) t = None
missing_for (Subtags kind preferences) t = None
missing_for (Exemplars marker preferences) t =
    unless (is_some (exemplars_in t marker preferences)) (codes "exemplars")
missing_for task t = missing_likely t

-- names are those of canonical forms: in a syntax, where the tables have rules
abbrev pub names_canonical : Option Syntax → Tables → Bool
names_canonical syntax t = is_some syntax && has_rules t

-- a command works by rules, which are read before its first line and take memory
abbrev pub works_by_rules : ByRules → Option Syntax → Tables → Bool
works_by_rules Always syntax t = true
works_by_rules InSyntax syntax t = names_canonical syntax t
works_by_rules Never syntax t = false

abbrev pub reads_rules : LineCommand → Tables → Bool
reads_rules c t = works_by_rules (row_of c.task).rules c.syntax t

-- the rules by which a command works are there, read of the aliases
abbrev pub HasRules : LineCommand → Tables → Option ReadRules → Type 0
HasRules c t rules = reads_rules c t ≡ true → IsSomeAnd rules (AreRulesOf t)

-- a command reads rules, and its tables are all held
abbrev pub ReadsRules : Command → Tables → Type 0
ReadsRules Settled t = ⊥
ReadsRules (Lines c) t = (reads_rules c t ≡ true) × (holds_for c.task t ≡ true)

-- a command answers lines
abbrev pub AnswersLines : Command → Type 0
AnswersLines Settled = ⊥
AnswersLines (Lines c) = Unit {0}

-- a command negotiates
abbrev pub Negotiates : Command → Type 0
Negotiates Settled = ⊥
Negotiates (Lines c) = c.task ≡ Negotiate

-- `negotiate` is asked over likely tables that are not settled
pub record IsUnsettled (c : Command) (t : Tables) : Type 0 where
  pub negotiates : Negotiates c
  pub held : has_likely t ≡ true
  pub unsettled : (e : LocaleExpander) → IsExpanderOf t e → ¬ (AreSettled (likely e))

-- the likely tables are held and settled
abbrev pub HoldsSettled : Tables → Type 0
HoldsSettled t = (e : LocaleExpander) × IsExpanderOf t e × AreSettled (likely e)

-- a task takes its first line for what is available, over tables that may be asked for it
abbrev pub ListsOver : Task → Tables → Type 0
ListsOver Negotiate t = HoldsSettled t
ListsOver (Serve served) t = holds_for (Serve served) t ≡ true
ListsOver task t = ⊥
