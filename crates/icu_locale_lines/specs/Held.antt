-- What is kept beside tables, and the work over what is held.
use Rattle.std.specs.Prelude.{◌≡◌, ℕ, Bool, true, false, List, [], Option, Some, None, IfSome, IsSomeAnd, IsSome, option_map, if◌then◌else◌}
use Rattle.std.specs.Option.{option_copied, option_or}
use Rattle.icu_locale_core.specs.Maps.{value_at}
use Rattle.icu_locale_core.specs.declared.langid.LanguageIdentifier.{LanguageIdentifier}
use Rattle.icu_locale_extensions.specs.declared.identifier.LocaleIdentifier.{LocaleIdentifier}
use Rattle.icu_locale_extensions.specs.declared.syntax.Syntax.{Syntax}
use Rattle.icu_provider.specs.Requests.{locale_cmp}
use Rattle.icu_provider.specs.declared.aliases.Aliases.{Aliases}
use Rattle.icu_provider.specs.declared.matching.LanguageMatching.{LanguageMatching}
use Rattle.icu_tables.specs.LentNames.{all_names}
use Rattle.icu_tables.specs.declared.tables.Tables.{Tables}
use Rattle.icu_locale.specs.LikelyTable.{likely}
use Rattle.icu_locale.specs.LikelySubtags.{LikelySubtags, AreSettled}
use Rattle.icu_locale.specs.Negotiation.{IsMadeOver, Negotiation, identifiers_of}
use Rattle.icu_locale.specs.RuleSet.{rules_over}
use Rattle.icu_locale.specs.Rules.{AreRules}
use Rattle.icu_locale.specs.declared.canonicalizer.rules.ReadRules.{ReadRules}
use Rattle.icu_locale.specs.declared.expander.LocaleExpander.{LocaleExpander}
use Rattle.icu_locale_fallback.specs.declared.fallbacker.LocaleFallbackPriority.TheVariants.{Language}
use Rattle.icu_locale_matching.specs.Service.{Service, IsPreparedOver}
use Rattle.icu_locale_matching.specs.Service as service
use Rattle.icu_locale_matching.specs.declared.limits.MatchLimits.{MatchLimits}
use Rattle.icu_locale_matching.specs.declared.server.ServedLocales.{ServedLocales}
use Rattle.icu_locale_names.specs.declared.name_chain.NameChain.{NameChain}
use Rattle.icu_locale_names.specs.declared.options.DisplayNamesPreferences.{DisplayNamesPreferences}
use Rattle.icu_locale_values.specs.declared.canonicalizer.WholeCanonicalizer.{WholeCanonicalizer}
use Rattle.icu_locale_lines.specs.Commands.{HasRules, exemplars_in, has_tables, names_canonical, ListsOver}
use Rattle.icu_locale_lines.specs.Lines.{after_first_line, first_line}
use Rattle.icu_locale_lines.specs.Lists.{listed, IsAvailable}
use Rattle.icu_locale_lines.specs.Loads.{AreRulesOf, IsExpanderOf, IsWholeOf, has_likely, not_found}
use Rattle.icu_locale_lines.specs.Refusals.{IsFaultyList}
use Rattle.icu_locale_lines.specs.Tasks.{asks_list}
use Rattle.icu_locale_lines.specs.declared.command.Command.TheVariants.{Lines}
use Rattle.icu_locale_lines.specs.declared.command.LineCommand.{LineCommand}
use Rattle.icu_locale_lines.specs.declared.command.ServeTask.{ServeTask}
use Rattle.icu_locale_lines.specs.declared.command.Task.{Task}
use Rattle.icu_locale_lines.specs.declared.command.Task.TheVariants.{Form, Canonicalize, Direction, Negotiate, Name, Fallback, Serve, Distance, Parts, Key, Validate, SubtagName, Exemplars, Subtags}
use Rattle.icu_locale_lines.specs.declared.error.CliError.{CliError}
use Rattle.icu_locale_lines.specs.declared.error.CliError.TheVariants.{Data}
use Rattle.icu_locale_lines.specs.declared.session.Session.{Session}
use Rattle.icu_locale_lines.specs.declared.session.list.KeptList.{KeptList}
use Rattle.icu_locale_lines.specs.declared.session.list.KeptList.TheVariants.{Settled, Unsettled}
use Rattle.icu_locale_lines.specs.declared.work.Tools.{Tools}
use Rattle.icu_locale_lines.specs.declared.work.Tools.TheVariants as tools
use Rattle.icu_locale_lines.specs.declared.work.Work.{Work}
use Rattle.icu_locale_lines.specs.declared.work.name.Naming.{Naming}
use Rattle.icu_locale_lines.specs.declared.work.subtag.SubtagChain.{SubtagChain}
use Rattle.icu_locale_lines.specs.declared.work.subtag.SubtagNaming.{SubtagNaming}

-- tables, the available identifiers, as they were handed in, and the locale identifiers that are
-- written for them where the list was read in a syntax
pub record Held : Type 0 where
  pub tables : Tables
  pub available : Option (List LanguageIdentifier)
  pub wholes : List LocaleIdentifier

-- tables without a list
abbrev pub without_list : Tables → Held
without_list t = record { tables = t; available = None; wholes = [] }

-- ---- the work over what is held

-- a negotiation: the likely tables are settled, and the list is the one that is held
pub record IsNegotiationOf (h : Held) (n : Negotiation) : Type 0 where
  pub expander : IsExpanderOf h.tables n.expander
  pub settled : AreSettled (likely n.expander)
  pub available : h.available ≡ Some n.available

-- a server: over the likely tables, rules and match rules, and the list that is held, within limits
pub record IsServerOver (h : Held) (limits_are : MatchLimits) (s : Service) : Type 0 where
  pub expander : IsExpanderOf h.tables s.expander
  pub rules : IsSomeAnd h.tables.aliases (λ table. AreRules table s.rules)
  pub matching : h.tables.supplement.matching ≡ Some s.matching
  pub limits : s.limits ≡ limits_are
  pub available : h.available ≡ Some s.available

-- canonical forms are named, by the rules of tables, or none is
abbrev pub IsNamedBy : Bool → Tables → Option WholeCanonicalizer → Type 0
IsNamedBy true t canonicalizer = IsSomeAnd canonicalizer (IsWholeOf t)
IsNamedBy false t canonicalizer = canonicalizer ≡ None

-- what gives names by a chain and in the language of preferences, over tables
pub record IsNamingOf (syntax : Option Syntax) (chain : NameChain)
    (preferences : DisplayNamesPreferences) (t : Tables) (n : Naming) : Type 0 where
  pub tables : n.tables.tables.now ≡ t
  pub names : n.tables.names ≡ all_names t
  pub chain_is : n.chain ≡ chain
  pub preferences_are : n.preferences ≡ preferences
  pub extensions : option_copied n.extensions
      ≡ value_at locale_cmp t.supplement.extension_names preferences.locale
  pub canonicalizer : IsNamedBy (names_canonical syntax t) t n.canonicalizer

-- what gives names of subtags, over tables
pub record IsSubtagNamingOf (chain : SubtagChain) (preferences : DisplayNamesPreferences)
    (t : Tables) (n : SubtagNaming) : Type 0 where
  pub tables : n.tables.tables.now ≡ t
  pub names : n.tables.names ≡ all_names t
  pub chain_is : n.chain ≡ chain
  pub preferences_are : n.preferences ≡ preferences

-- the tools of a task; those of `negotiate` and of tasks that serve are over the list, and write it
-- as it was read
abbrev pub AreToolsOver : Option Syntax → Task → Held → Tools → Type 0
AreToolsOver syntax (Form form) h (tools.Form other e) =
    (other ≡ form) × IsExpanderOf h.tables e
AreToolsOver syntax Canonicalize h (tools.Canonicalize k) = IsWholeOf h.tables k
AreToolsOver syntax Direction h (tools.Direction d) = IsExpanderOf h.tables d.expander
    × (h.tables.script_direction ≡ Some d.script_direction.now)
AreToolsOver syntax Negotiate h (tools.Negotiate n offered) =
    IsNegotiationOf h n × (offered.now.wholes.items ≡ h.wholes)
AreToolsOver syntax (Name chain preferences) h (tools.Name n) =
    IsNamingOf syntax chain preferences h.tables n
AreToolsOver syntax Fallback h (tools.Fallback f) = IsExpanderOf h.tables f.fallbacker.expander
    × (f.fallbacker.parents.now ≡ h.tables.supplement.parents) × (f.config.priority ≡ Language)
AreToolsOver syntax (Serve served) h (tools.Serve how s offered) = (how ≡ served)
    × IsServerOver h served.limits s × (offered.now.wholes.items ≡ h.wholes)
AreToolsOver syntax Distance h (tools.Distance e matching) =
    IsExpanderOf h.tables e × (h.tables.supplement.matching ≡ Some matching.now)
AreToolsOver syntax Parts h tools.Parts = Unit {0}
AreToolsOver syntax (Key of) h (tools.Key other k) = (other ≡ of) × IsWholeOf h.tables k
AreToolsOver syntax Validate h (tools.Validate v) = h.tables.supplement.validity ≡ Some v.now
AreToolsOver syntax (SubtagName chain preferences) h (tools.SubtagName n) =
    IsSubtagNamingOf chain preferences h.tables n
AreToolsOver syntax (Exemplars marker preferences) h (tools.Exemplars set) =
    exemplars_in h.tables marker preferences ≡ Some set.now
AreToolsOver syntax (Subtags kind preferences) h (tools.Subtags list) =
    (list.tables.now ≡ h.tables) × (list.kind ≡ kind) × (list.locale ≡ preferences.locale)
AreToolsOver syntax task h other = ⊥

-- the work of a command over what is held
pub record IsWorkOver (c : LineCommand) (h : Held) (work : Work) : Type 0 where
  pub syntax : work.syntax ≡ c.syntax
  pub places : work.places ≡ c.places
  pub tools : AreToolsOver c.syntax c.task h work.tools

-- what is held is what a line lists, each text read as the lines are
abbrev pub HoldsList : Option Syntax → List ℕ → Held → Type 0
HoldsList syntax line h =
    IsSomeAnd h.available (λ ids. IsAvailable syntax (listed line) ids h.wholes)

-- what a command works over: tables, and the list of its first line where it asks for one
pub record IsHeldFor (c : LineCommand) (t : Tables) (input : List ℕ) (h : Held) : Type 0 where
  pub tables : h.tables ≡ t
  pub list : asks_list c.task ≡ true → HoldsList c.syntax (first_line input) h

-- the work of a command over tables, for an input
pub record IsWorkOf (c : LineCommand) (t : Tables) (input : List ℕ) (work : Work) : Type 0 where
  pub held : Held
  pub for : IsHeldFor c t input held
  pub over : IsWorkOver c held work

-- the text whose lines a command answers: without the first, where that lists what is available
abbrev pub text_answered : LineCommand → List ℕ → List ℕ
text_answered c input = if asks_list c.task then after_first_line input else input

-- ---- what a session keeps

-- the identifiers of a list, as they were handed in
abbrev pub identifiers_of_list : KeptList → List LanguageIdentifier
identifiers_of_list (Settled available) = identifiers_of available
identifiers_of_list (Unsettled identifiers) = identifiers.items

-- what is available
abbrev pub available_in : Session → Option (List LanguageIdentifier)
available_in s = option_or (option_map identifiers_of_list s.list)
    (option_map service.identifiers_of s.served)

-- what is held with a session beside tables
abbrev pub held_in : Tables → Session → Held
held_in t s = record { tables = t; available = available_in s; wholes = s.offered.wholes.items }

-- a list was made over a likely table: for negotiation where that is settled
abbrev pub IsListMade : LikelySubtags → KeptList → Type 0
IsListMade table (Settled available) = IsMadeOver table available
IsListMade table (Unsettled identifiers) = ¬ (AreSettled table)

-- it was made over the tables, whatever the expander over them: they have one
pub record IsListOver (t : Tables) (list : KeptList) : Type 0 where
  pub expander : LocaleExpander
  pub over : IsExpanderOf t expander
  pub made : (e : LocaleExpander) → IsExpanderOf t e → IsListMade (likely e) list

-- what is served was prepared over the tables and the rules that were read of them
abbrev pub IsServedOver : Tables → ReadRules → ServedLocales → Type 0
IsServedOver t read s = (e : LocaleExpander) (table : Aliases) (m : LanguageMatching)
    → IsExpanderOf t e → t.aliases ≡ Some table → t.supplement.matching ≡ Some m
    → IsPreparedOver (likely e) (rules_over read table) m s

-- what a session keeps was made over the tables, and what is served is what is listed
pub record IsSessionOver (t : Tables) (s : Session) : Type 0 where
  pub rules : IfSome s.rules (AreRulesOf t)
  pub list : IfSome s.list (IsListOver t)
  pub served : IfSome s.served (λ v. IsSomeAnd s.rules (λ read. IsServedOver t read v))
  pub same : IfSome s.served (λ v. available_in s ≡ Some (service.identifiers_of v))

-- what a command asks for before its first line is there: its tables, settled for `negotiate`, and
-- its rules
pub record IsReady (c : LineCommand) (t : Tables) (s : Session) : Type 0 where
  pub over : IsSessionOver t s
  pub rules : HasRules c t s.rules
  pub held : has_tables (Lines c) t ≡ true
  pub lists : asks_list c.task ≡ true → ListsOver c.task t

-- a task serves
abbrev pub IsServeTask : Task → Type 0
IsServeTask task = (served : ServeTask) × (task ≡ Serve served)

-- a list may be negotiated over
abbrev pub IsSettledList : Option KeptList → Type 0
IsSettledList (Some (Settled available)) = Unit {0}
IsSettledList list = ⊥

-- what a command asks for beside its tables is kept
pub record HasKept (c : LineCommand) (t : Tables) (s : Session) : Type 0 where
  pub rules : HasRules c t s.rules
  pub settled : c.task ≡ Negotiate → IsSettledList s.list
  pub served : IsServeTask c.task → IsSome s.served

-- what is served is that of a list that is kept
abbrev pub ServesListed : Session → Type 0
ServesListed s = IsSome s.served → IsSome s.list

-- what a line lists is kept for a command
pub record IsListedFor (c : LineCommand) (t : Tables) (line : List ℕ) (s : Session) : Type 0 where
  pub over : IsSessionOver t s
  pub kept : HasKept c t s
  pub listed : HoldsList c.syntax line (held_in t s)

-- why a line gives no list over tables: a likely table is asked first, and then the line is read
abbrev pub IsRefusedListing : Option Syntax → Tables → List ℕ → CliError → Type 0
IsRefusedListing syntax t line (Data e) = (e ≡ not_found) × (has_likely t ≡ false)
IsRefusedListing syntax t line e = (has_likely t ≡ true) × IsFaultyList syntax line e

-- what was kept is kept still, and what is held stays
pub record StaysKept (t : Tables) (old new : Session) : Type 0 where
  pub held : held_in t new ≡ held_in t old
  pub rules : IsSome old.rules → new.rules ≡ old.rules
  pub served : IsSome old.served → new.served ≡ old.served
