-- What one word names: a task, a syntax, a kind of subtag, a chain, a set of characters, a locale or a number.
use Rattle.std.specs.Prelude.{◌^◌, ◌&&◌, ◌==◌, nat_lt, ℕ, Bool, false, List, [], ◌∷◌, length, codes, Option, None, Some, Result, Ok, Err, if◌then◌else◌}
use Rattle.std.specs.List.{find}
use Rattle.std.specs.Option.{option_map}
use Rattle.std.specs.Str.{all_ascii_digits, bytes_eq}
use Rattle.std.specs.Str.Parse.{digits_value, without_leading_plus}
use Rattle.icu_locale_core.specs.Identifier.{pieces}
use Rattle.icu_locale_core.specs.Readings.{read_pieces}
use Rattle.icu_locale_core.specs.TextSet.{len}
use Rattle.icu_locale_core.specs.declared.langid.LanguageIdentifier.{LanguageIdentifier}
use Rattle.icu_locale_core.specs.declared.parse_error.ParseError.{ParseError}
use Rattle.icu_locale_extensions.specs.declared.syntax.Syntax.{Syntax}
use Rattle.icu_locale_extensions.specs.declared.syntax.Syntax.TheVariants.{Unicode, Bcp47, Posix}
use Rattle.icu_locale_names.specs.LanguageChains.{chain_word}
use Rattle.icu_locale_names.specs.declared.name_chain.NameChain.{NameChain}
use Rattle.icu_locale_names.specs.declared.name_chain.NameChain.TheVariants as chain
use Rattle.icu_locale_names.specs.declared.options.DisplayNamesPreferences.{DisplayNamesPreferences}
use Rattle.icu_locale_matching.specs.declared.limits.FavorSubtag.TheVariants.{Language}
use Rattle.icu_provider.specs.declared.exemplars.ExemplarMarker.{ExemplarMarker}
use Rattle.icu_provider.specs.declared.exemplars.ExemplarMarker.TheVariants.{Main, Auxiliary, Punctuation, Numbers, Index}
use Rattle.icu_locale_lines.specs.declared.work.subtag.SubtagChain.{SubtagChain}
use Rattle.icu_locale_lines.specs.declared.work.subtag.SubtagChain.TheVariants as subtag
use Rattle.icu_locale_lines.specs.declared.work.subtag.RegionChain.{RegionChain}
use Rattle.icu_locale_lines.specs.declared.work.subtag.RegionChain.TheVariants as regions
use Rattle.icu_locale_lines.specs.declared.work.subtag.ScriptChain.{ScriptChain}
use Rattle.icu_locale_lines.specs.declared.work.subtag.ScriptChain.TheVariants as scripts
use Rattle.icu_locale_lines.specs.declared.work.subtag.SubtagKind.{SubtagKind}
use Rattle.icu_locale_lines.specs.declared.work.subtag.SubtagKind.TheVariants as kind
use Rattle.icu_locale_lines.specs.declared.command.ServeTask.{ServeTask}
use Rattle.icu_locale_lines.specs.declared.command.Task.{Task}
use Rattle.icu_locale_lines.specs.declared.command.Task.TheVariants.{Form, Canonicalize, Direction, Negotiate, Name, Fallback, Serve, Distance, Parts, Key, Validate, SubtagName, Exemplars, Subtags}
use Rattle.icu_locale_lines.specs.declared.command.KeyOf.TheVariants.{Whole, Identifier}
use Rattle.icu_locale_lines.specs.declared.command.Wishes.{Wishes}
use Rattle.icu_locale_lines.specs.declared.command.Wishes.TheVariants.{Header, Requests, Resolved}
use Rattle.icu_locale_lines.specs.declared.work.form.Form.TheVariants.{Maximize, Minimize, MinimizeScript}

-- the first of some things whose word it is
abbrev pub named : {X : Type 0} → (X → List ℕ) → List X → List ℕ → Option X
named word_of things word = find (λ x. bytes_eq word (word_of x)) things

-- the word of how wishes are said and answered
abbrev pub wishes_word : Wishes → List ℕ
wishes_word Header = codes "serve"
wishes_word Requests = codes "nearest"
wishes_word Resolved = codes "resolved"

-- within the limits of ICU, and with nothing where nothing is near
abbrev pub usual : Wishes → ServeTask
usual wishes = record {
  wishes = wishes;
  limits = record { threshold = 50; demotion = 5; favor = Language };
  or_first = false;
}

-- the word of the names of a kind of subtag
abbrev pub kind_word : SubtagKind → List ℕ
kind_word kind.Language = codes "language-name"
kind_word kind.Script = codes "script-name"
kind_word kind.Region = codes "region-name"
kind_word kind.Variant = codes "variant-name"

abbrev pub kinds : List SubtagKind
kinds = kind.Language ∷ kind.Script ∷ kind.Region ∷ kind.Variant ∷ []

abbrev pub kind_at : List ℕ → Option SubtagKind
kind_at = named kind_word kinds

-- the word of several subtags of a kind
abbrev pub subtags_word : SubtagKind → List ℕ
subtags_word kind.Language = codes "languages"
subtags_word kind.Script = codes "scripts"
subtags_word kind.Region = codes "regions"
subtags_word kind.Variant = codes "variants"

abbrev pub subtags_at : List ℕ → Option SubtagKind
subtags_at = named subtags_word kinds

-- what a chain names
abbrev pub kind_of : SubtagChain → SubtagKind
kind_of (subtag.Language chain) = kind.Language
kind_of (subtag.Script chain) = kind.Script
kind_of (subtag.Region chain) = kind.Region
kind_of subtag.Variant = kind.Variant

abbrev pub script_chain_word : ScriptChain → List ℕ
script_chain_word scripts.Tiny = codes "tiny"
script_chain_word scripts.Light = codes "light"
script_chain_word scripts.Heavy = codes "heavy"
script_chain_word scripts.ShortHeavy = codes "short-heavy"

abbrev pub script_chains : List ScriptChain
script_chains = scripts.Tiny ∷ scripts.Light ∷ scripts.Heavy ∷ scripts.ShortHeavy ∷ []

abbrev pub region_chain_word : RegionChain → List ℕ
region_chain_word regions.Tiny = codes "tiny"
region_chain_word regions.ShortTiny = codes "short-tiny"
region_chain_word regions.Light = codes "light"
region_chain_word regions.ShortLight = codes "short-light"

abbrev pub region_chains : List RegionChain
region_chains = regions.Tiny ∷ regions.ShortTiny ∷ regions.Light ∷ regions.ShortLight ∷ []

-- the word of a chain
abbrev pub subtag_chain_word : SubtagChain → List ℕ
subtag_chain_word (subtag.Language chain) = chain_word chain
subtag_chain_word (subtag.Script chain) = script_chain_word chain
subtag_chain_word (subtag.Region chain) = region_chain_word chain
subtag_chain_word subtag.Variant = codes "heavy"

-- the word of each task; those of names, of exemplars and of lists have arguments
abbrev pub task_word : Task → List ℕ
task_word (Form Maximize) = codes "maximize"
task_word (Form Minimize) = codes "minimize"
task_word (Form MinimizeScript) = codes "minimize-script"
task_word Canonicalize = codes "canonicalize"
task_word Direction = codes "direction"
task_word Negotiate = codes "negotiate"
task_word (Name chain preferences) = codes "name"
task_word Fallback = codes "fallback"
task_word (Serve served) = wishes_word served.wishes
task_word Distance = codes "distance"
task_word Parts = codes "parts"
task_word (Key Whole) = codes "key"
task_word (Key Identifier) = codes "identifier-key"
task_word Validate = codes "validate"
task_word (SubtagName chain preferences) = kind_word (kind_of chain)
task_word (Exemplars marker preferences) = codes "exemplars"
task_word (Subtags kind preferences) = codes "list"

abbrev pub tasks : List Task
tasks = Form Maximize ∷ Form Minimize ∷ Form MinimizeScript ∷ Canonicalize
    ∷ Direction ∷ Negotiate ∷ Fallback ∷ Serve (usual Header) ∷ Serve (usual Requests)
    ∷ Serve (usual Resolved) ∷ Distance ∷ Parts ∷ Key Whole ∷ Key Identifier ∷ Validate ∷ []

abbrev pub task_at : List ℕ → Option Task
task_at = named task_word tasks

abbrev pub syntax_word : Syntax → List ℕ
syntax_word Unicode = codes "locales"
syntax_word Bcp47 = codes "bcp47"
syntax_word Posix = codes "posix"

abbrev pub syntaxes : List Syntax
syntaxes = Unicode ∷ Bcp47 ∷ Posix ∷ []

abbrev pub syntax_at : List ℕ → Option Syntax
syntax_at = named syntax_word syntaxes

abbrev pub chains : List NameChain
chains = chain.Tiny ∷ chain.Light ∷ chain.ShortLight ∷ chain.LongLight
    ∷ chain.MenuLight ∷ chain.ShortMenuLight ∷ chain.Heavy ∷ chain.ShortHeavy ∷ chain.LongHeavy
    ∷ chain.MenuHeavy ∷ chain.ShortMenuHeavy ∷ []

abbrev pub chain_at : List ℕ → Option NameChain
chain_at = named chain_word chains

-- the chain of a kind that a word names
abbrev pub subtag_chain_at : SubtagKind → List ℕ → Option SubtagChain
subtag_chain_at kind.Language word = option_map subtag.Language (chain_at word)
subtag_chain_at kind.Script word =
    option_map subtag.Script (named script_chain_word script_chains word)
subtag_chain_at kind.Region word =
    option_map subtag.Region (named region_chain_word region_chains word)
subtag_chain_at kind.Variant word =
    if bytes_eq word (codes "heavy") then Some subtag.Variant else None

-- the word of a set of exemplar characters
abbrev pub exemplars_word : ExemplarMarker → List ℕ
exemplars_word Main = codes "main"
exemplars_word Auxiliary = codes "auxiliary"
exemplars_word Punctuation = codes "punctuation"
exemplars_word Numbers = codes "numbers"
exemplars_word Index = codes "index"

abbrev pub exemplar_sets : List ExemplarMarker
exemplar_sets = Main ∷ Auxiliary ∷ Punctuation ∷ Numbers ∷ Index ∷ []

abbrev pub exemplars_at : List ℕ → Option ExemplarMarker
exemplars_at = named exemplars_word exemplar_sets

-- the preferences of an identifier that has no variants
abbrev pub preferences_of : Result LanguageIdentifier ParseError → Option DisplayNamesPreferences
preferences_of (Ok x) = if len x.variants == 0 then Some (record {
  locale = record { language = x.language; script = x.script; region = x.region };
}) else None
preferences_of (Err e) = None

abbrev pub preferences_at : List ℕ → Option DisplayNamesPreferences
preferences_at text = preferences_of (read_pieces (pieces text))

-- decimal digits of a number of so many bits, before which a plus may stand
abbrev pub is_number : ℕ → List ℕ → Bool
is_number bits digits = nat_lt 0 (length digits)
    && (all_ascii_digits digits && nat_lt (digits_value 10 digits) (2 ^ bits))

abbrev pub number_of : ℕ → List ℕ → Option ℕ
number_of bits digits = if is_number bits digits then Some (digits_value 10 digits) else None

abbrev pub bound_at : List ℕ → Option ℕ
bound_at text = number_of 64 (without_leading_plus text)

abbrev pub limit_at : List ℕ → Option ℕ
limit_at text = number_of 16 (without_leading_plus text)
