-- Lines that are a subtag of one kind and its name, and texts among exemplar characters (UTS #35 Part 2, Display Name
-- Elements, Character Elements).
use Rattle.std.specs.Prelude.{◌≡◌, ℕ, Bool, true, false, List, ◌++◌, codes, None, Result, Ok, Err, if◌then◌else◌}
use Rattle.std.specs.Str.{is_utf8}
use Rattle.icu_locale_core.specs.Identifier.{parse_error_name}
use Rattle.icu_locale_core.specs.Subtag.{is_language, is_region, is_script, is_variant, lowercase, titlecase, uppercase}
use Rattle.icu_locale_core.specs.TextSet.{empty}
use Rattle.icu_locale_core.specs.declared.langid.LanguageIdentifier.{LanguageIdentifier}
use Rattle.icu_locale_core.specs.declared.parse_error.ParseError.{ParseError}
use Rattle.icu_locale_core.specs.declared.parse_error.ParseError.TheVariants.{InvalidLanguage, InvalidSubtag}
use Rattle.icu_locale_names.specs.Chains.{is_missing, region_tiny, region_short_tiny, region_light, region_short_light, script_tiny, script_light, script_heavy, script_short_heavy, variant_heavy}
use Rattle.icu_locale_names.specs.LanguageChains.{chain_of}
use Rattle.icu_locale_names.specs.LanguageNames.{name_of}
use Rattle.icu_locale_names.specs.Names.{name_by}
use Rattle.icu_locale_names.specs.declared.name_chain.NameChain.{NameChain}
use Rattle.icu_locale_names.specs.declared.options.LanguageDisplay.TheVariants.{Dialect}
use Rattle.icu_provider.specs.Provider.{kind_name}
use Rattle.icu_provider.specs.declared.error.DataError.{DataError}
use Rattle.icu_provider.specs.declared.names.NameKey.{NameKey}
use Rattle.icu_provider.specs.declared.names.NameKey.TheVariants as key
use Rattle.icu_provider.specs.declared.names.NameMarker.{NameMarker}
use Rattle.icu_tables.specs.Tables.{held, name_in}
use Rattle.icu_locale_lines.specs.Names.{answers_in}
use Rattle.icu_locale_lines.specs.Texts.{named_line, raw_mark, refused_line, settled_line}
use Rattle.icu_locale_names.specs.Pieces.{Piece}
use Rattle.icu_provider.specs.Exemplars.{has_text}
use Rattle.icu_provider.specs.declared.exemplars.ExemplarCharactersData.{ExemplarCharactersData}
use Rattle.icu_locale_lines.specs.declared.work.subtag.RegionChain.{RegionChain}
use Rattle.icu_locale_lines.specs.declared.work.subtag.RegionChain.TheVariants as regions
use Rattle.icu_locale_lines.specs.declared.work.subtag.ScriptChain.{ScriptChain}
use Rattle.icu_locale_lines.specs.declared.work.subtag.ScriptChain.TheVariants as scripts
use Rattle.icu_locale_lines.specs.declared.work.subtag.SubtagChain.{SubtagChain}
use Rattle.icu_locale_lines.specs.declared.work.subtag.SubtagChain.TheVariants as subtag
use Rattle.icu_locale_lines.specs.declared.work.subtag.SubtagNaming.{SubtagNaming}

-- the identifier of a language alone
abbrev pub of_language : List ℕ → LanguageIdentifier
of_language l = record { language = l; script = None; region = None; variants = empty }

-- a line, and whether what was read is accepted
abbrev pub Told : Type 0
Told = List ℕ × Bool

-- the line of a name, with `N`; where there is none, that of the subtag, with `R`; and that of any other refusal
abbrev pub subtag_line : List ℕ → Result (List ℕ) DataError → Told
subtag_line raw (Ok name) = (name ++ (codes "\t" ++ (raw_mark false ++ codes "\n")), true)
subtag_line raw (Err e) = if is_missing e.kind
    then (raw ++ (codes "\t" ++ (raw_mark true ++ codes "\n")), true)
    else (refused_line (kind_name e.kind), false)

-- the line of a language that is named as an identifier
abbrev pub language_line : Result (List Piece) DataError → Told
language_line (Ok pieces) = (named_line pieces, true)
language_line (Err e) = (refused_line (kind_name e.kind), false)

-- the name of a key by a chain
abbrev pub subtag_name : SubtagNaming → NameKey → List NameMarker → Result (List ℕ) DataError
subtag_name n = name_by (λ marker at key. held (name_in n.tables.names marker at key))
    n.preferences.locale

-- the kinds of names that a chain asks for
abbrev pub script_markers : ScriptChain → List NameMarker
script_markers scripts.Tiny = script_tiny
script_markers scripts.Light = script_light
script_markers scripts.Heavy = script_heavy
script_markers scripts.ShortHeavy = script_short_heavy

abbrev pub region_markers : RegionChain → List NameMarker
region_markers regions.Tiny = region_tiny
region_markers regions.ShortTiny = region_short_tiny
region_markers regions.Light = region_light
region_markers regions.ShortLight = region_short_light

-- what is told of a subtag; a language is named as an identifier is
abbrev pub identifier_name : SubtagNaming → NameChain → LanguageIdentifier
    → Result (List Piece) DataError
identifier_name n chain x =
    name_of (answers_in n.tables n.preferences.locale) (chain_of chain) Dialect x

abbrev pub language_name : SubtagNaming → NameChain → List ℕ → Result (List Piece) DataError
language_name n chain x = identifier_name n chain (of_language x)

abbrev pub script_told : SubtagNaming → ScriptChain → List ℕ → Told
script_told n chain x = subtag_line x (subtag_name n (key.Script x) (script_markers chain))

abbrev pub region_told : SubtagNaming → RegionChain → List ℕ → Told
region_told n chain x = subtag_line x (subtag_name n (key.Region x) (region_markers chain))

abbrev pub variant_told : SubtagNaming → List ℕ → Told
variant_told n x = subtag_line x (subtag_name n (key.Variant x) variant_heavy)

-- a line that is refused
abbrev pub refused : ParseError → Told
refused e = (refused_line (parse_error_name e), false)

-- why a text is no subtag of the kind that a chain names
abbrev pub refusal_of : SubtagChain → ParseError
refusal_of (subtag.Language chain) = InvalidLanguage
refusal_of (subtag.Script chain) = InvalidSubtag
refusal_of (subtag.Region chain) = InvalidSubtag
refusal_of subtag.Variant = InvalidSubtag

-- what is told of a text that is to be a subtag of the kind that a chain names, in its written case
abbrev pub told_by : SubtagNaming → SubtagChain → List ℕ → Told
told_by n (subtag.Language chain) t = if is_language t
    then language_line (language_name n chain (lowercase t)) else refused InvalidLanguage
told_by n (subtag.Script chain) t = if is_script t
    then script_told n chain (titlecase t) else refused InvalidSubtag
told_by n (subtag.Region chain) t = if is_region t
    then region_told n chain (uppercase t) else refused InvalidSubtag
told_by n subtag.Variant t = if is_variant t
    then variant_told n (lowercase t) else refused InvalidSubtag

-- the answer to a line; what is no UTF-8 is no subtag
abbrev pub subtag_answer : SubtagNaming → List ℕ → Told
subtag_answer n line =
    if is_utf8 line then told_by n n.chain line else refused (refusal_of n.chain)

-- the answer to a text, of which it is told whether a set of exemplar characters has it; what is no text is refused
abbrev pub exemplar_answer : ExemplarCharactersData → List ℕ → Told
exemplar_answer set line = if is_utf8 line then (settled_line (has_text set line), true)
    else (refused_line (codes "InvalidText"), false)

-- an answer is that
abbrev pub IsToldLine : Told → List ℕ → Bool → Type 0
IsToldLine told text accepted = (text ≡ told.0) × (accepted ≡ told.1)
