-- The name of an identifier: a base, and qualifiers after it (UTS #35 Part 2, "Locale Display Name
-- Algorithm"). It is a function of what the provider answers.
use Rattle.std.specs.Prelude.{
  ◌≡◌,
  ◌⊎◌,
  ℕ,
  Bool,
  true,
  false,
  ◌&&◌,
  ◌==◌,
  IsTrue,
  codes,
  if◌then◌else◌,
  List,
  [],
  ◌∷◌,
  ◌++◌,
  length,
  map,
  Option,
  Some,
  None,
  unwrap_or,
  Result,
  Err,
  IsOk,
}
use Rattle.std.specs.List.{flat_map, join_by}
use Rattle.std.specs.Option.{option_to_list, option_xor}
use Rattle.icu_locale_core.specs.TextSet.{rising}
use Rattle.icu_locale_core.specs.declared.langid.LanguageIdentifier.{LanguageIdentifier}
use Rattle.icu_provider.specs.Names.{PatternPart, fixed_text, first_place, second_place}
use Rattle.icu_provider.specs.declared.data_locale.DataLocale.{DataLocale}
use Rattle.icu_provider.specs.declared.error.DataError.{DataError}
use Rattle.icu_provider.specs.declared.error.DataErrorKind.TheVariants.{Memory}
use Rattle.icu_provider.specs.declared.essentials.LocaleNamesEssentials.{LocaleNamesEssentials}
use Rattle.icu_provider.specs.declared.names.MenuMarker.{MenuMarker}
use Rattle.icu_provider.specs.declared.names.MenuNameParts.{MenuNameParts}
use Rattle.icu_provider.specs.declared.names.NameKey.{NameKey}
use Rattle.icu_provider.specs.declared.names.NameKey.TheVariants.{Language, Script, Region, Variant}
use Rattle.icu_provider.specs.declared.names.NameMarker.{NameMarker}
use Rattle.icu_locale_names.specs.Chains.{variant_heavy, first_hit, made_of, if_missing, and_then, answer_all}
use Rattle.icu_locale_names.specs.LanguageChains.{LanguageChain}
use Rattle.icu_locale_names.specs.Names.{Answers, MenuAnswers}
use Rattle.icu_locale_names.specs.Pieces.{Piece, plain, raw_subtag}
use Rattle.icu_locale_names.specs.declared.options.LanguageDisplay.{LanguageDisplay}
use Rattle.icu_locale_names.specs.declared.options.LanguageDisplay.TheVariants.{Dialect, Standard}
use Rattle.icu_locale_names.specs.declared.options.LanguageIdentifierDisplayNameOptions.{LanguageIdentifierDisplayNameOptions}

-- ---- what is asked

-- what a provider answers in the language of one locale
pub record LocaleAnswers : Type 0 where
  pub name : NameMarker → NameKey → Result (List ℕ) DataError
  pub menu : MenuMarker → List ℕ → Result MenuNameParts DataError
  pub essentials : Result LocaleNamesEssentials DataError

-- the answers of a provider in the language of a locale
abbrev pub in_locale : Answers → MenuAnswers
    → (DataLocale → Result LocaleNamesEssentials DataError) → DataLocale → LocaleAnswers
in_locale name menu essentials locale = record {
  name = λ marker key. name marker locale key;
  menu = λ marker language. menu marker locale language;
  essentials = essentials locale;
}

-- no choice of a display means dialects
abbrev pub display_of : LanguageIdentifierDisplayNameOptions → LanguageDisplay
display_of options = unwrap_or options.language_display Dialect

-- the display names dialects
abbrev pub is_dialect : LanguageDisplay → Bool
is_dialect Dialect = true
is_dialect Standard = false

-- names of dialects are asked for in dialect display, and never by a chain of menus
abbrev pub asks_dialects : List MenuMarker → LanguageDisplay → Bool
asks_dialects menu display = (length menu == 0) && is_dialect display

-- the script and the region that a key has beside its language
abbrev pub KeyParts : Type 0
KeyParts = Option (List ℕ) × Option (List ℕ)

-- the keys of dialects: with script and region, with the script, and with the region, as far as
-- there are these subtags
abbrev pub dialect_keys : Option (List ℕ) → Option (List ℕ) → List KeyParts
dialect_keys (Some s) (Some r) = (Some s, Some r) ∷ (Some s, None) ∷ (None, Some r) ∷ []
dialect_keys (Some s) None = (Some s, None) ∷ []
dialect_keys None (Some r) = (None, Some r) ∷ []
dialect_keys None None = []

-- the key of the language alone
abbrev pub language_alone : KeyParts
language_alone = (None, None)

-- the keys that a chain is asked for, in their order
abbrev pub keys_from : Bool → Option (List ℕ) → Option (List ℕ) → List KeyParts
keys_from dialects script region =
    if dialects then dialect_keys script region ++ language_alone ∷ [] else language_alone ∷ []

-- the keys of an identifier
abbrev pub keys_of : LanguageChain → LanguageDisplay → LanguageIdentifier → List KeyParts
keys_of chain display x = keys_from (asks_dialects chain.menu display) x.script x.region

-- a request for the base: of a language in menus, or of a key in texts
pub data Request : Type 0 where
  in_menu : MenuMarker → Request
  in_text : NameMarker → KeyParts → Request

-- the whole chain of texts for one key
abbrev pub texts_for : LanguageChain → KeyParts → List Request
texts_for chain key = map (λ marker. in_text marker key) chain.text

-- all requests for the base, in one list: the menus first, and then the whole chain for each key
abbrev pub requests : LanguageChain → LanguageDisplay → LanguageIdentifier → List Request
requests chain display x =
    map (λ marker. in_menu marker) chain.menu
    ++ flat_map (texts_for chain) (keys_of chain display x)

-- ---- the base

-- the base of a name, its extension, and the subtags that are left to qualifiers
pub record Base : Type 0 where
  pub piece : Piece
  pub extension : List Piece
  pub script : Option (List ℕ)
  pub region : Option (List ℕ)

-- a text as a qualifier, if it is not empty
abbrev pub unless_empty : List ℕ → List Piece
unless_empty text = if length text == 0 then [] else plain text ∷ []

-- a name in menus: its core, with its extension as a qualifier
abbrev pub menu_base : LanguageIdentifier → MenuNameParts → Base
menu_base x name = record {
  piece = plain name.core;
  extension = unless_empty name.extension;
  script = x.script;
  region = x.region;
}

-- a name in texts: the subtags that its key has are no qualifiers any more
abbrev pub text_base : LanguageIdentifier → KeyParts → List ℕ → Base
text_base x key name = record {
  piece = plain name;
  extension = [];
  script = option_xor x.script key.0;
  region = option_xor x.region key.1;
}

-- without a name the raw language
abbrev pub raw_base : LanguageIdentifier → Base
raw_base x = record {
  piece = raw_subtag x.language;
  extension = [];
  script = x.script;
  region = x.region;
}

-- the base that the answer to a request makes
abbrev pub base_by : LocaleAnswers → LanguageIdentifier → Request → Result Base DataError
base_by answers x (in_menu marker) = made_of (menu_base x) (answers.menu marker x.language)
base_by answers x (in_text marker key) =
    made_of (text_base x key) (answers.name marker (Language x.language key.0 key.1))

-- the base of an identifier: by the first hit of all requests
abbrev pub base_of : LocaleAnswers → LanguageChain → LanguageDisplay → LanguageIdentifier
    → Result Base DataError
base_of answers chain display x =
    if_missing (raw_base x) (first_hit (base_by answers x) (requests chain display x))

-- ---- the qualifiers

-- the name of a key by the first marker of a chain that has one, or the raw subtag
abbrev pub qualifier : (NameMarker → NameKey → Result (List ℕ) DataError) → List NameMarker
    → (List ℕ → NameKey) → List ℕ → Result Piece DataError
qualifier name chain key subtag =
    if_missing (raw_subtag subtag)
    (made_of plain (first_hit (λ marker. name marker (key subtag)) chain))

-- what is known of a name before its variants are asked for
pub record Head : Type 0 where
  pub base : Piece
  pub qualifiers : List Piece

-- a base with the names of its script and of its region after its extension
abbrev pub head_with : Base → List Piece → List Piece → Head
head_with base script region = record {
  base = base.piece;
  qualifiers = base.extension ++ (script ++ region);
}

-- the language, then the script, then the region, or the first refusal of these
abbrev pub head_of : LocaleAnswers → LanguageChain → LanguageDisplay → LanguageIdentifier
    → Result Head DataError
head_of answers chain display x =
    and_then (base_of answers chain display x) (λ base.
    and_then (answer_all (qualifier answers.name chain.script (λ s. Script s))
    (option_to_list base.script)) (λ script.
    made_of (head_with base script)
    (answer_all (qualifier answers.name chain.region (λ r. Region r))
    (option_to_list base.region))))

-- the variants in rising order, or the first refusal of these
abbrev pub variants_of : (NameMarker → NameKey → Result (List ℕ) DataError)
    → List (List ℕ) → Result (List Piece) DataError
variants_of name variants = answer_all (qualifier name variant_heavy (λ v. Variant v)) variants

-- ---- the whole

-- what is between two qualifiers: the first text of the separator, or `, `
abbrev pub separator_text : List PatternPart → List ℕ
separator_text [] = codes ", "
separator_text (fixed_text text ∷ parts) = text
separator_text (first_place ∷ parts) = separator_text parts
separator_text (second_place ∷ parts) = separator_text parts

-- the qualifiers with the separator between each two
abbrev pub joined : List ℕ → List Piece → List Piece
joined separator qualifiers = join_by (λ q. q ∷ []) (plain separator ∷ []) qualifiers

-- a part of the pattern, with the base at the first place and the qualifiers at the second
abbrev pub filled : Piece → List Piece → PatternPart → List Piece
filled base qualifiers (fixed_text text) = plain text ∷ []
filled base qualifiers first_place = base ∷ []
filled base qualifiers second_place = qualifiers

-- the base alone where there are no qualifiers, and else the pattern, filled part by part
abbrev pub glued : Piece → List Piece → List PatternPart → List ℕ → List Piece
glued base [] pattern separator = base ∷ []
glued base (q ∷ qs) pattern separator =
    flat_map (filled base (joined separator (q ∷ qs))) pattern

-- what a name is put together of
pub record NameParts : Type 0 where
  pub base : Piece
  pub qualifiers : List Piece
  pub pattern : List PatternPart
  pub separator : List ℕ

-- the pieces that parts are put together to
abbrev pub pieces_by_parts : NameParts → List Piece
pieces_by_parts n = glued n.base n.qualifiers n.pattern n.separator

-- a head with the names of variants after its qualifiers, and the patterns
abbrev pub parts_with : Head → List Piece → LocaleNamesEssentials → NameParts
parts_with head variants patterns = record {
  base = head.base;
  qualifiers = head.qualifiers ++ variants;
  pattern = patterns.locale_pattern;
  separator = separator_text patterns.locale_separator;
}

-- the parts of the name of an identifier, or the first refusal: of the language, the script, the
-- region, the variants, and the patterns, which must be there
abbrev pub name_parts_of : LocaleAnswers → LanguageChain → LanguageDisplay → LanguageIdentifier
    → Result NameParts DataError
name_parts_of answers chain display x =
    and_then (head_of answers chain display x) (λ head.
    and_then (variants_of answers.name (rising x.variants)) (λ variants.
    made_of (parts_with head variants) answers.essentials))

-- the pieces of the name of an identifier, or that refusal
abbrev pub name_of : LocaleAnswers → LanguageChain → LanguageDisplay → LanguageIdentifier
    → Result (List Piece) DataError
name_of answers chain display x = made_of pieces_by_parts (name_parts_of answers chain display x)

-- there are two or more
abbrev pub are_many : List (List ℕ) → Bool
are_many [] = false
are_many (v ∷ []) = false
are_many (v ∷ (w ∷ vs)) = true

-- no memory for the list of two or more variants, once the region is known and before a variant is
-- asked for
pub record LacksMemory {A : Type 0} (answers : LocaleAnswers) (chain : LanguageChain)
    (display : LanguageDisplay) (x : LanguageIdentifier) (result : Result A DataError) : Type 0 where
  pub known : IsOk (head_of answers chain display x)
  pub many : IsTrue (are_many (rising x.variants))
  pub refused : result ≡ Err (record { kind = Memory })

-- the parts of the name of an identifier are given, or refused as they must be; or memory was lacking
abbrev pub GivesParts : LocaleAnswers → LanguageChain → LanguageDisplay → LanguageIdentifier
    → Result NameParts DataError → Type 0
GivesParts answers chain display x result =
    (result ≡ name_parts_of answers chain display x) ⊎ LacksMemory answers chain display x result

-- the same of the name itself
abbrev pub GivesName : LocaleAnswers → LanguageChain → LanguageDisplay → LanguageIdentifier
    → Result (List Piece) DataError → Type 0
GivesName answers chain display x result =
    (result ≡ name_of answers chain display x) ⊎ LacksMemory answers chain display x result
