-- The name of a whole locale identifier: the name of its identifier, with what its extensions say as further
-- qualifiers (UTS #35 Part 2, "Locale Display Name Algorithm").
use Rattle.std.specs.Prelude.{◌≡◌, ◌⊎◌, Result, Ok, Err, IsOk, ℕ, Bool, true, false, not, if◌then◌else◌, ◌&&◌, List, [], ◌∷◌, ◌++◌, map, filter, codes, Option, Some, None}
use Rattle.std.specs.List.{flat_map, join_by}
use Rattle.std.specs.Ordering.{is_lt}
use Rattle.std.specs.Str.{bytes_eq}
use Rattle.icu_locale_core.specs.Maps.{value_at}
use Rattle.icu_locale_core.specs.TextSet.{text_cmp}
use Rattle.icu_locale_core.specs.Value.{written_value}
use Rattle.icu_locale_core.specs.declared.langid.LanguageIdentifier.{LanguageIdentifier}
use Rattle.icu_locale_extensions.specs.declared.identifier.LocaleIdentifier.{LocaleIdentifier}
use Rattle.icu_locale_names.specs.Chains.{made_of, and_then}
use Rattle.icu_locale_names.specs.LanguageChains.{LanguageChain}
use Rattle.icu_locale_names.specs.LanguageNames.{LocaleAnswers, LacksMemory, NameParts, name_parts_of, filled}
use Rattle.icu_locale_names.specs.Pieces.{Piece, plain, raw_subtag, text_of, spans}
use Rattle.icu_locale_names.specs.declared.options.LanguageDisplay.{LanguageDisplay}
use Rattle.icu_provider.specs.Names.{PatternPart}
use Rattle.icu_provider.specs.declared.error.DataError.{DataError}
use Rattle.icu_provider.specs.declared.error.DataErrorKind.TheVariants.{Memory}
use Rattle.icu_provider.specs.declared.extension_names.ExtensionNames.{ExtensionNames}
use Rattle.icu_locale_full_names.specs.Says.{Row, row_says, keyword_says, language_says}

-- ---- the further qualifiers

-- a hybrid is said of its language, and by no field
abbrev pub marks_hybrid : Row → Bool
marks_hybrid row = bytes_eq row.0 (codes "h0") && bytes_eq (written_value row.1) (codes "hybrid")

abbrev pub is_hybrid_value : Option (List (List ℕ)) → Bool
is_hybrid_value None = false
is_hybrid_value (Some value) = bytes_eq (written_value value) (codes "hybrid")

-- the fields mark a hybrid
abbrev pub is_hybrid : List Row → Bool
is_hybrid fields = is_hybrid_value (value_at text_cmp fields (codes "h0"))

-- the language of `t`, if there is one
abbrev pub language_texts : ExtensionNames → Bool → Option NameParts → List (List Piece)
language_texts names hybrid None = []
language_texts names hybrid (Some name) = language_says names hybrid name ∷ []

-- an attribute
abbrev pub attribute_says : List ℕ → List Piece
attribute_says attribute = raw_subtag attribute ∷ []

-- whether an extension comes before `x`, or after it
abbrev pub is_before_x : Row → Bool
is_before_x row = is_lt (text_cmp row.0 (codes "x"))

abbrev pub is_beside_x : Bool → Row → Bool
is_beside_x before row = if before then is_before_x row else not (is_before_x row)

-- private use, as the extension `x`
abbrev pub private_rows : Option (List (List ℕ)) → List Row
private_rows None = []
private_rows (Some pieces) = (codes "x", pieces) ∷ []

-- what `t` says: its language, and its fields
abbrev pub transform_texts : ExtensionNames → Option NameParts → LocaleIdentifier
    → List (List Piece)
transform_texts names language x =
    language_texts names (is_hybrid x.fields) language
    ++ map (row_says names) (filter (λ row. not (marks_hybrid row)) x.fields)

-- what `u` says: its attributes, and its keywords
abbrev pub unicode_texts : ExtensionNames → List ℕ → LocaleIdentifier → List (List Piece)
unicode_texts names separator x =
    map attribute_says x.attributes
    ++ map (keyword_says names separator) x.locale.extensions.unicode.keywords

-- what other extensions say, with private use in its place among them
abbrev pub other_texts : ExtensionNames → LocaleIdentifier → List (List Piece)
other_texts names x =
    map (row_says names) (filter (is_beside_x true) x.others)
    ++ (map (row_says names) (private_rows x.private_use)
    ++ map (row_says names) (filter (is_beside_x false) x.others))

-- the further qualifiers of a locale identifier, each a text of pieces
abbrev pub further_texts : ExtensionNames → List ℕ → Option NameParts → LocaleIdentifier
    → List (List Piece)
further_texts names separator language x =
    transform_texts names language x
    ++ (unicode_texts names separator x ++ other_texts names x)

-- ---- the whole

-- a qualifier of an identifier
abbrev pub one_piece : Piece → List Piece
one_piece p = p ∷ []

-- all qualifiers: those of the identifier, and the further ones
abbrev pub all_texts : NameParts → ExtensionNames → Option NameParts → LocaleIdentifier
    → List (List Piece)
all_texts base names language x =
    map one_piece base.qualifiers ++ further_texts names base.separator language x

-- texts with the separator between each two
abbrev pub joined_texts : List ℕ → List (List Piece) → List Piece
joined_texts separator texts = join_by (λ t. t) (plain separator ∷ []) texts

-- the base alone where there are no qualifiers, and else the pattern, filled part by part
abbrev pub glued_texts : Piece → List (List Piece) → List PatternPart → List ℕ → List Piece
glued_texts base [] pattern separator = base ∷ []
glued_texts base (t ∷ ts) pattern separator =
    flat_map (filled base (joined_texts separator (t ∷ ts))) pattern

-- the pieces of the name of a locale identifier
abbrev pub full_pieces : NameParts → Option NameParts → ExtensionNames → LocaleIdentifier
    → List Piece
full_pieces base language names x =
    glued_texts base.base (all_texts base names language x) base.pattern base.separator

-- ---- making a name

-- a text, and where the raw parts of it are: where each begins and ends, in bytes
pub record NameText : Type 0 where
  pub text : List ℕ
  pub raw_spans : List (ℕ × ℕ)

-- the text of pieces
abbrev pub written : List Piece → NameText
written pieces = record { text = text_of pieces; raw_spans = spans pieces }

-- the parts of the name of the language of `t`, if there is one
abbrev pub language_parts_of : LocaleAnswers → LanguageChain → LanguageDisplay
    → Option LanguageIdentifier → Result (Option NameParts) DataError
language_parts_of answers chain display None = Ok None
language_parts_of answers chain display (Some lang) =
    made_of (λ parts. Some parts) (name_parts_of answers chain display lang)

-- the pieces of the name of a locale identifier, or the first refusal: of its identifier, and of the
-- language of `t`
abbrev pub full_name_of : LocaleAnswers → LanguageChain → LanguageDisplay → ExtensionNames
    → LocaleIdentifier → Result (List Piece) DataError
full_name_of answers chain display names x =
    and_then (name_parts_of answers chain display x.locale.id) (λ base.
    made_of (λ language. full_pieces base language names x)
    (language_parts_of answers chain display x.locale.extensions.transform.lang))

-- no memory for the variants of the language of `t`
abbrev pub LacksLanguageMemory : {A : Type 0} → LocaleAnswers → LanguageChain → LanguageDisplay
    → Option LanguageIdentifier → Result A DataError → Type 0
LacksLanguageMemory answers chain display None result = ⊥
LacksLanguageMemory answers chain display (Some lang) result =
    LacksMemory answers chain display lang result

-- no memory for the text, once all names were found
pub record LacksText {A : Type 0} (answers : LocaleAnswers) (chain : LanguageChain)
    (display : LanguageDisplay) (x : LocaleIdentifier) (result : Result A DataError)
    : Type 0 where
  pub base : IsOk (name_parts_of answers chain display x.locale.id)
  pub language : IsOk (language_parts_of answers chain display x.locale.extensions.transform.lang)
  pub refused : result ≡ Err (record { kind = Memory })

-- memory was lacking: for the variants of the identifier, then for those of the language of `t`, and
-- then for the text
abbrev pub LacksFullMemory : {A : Type 0} → LocaleAnswers → LanguageChain → LanguageDisplay
    → LocaleIdentifier → Result A DataError → Type 0
LacksFullMemory answers chain display x result =
    LacksMemory answers chain display x.locale.id result
    ⊎ ((IsOk (name_parts_of answers chain display x.locale.id)
    × LacksLanguageMemory answers chain display x.locale.extensions.transform.lang result)
    ⊎ LacksText answers chain display x result)

-- the name of a locale identifier is given, or refused as it must be; or memory was lacking
abbrev pub GivesFullName : LocaleAnswers → LanguageChain → LanguageDisplay → ExtensionNames
    → LocaleIdentifier → Result NameText DataError → Type 0
GivesFullName answers chain display names x result =
    (result ≡ made_of written (full_name_of answers chain display names x))
    ⊎ LacksFullMemory answers chain display x result
