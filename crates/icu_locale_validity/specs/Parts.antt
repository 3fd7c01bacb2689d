-- The parts of a locale that the standard lists, and whether each is valid (UTS #35 Part 1, section 3.11).
use Rattle.std.specs.Prelude.{◌≡◌, ℕ, Bool, true, false, not, ◌&&◌, ◌||◌, List, [], ◌∷◌, ◌++◌, length, map, take, codes, Option, Some, None}
use Rattle.std.specs.List.{Contains, list_all}
use Rattle.std.specs.Option.{option_to_list}
use Rattle.icu_locale_core.specs.Maps.{value_at}
use Rattle.icu_locale_core.specs.Subtag.{sd}
use Rattle.icu_locale_core.specs.TextSet.{rising, text_cmp}
use Rattle.icu_locale_core.specs.laws.Identifiers.{same_text}
use Rattle.icu_locale_core.specs.declared.langid.LanguageIdentifier.{LanguageIdentifier}
use Rattle.icu_locale_extensions.specs.declared.identifier.LocaleIdentifier.{LocaleIdentifier}
use Rattle.icu_locale_validity.specs.Places.{is_spelled}
use Rattle.icu_locale_validity.specs.Statuses.{is_valid_status}
use Rattle.icu_locale_validity.specs.Types.{field_status, keyword_status}
use Rattle.icu_locale_validity.specs.declared.part.PartKind.{PartKind}
use Rattle.icu_locale_validity.specs.declared.part.PartKind.TheVariants.{Language, Script, Region, Variant, Attribute, Keyword, Field, Extension}
use Rattle.icu_locale_validity.specs.declared.table.Status.{Status}
use Rattle.icu_locale_validity.specs.declared.table.Validity.{Validity}

-- ---- parts

-- a part: its first piece, the pieces after it, and the pieces that it comes behind, each behind the one before; of a
-- keyword the region of the identifier, if it has one
pub record Part : Type 0 where
  pub kind : PartKind
  pub behind : List (List ℕ)
  pub first : List ℕ
  pub rest : List (List ℕ)
  pub region : Option (List ℕ)

-- the word of a kind
abbrev pub kind_word : PartKind → List ℕ
kind_word Language = codes "language"
kind_word Script = codes "script"
kind_word Region = codes "region"
kind_word Variant = codes "variant"
kind_word Attribute = codes "attribute"
kind_word Keyword = codes "keyword"
kind_word Field = codes "field"
kind_word Extension = codes "extension"

-- a part of one piece
abbrev pub code_part : PartKind → List (List ℕ) → List ℕ → Part
code_part kind behind p = record {
  kind = kind;
  behind = behind;
  first = p;
  rest = [];
  region = None;
}

-- a key or a singleton, and its pieces
abbrev pub row_part : PartKind → List (List ℕ) → List ℕ × List (List ℕ) → Part
row_part kind behind row = record {
  kind = kind;
  behind = behind;
  first = row.0;
  rest = row.1;
  region = None;
}

-- a keyword of a locale with a region, or with none
abbrev pub keyword_part : Option (List ℕ) → List ℕ × List (List ℕ) → Part
keyword_part region row = record (row_part Keyword (codes "u" ∷ []) row) { region = region }

-- what follows the language of an identifier
abbrev pub tail_parts : List (List ℕ) → LanguageIdentifier → List Part
tail_parts behind x =
    map (code_part Script behind) (option_to_list x.script)
    ++ (map (code_part Region behind) (option_to_list x.region)
    ++ map (code_part Variant behind) (rising x.variants))

-- the language of an identifier, and what comes behind it
abbrev pub id_parts : List (List ℕ) → LanguageIdentifier → List Part
id_parts behind x =
    code_part Language behind x.language ∷ tail_parts (behind ++ x.language ∷ []) x

-- the identifier of a transform extension, if there is one
abbrev pub lang_parts : Option LanguageIdentifier → List Part
lang_parts None = []
lang_parts (Some x) = id_parts (codes "t" ∷ []) x

-- all parts of a locale but private use, which is always valid
abbrev pub parts_of : LocaleIdentifier → List Part
parts_of x =
    id_parts [] x.locale.id
    ++ (map (code_part Attribute (codes "u" ∷ [])) x.attributes
    ++ (map (keyword_part x.locale.id.region) x.locale.extensions.unicode.keywords
    ++ (lang_parts x.locale.extensions.transform.lang
    ++ (map (row_part Field (codes "t" ∷ [])) x.fields
    ++ map (row_part Extension []) x.others))))

-- ---- whether they are valid

-- the status of a part; CLDR lists no attribute, and no extension but t and u
abbrev pub status_as : Validity → PartKind → List ℕ → List (List ℕ) → Option Status
status_as v Language p ps = value_at text_cmp v.languages p
status_as v Script p ps = value_at text_cmp v.scripts p
status_as v Region p ps = value_at text_cmp v.regions p
status_as v Variant p ps = value_at text_cmp v.variants p
status_as v Attribute p ps = None
status_as v Keyword p ps = keyword_status v p ps
status_as v Field p ps = field_status v p ps
status_as v Extension p ps = None

abbrev pub status_of : Validity → Part → Option Status
status_of v part = status_as v part.kind part.first part.rest

-- the first piece of a value begins with this text, case aside
abbrev pub begins_with : List ℕ → List (List ℕ) → Bool
begins_with t [] = false
begins_with t (p ∷ ps) = is_spelled (take (length t) p) t

-- the subdivision at `sd` is one of the region of the identifier: it begins with it (section 3.6.5); without a region
-- each is, and so is each other part
abbrev pub is_of_region : Option (List ℕ) → List ℕ → List (List ℕ) → Bool
is_of_region None key value = true
is_of_region (Some region) key value = not (same_text key sd) || begins_with region value

-- a part is valid where its status is, and it is of the region
abbrev pub is_valid_part : Validity → Part → Bool
is_valid_part v part =
    is_of_region part.region part.first part.rest && is_valid_status (status_of v part)

-- each part is valid
abbrev pub IsValid : Validity → LocaleIdentifier → Type 0
IsValid v x = (part : Part) → Contains (parts_of x) part → is_valid_part v part ≡ true

-- the same as a test
abbrev pub is_valid : Validity → LocaleIdentifier → Bool
is_valid v x = list_all (is_valid_part v) (parts_of x)
