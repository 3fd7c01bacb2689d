-- What a supplement says of codes: lists of codes by status, and what keys take (UTS #35 Part 1, section 3.11).
use Rattle.std.specs.Prelude.{codes, ℕ, zero, suc, ◌+◌, ◌-◌, ◌==◌, Bool, false, List, [], ◌∷◌, ◌++◌, length, map, take, slice_index, nat_lt, if◌then◌else◌, Option, Some, None, option_map, option_and_then}
use Rattle.std.specs.declared.cmp.Ordering.{Ordering}
use Rattle.std.specs.Cmp.Lexicographic.{slice_cmp}
use Rattle.std.specs.List.{slice_split, position_or_len, before_first, after_first}
use Rattle.std.specs.Str.{is_utf8}
use Rattle.icu_locale_core.specs.TextSet.{text_cmp}
use Rattle.icu_locale_validity.specs.declared.table.CodeKind.{CodeKind}
use Rattle.icu_locale_validity.specs.declared.table.CodeKind.TheVariants as kind
use Rattle.icu_locale_validity.specs.declared.table.KeyTypes.{KeyTypes}
use Rattle.icu_locale_validity.specs.declared.table.Status.{Status}
use Rattle.icu_locale_validity.specs.declared.table.Status.TheVariants as status
use Rattle.icu_locale_validity.specs.declared.table.Validity.{Validity}
use Rattle.icu_tables.specs.Fields.{Fields, fields, field, ◌and◌, rows, optional, object_of}
use Rattle.icu_tables.specs.NamedRows.{named_row}
use Rattle.icu_tables.specs.Names.{named_in}
use Rattle.icu_tables.specs.Puts.{map_by}
use Rattle.icu_tables.specs.Shape.{Shape, text_as, with_row}
use Rattle.icu_tables.specs.Subtags.{language_key, script_key, region_key, variant_key, subtag_key}
use Rattle.icu_tables.specs.Values.{keyword_key, field_key, keyword_value, field_value}
use Rattle.serde_json.specs.Find.{as_bool, as_str}

-- the names of statuses
abbrev pub statuses : List (List ℕ × Status)
statuses =
    (codes "regular", status.Regular)
    ∷ (codes "special", status.Special)
    ∷ (codes "macroregion", status.Macroregion)
    ∷ (codes "unknown", status.Unknown)
    ∷ (codes "private_use", status.PrivateUse)
    ∷ (codes "deprecated", status.Deprecated)
    ∷ (codes "reserved", status.Reserved)
    ∷ []

-- the names of kinds of codes
abbrev pub kinds : List (List ℕ × CodeKind)
kinds =
    (codes "script", kind.Script)
    ∷ (codes "subdivision", kind.Subdivision)
    ∷ (codes "region_override", kind.RegionOverride)
    ∷ (codes "currency", kind.Currency)
    ∷ (codes "code_point", kind.CodePoint)
    ∷ (codes "date", kind.Date)
    ∷ (codes "any", kind.Any)
    ∷ []

-- so many numbers, one after another from c on
abbrev pub numbers : ℕ → ℕ → List ℕ
numbers c zero = []
numbers c (suc n) = c ∷ numbers (c + 1) n

-- the codes of this stem, for each last character from one to another
abbrev pub endings : List ℕ → ℕ → ℕ → List (List ℕ)
endings stem first last = map (λ c. stem ++ c ∷ []) (numbers first (last + 1 - first))

-- what is before the last character of a text
abbrev pub stem : List ℕ → List ℕ
stem t = take (length t - 1) t

-- the last character of a text
abbrev pub last_of : List ℕ → ℕ
last_of t = slice_index t (length t - 1)

-- the codes from one text to the one with another last character (UTS #35 Part 1, String Range)
abbrev pub codes_up_to : List ℕ → List ℕ → List (List ℕ)
codes_up_to [] last = []
codes_up_to (c ∷ cs) (last ∷ []) = endings (stem (c ∷ cs)) (last_of (c ∷ cs)) last
codes_up_to (c ∷ cs) _ = []

-- `~`, which is 126
abbrev pub is_tilde : ℕ → Bool
is_tilde c = c == 126

-- the codes of a word: those of a range, where it has a `~`, else the word
abbrev pub codes_of_word : List ℕ → List (List ℕ)
codes_of_word w =
    if nat_lt (position_or_len is_tilde w) (length w)
    then codes_up_to (before_first is_tilde w) (after_first is_tilde w)
    else w ∷ []

-- the codes of words
abbrev pub codes_of_words : List (List ℕ) → List (List ℕ)
codes_of_words [] = []
codes_of_words (w ∷ ws) = codes_of_word w ++ codes_of_words ws

-- the codes that a text lists: its words, with a space, which is 32, between two
abbrev pub codes_listed : List ℕ → List (List ℕ)
codes_listed t = codes_of_words (slice_split (λ c. c == 32) t)

-- what bytes are read as, where they are a text
abbrev pub if_text : {K : Type 0} → (List ℕ → Option K) → List ℕ → Option K
if_text reads t = if is_utf8 t then reads t else None

-- the rows of codes; a code that is not read has none
abbrev pub rows_of_codes : {K : Type 0} → (List ℕ → Option K) → Status → List (List ℕ)
    → List (K × Status)
rows_of_codes reads status [] = []
rows_of_codes reads status (t ∷ ts) =
    with_row (if_text reads t) status (rows_of_codes reads status ts)

-- the codes that a text lists, each with a status
abbrev pub codes_with : {K : Type 0} → (List ℕ → Option K) → Status
    → Shape (List (K × Status))
codes_with reads status value =
    option_map (λ t. rows_of_codes reads status (codes_listed t)) (as_str value)

-- the codes of a member named by a status; no other member is there
abbrev pub codes_by_status : {K : Type 0} → (List ℕ → Option K) → List ℕ
    → Shape (List (K × Status))
codes_by_status reads name value =
    option_and_then (λ status. codes_with reads status value) (named_in statuses name)

-- a table of codes: of a code that is listed twice the last counts, by the order of the statuses' names
abbrev pub code_table : {K : Type 0} → (K → K → Ordering) → (List ℕ → Option K)
    → Shape (List (K × Status))
code_table compare reads = map_by compare (codes_by_status reads)

-- a table of codes that are their own texts, which may be left out
abbrev pub code_rows : List ℕ → (List ℕ → Option (List ℕ)) → Fields (List (List ℕ × Status))
code_rows name reads = rows name (code_table text_cmp reads)

-- what a key takes
abbrev pub key_types : {V : Type 0} → (V → V → Ordering) → (List ℕ → Option V)
    → Shape (KeyTypes V)
key_types compare reads =
    object_of (
    fields (λ status types kind many. record {
      status = status;
      types = types;
      kind = kind;
      many = many;
    })
    and field (codes "status") (Some status.Regular) (text_as (named_in statuses))
    and rows (codes "types") (code_table compare reads)
    and optional (codes "kind") (text_as (named_in kinds))
    and field (codes "many") (Some false) as_bool)

-- what the key that a member is named by takes
abbrev pub types_of_key : {K V : Type 0} → (List ℕ → Option K) → (V → V → Ordering)
    → (List ℕ → Option V) → List ℕ → Shape (List (K × KeyTypes V))
types_of_key key compare reads name = named_row (key name) (key_types compare reads)

-- a table of validity: any member may be left out
abbrev pub validity : Shape Validity
validity =
    object_of (
    fields (λ languages scripts regions variants subdivisions currencies keywords fields. record {
      languages = languages;
      scripts = scripts;
      regions = regions;
      variants = variants;
      subdivisions = subdivisions;
      currencies = currencies;
      keywords = keywords;
      fields = fields;
    })
    and code_rows (codes "language") language_key
    and code_rows (codes "script") script_key
    and code_rows (codes "region") region_key
    and code_rows (codes "variant") variant_key
    and code_rows (codes "subdivision") subtag_key
    and code_rows (codes "currency") subtag_key
    and rows (codes "keywords")
    (map_by text_cmp (types_of_key keyword_key (slice_cmp text_cmp) keyword_value))
    and rows (codes "fields")
    (map_by text_cmp (types_of_key field_key (slice_cmp text_cmp) field_value)))
