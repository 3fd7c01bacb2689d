-- What a supplement may hold, and what a text says as one: explicit parents, rules of language matching, aliases of
-- values, what parts of extensions are called, the name of the data, and a table of validity.
use Rattle.std.specs.Prelude.{codes, ℕ, List, [], map, nat_le, if◌then◌else◌, Option, Some, None, option_map, option_and_then, Result}
use Rattle.std.specs.Cmp.Lexicographic.{slice_cmp}
use Rattle.icu_locale_core.specs.TextSet.{text_cmp}
use Rattle.icu_locale_validity.specs.declared.table.Validity.{Validity}
use Rattle.icu_provider.specs.Requests.{locale_cmp}
use Rattle.icu_provider.specs.declared.data_locale.DataLocale.{DataLocale}
use Rattle.icu_provider.specs.declared.extension_names.ExtensionNames.{ExtensionNames}
use Rattle.icu_provider.specs.declared.matching.LanguageMatching.{LanguageMatching}
use Rattle.icu_provider.specs.declared.matching.MatchPattern.{MatchPattern}
use Rattle.icu_provider.specs.declared.matching.MatchRule.{MatchRule}
use Rattle.icu_provider.specs.declared.matching.MatchRules.{MatchRules}
use Rattle.icu_provider.specs.declared.matching.RegionPattern.{RegionPattern}
use Rattle.icu_provider.specs.declared.matching.RegionPattern.TheVariants.{Any, In, NotIn}
use Rattle.icu_tables.specs.Fields.{Fields, fields, field, ◌and◌, required, rows, optional, object_of}
use Rattle.icu_tables.specs.File.{json_of, or_json}
use Rattle.icu_tables.specs.NamedRows
use Rattle.icu_tables.specs.NamedRows.{named_row}
use Rattle.icu_tables.specs.Names.{locale_key}
use Rattle.icu_tables.specs.Puts.{map_by, put_all}
use Rattle.icu_tables.specs.Rows.{seen_rows}
use Rattle.icu_tables.specs.Shape.{Shape, text, text_as, triple_of, array_of, map_of}
use Rattle.icu_tables.specs.Subtags.{language, script, region, language_key, region_key}
use Rattle.icu_tables.specs.Validity.{validity}
use Rattle.icu_tables.specs.Values.{Pieces, keyword_key, field_key, keyword_value, field_value}
use Rattle.icu_tables.specs.declared.error.TableError.{TableError}
use Rattle.icu_tables.specs.declared.supplement.Supplement.{Supplement}
use Rattle.serde_json.specs.Find.{as_number, as_u64}

-- a supplement that holds nothing
abbrev pub no_supplement : Supplement
no_supplement = record {
  parents = [];
  matching = None;
  keywords = [];
  fields = [];
  extension_names = [];
  cldr = None;
  validity = None;
}

-- the match rules for a desired language, by level
pub record RuleRows : Type 0 where
  pub language : List MatchRule
  pub script : List MatchRule
  pub region : List MatchRule

-- the rows of a table of language matching
pub record MatchingRows : Type 0 where
  pub others : ℕ × ℕ × ℕ
  pub macros : List (List ℕ × List (List ℕ))
  pub paradigms : List DataLocale
  pub rules : List (List ℕ × RuleRows)

-- aliases by key: a value, and the one preferred to it
abbrev pub AliasesByKey : Type 0
AliasesByKey = List (List ℕ × List (Pieces × Pieces))

-- the rows of a supplement; a table that is left out is none
pub record SupplementRows : Type 0 where
  pub parents : List (DataLocale × DataLocale)
  pub matching : Option MatchingRows
  pub keywords : AliasesByKey
  pub fields : AliasesByKey
  pub extension_names : List (DataLocale × ExtensionNames)
  pub cldr : Option (List ℕ)
  pub validity : Option Validity

-- the rules that a table has for a language
abbrev pub rule_rows : MatchRules → RuleRows
rule_rows rules = record {
  language = rules.language.items;
  script = rules.script.items;
  region = rules.region.items;
}

-- the rows of a table
abbrev pub matching_rows : LanguageMatching → MatchingRows
matching_rows table = record {
  others = (table.other_language, table.other_script, table.other_region);
  macros = seen_rows (λ regions. regions.items) table.macros;
  paradigms = table.paradigms.items;
  rules = seen_rows rule_rows table.rules;
}

-- the rows that a supplement holds
abbrev pub rows_of : Supplement → SupplementRows
rows_of supplement = record {
  parents = supplement.parents;
  matching = option_map matching_rows supplement.matching;
  keywords = supplement.keywords;
  fields = supplement.fields;
  extension_names = supplement.extension_names;
  cldr = supplement.cldr;
  validity = supplement.validity;
}

-- a locale in written form as a value
abbrev pub locale : Shape DataLocale
locale = text_as locale_key

-- a number, where it is none above 65535
abbrev pub if_distance : ℕ → Option ℕ
if_distance n = if nat_le n 65535 then Some n else None

-- a distance: a whole number up to 65535
abbrev pub distance : Shape ℕ
distance value = option_and_then if_distance (option_and_then as_u64 (as_number value))

-- texts as members of a set
abbrev pub members_of : {K : Type 0} → List K → List (K × Unit {0})
members_of keys = map (λ key. (key, tt)) keys

-- an array of regions as a set
abbrev pub region_set : Shape (List (List ℕ × Unit {0}))
region_set value =
    option_map (λ regions. put_all text_cmp [] (members_of regions)) (array_of region value)

-- the members of a pattern: a script, regions, and regions that are not meant
pub record PatternRows : Type 0 where
  pub script : Option (List ℕ)
  pub inside : Option (List (List ℕ × Unit {0}))
  pub outside : Option (List (List ℕ × Unit {0}))

-- one set of regions at most: `in` and `not` are not both there
abbrev pub region_pattern : Option (List (List ℕ × Unit {0})) → Option (List (List ℕ × Unit {0}))
    → Option RegionPattern
region_pattern None None = Some Any
region_pattern (Some inside) None = Some (In inside)
region_pattern None (Some outside) = Some (NotIn outside)
region_pattern (Some inside) (Some outside) = None

-- the pattern of its members
abbrev pub pattern_of : PatternRows → Option MatchPattern
pattern_of p =
    option_map (λ region. record { script = p.script; region = region })
    (region_pattern p.inside p.outside)

-- the members of a pattern, each of which may be left out
abbrev pub pattern_parts : Shape PatternRows
pattern_parts =
    object_of (
    fields (λ script inside outside. record {
      script = script;
      inside = inside;
      outside = outside;
    })
    and optional (codes "script") script
    and optional (codes "in") region_set
    and optional (codes "not") region_set)

-- what a rule says of a form beside its language
abbrev pub pattern : Shape MatchPattern
pattern value = option_and_then pattern_of (pattern_parts value)

-- what fits any form
abbrev pub any_form : MatchPattern
any_form = record { script = None; region = Any }

-- a pattern that may be left out
abbrev pub pattern_if_any : List ℕ → Fields MatchPattern
pattern_if_any name = field name (Some any_form) pattern

-- a match rule
abbrev pub match_rule : Shape MatchRule
match_rule =
    object_of (
    fields (λ language distance desired supported. record {
      desired = desired;
      language = language;
      supported = supported;
      distance = distance;
    })
    and required (codes "language") language
    and required (codes "distance") distance
    and pattern_if_any (codes "desired")
    and pattern_if_any (codes "supported"))

-- the match rules for a desired language
abbrev pub match_rules : Shape RuleRows
match_rules =
    object_of (
    fields (λ language script region. record {
      language = language;
      script = script;
      region = region;
    })
    and rows (codes "language") (array_of match_rule)
    and rows (codes "script") (array_of match_rule)
    and rows (codes "region") (array_of match_rule))

-- a table of language matching
abbrev pub matching : Shape MatchingRows
matching =
    object_of (
    fields (λ others macros paradigms rules. record {
      others = others;
      macros = macros;
      paradigms = paradigms;
      rules = rules;
    })
    and required (codes "others") (triple_of distance distance distance)
    and rows (codes "macros") (map_of region_key (array_of region))
    and rows (codes "paradigms") (array_of locale)
    and rows (codes "rules") (map_of language_key match_rules))

-- the parent of the locale that a member is named by
abbrev pub locale_parent : List ℕ → Shape (List (DataLocale × DataLocale))
locale_parent name = named_row (locale_key name) locale

-- the value that is preferred to the one that a member is named by; a name that is no value has none
abbrev pub alias_row : {V : Type 0} → (List ℕ → Option V) → List ℕ → Shape (List (V × V))
alias_row reads name = named_row (reads name) (text_as reads)

-- the aliases of the key that a member is named by
abbrev pub aliases_of_key : (List ℕ → Option (List ℕ)) → (List ℕ → Option Pieces) → List ℕ
    → Shape AliasesByKey
aliases_of_key key reads name = named_row (key name) (map_by (slice_cmp text_cmp) (alias_row reads))

-- names by the text of what they name
abbrev pub Names : Type 0
Names = List (List ℕ × List ℕ)

-- the row of a member whose name is a text of any content
abbrev pub row_by_text : {V : Type 0} → Shape V → List ℕ → Shape (List (List ℕ × V))
row_by_text shape name = named_row (Some name) shape

-- an object of names
abbrev pub names_by_text : Shape Names
names_by_text = map_by text_cmp (row_by_text text)

-- names by key
abbrev pub names_by_key : List ℕ → Fields (List (List ℕ × Names))
names_by_key name = rows name (map_by text_cmp (row_by_text names_by_text))

-- what parts of extensions are called in one language
abbrev pub extension_names : Shape ExtensionNames
extension_names =
    object_of (
    fields (λ pattern types keys values. record {
      types = types;
      keys = keys;
      values = values;
      pattern = pattern;
    })
    and required (codes "pattern") NamedRows.pattern
    and names_by_key (codes "types")
    and rows (codes "keys") names_by_text
    and names_by_key (codes "values"))

-- what parts of extensions are called in the language of the locale that a member is named by
abbrev pub locale_extension_names : List ℕ → Shape (List (DataLocale × ExtensionNames))
locale_extension_names name = named_row (locale_key name) extension_names

-- a supplement: any member may be left out
abbrev pub supplement : Shape SupplementRows
supplement =
    object_of (
    fields (λ parents matching keywords fields extension_names cldr validity. record {
      parents = parents;
      matching = matching;
      keywords = keywords;
      fields = fields;
      extension_names = extension_names;
      cldr = cldr;
      validity = validity;
    })
    and rows (codes "parents") (map_by locale_cmp locale_parent)
    and optional (codes "matching") matching
    and rows (codes "keywords") (map_by text_cmp (aliases_of_key keyword_key keyword_value))
    and rows (codes "fields") (map_by text_cmp (aliases_of_key field_key field_value))
    and rows (codes "extension_names") (map_by locale_cmp locale_extension_names)
    and optional (codes "cldr") text
    and optional (codes "validity") validity)

-- the rows in a text, or why there are none
abbrev pub rows_in : List ℕ → Result SupplementRows TableError
rows_in text = or_json supplement (json_of text)
