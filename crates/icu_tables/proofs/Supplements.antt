-- What a supplement holds of what was read.
use Rattle.std.proofs.Common.{◌≡◌, ℕ, List, Some, Result, Ok, Err, IfOk, ap, ◌∙◌}
use Rattle.serde_json.specs.Data.{Data}
use Rattle.std.proofs.lemmas.Iterator.Adapters.{option_map_id}
use Rattle.icu_locale_validity.specs.declared.table.KeyTypes.{KeyTypes}
use Rattle.icu_locale_validity.specs.declared.table.Validity.{Validity}
use Rattle.icu_provider.specs.declared.extension_names.ExtensionNames.{ExtensionNames}
use Rattle.icu_provider.specs.declared.matching.LanguageMatching.{LanguageMatching}
use Rattle.icu_provider.specs.declared.matching.MatchRules.{MatchRules}
use Rattle.icu_tables.specs.File.{json_of, or_json, or_shape}
use Rattle.icu_tables.specs.Rows.{seen_rows}
use Rattle.icu_tables.specs.Supplement.{rule_rows, matching_rows, rows_of, rows_in, supplement}
use Rattle.icu_tables.specs.declared.error.TableError.{TableError}
use Rattle.icu_tables.specs.declared.supplement.Supplement.{Supplement}
use Rattle.icu_tables.specs.inner.Further.{rules_seen, matching_seen, names_seen, key_types_seen, validity_seen, supplement_seen}
use Rattle.icu_tables.specs.inner.Reads.{Reads}
use Rattle.icu_tables.proofs.Files.{map-same, lists_seen-same, option_map-same, option_map-seen}
use Rattle.icu_tables.proofs.Members.{seen_rows-same}

rules_seen-is : (rules : MatchRules) → rules_seen rules ≡ rule_rows rules
rules_seen-is rules = λ i. record {
  language = map-same rules.language.items i;
  script = map-same rules.script.items i;
  region = map-same rules.region.items i;
}

matching_seen-is : (table : LanguageMatching) → matching_seen table ≡ matching_rows table
matching_seen-is table = λ i. record {
  others = (table.other_language, table.other_script, table.other_region);
  macros = lists_seen-same table.macros i;
  paradigms = map-same table.paradigms.items i;
  rules = seen_rows (λ rules. rules_seen-is rules i) table.rules;
}

-- maps of maps are seen as they are
nested_seen-same : {K A B : Type 0} (rows : List (K × List (A × B)))
    → seen_rows (seen_rows (λ v. v)) rows ≡ rows
nested_seen-same rows = (λ i. seen_rows (λ held. seen_rows-same held i) rows) ∙ seen_rows-same rows

names_seen-same : (names : ExtensionNames) → names_seen names ≡ names
names_seen-same names = λ i. record {
  types = nested_seen-same names.types i;
  keys = seen_rows-same names.keys i;
  values = nested_seen-same names.values i;
  pattern = names.pattern;
}

-- maps of names are seen as they are
all_names_seen-same : {K : Type 0} (rows : List (K × ExtensionNames)) → seen_rows names_seen rows ≡ rows
all_names_seen-same rows = (λ i. seen_rows (λ names. names_seen-same names i) rows) ∙ seen_rows-same rows

key_types_seen-same : {V : Type 0} (key : KeyTypes V) → key_types_seen key ≡ key
key_types_seen-same key = λ i. record {
  status = key.status;
  types = seen_rows-same key.types i;
  kind = option_map_id key.kind i;
  many = key.many;
}

-- what keys take is seen as it is
all_key_types_seen-same : {K V : Type 0} (rows : List (K × KeyTypes V)) → seen_rows key_types_seen rows ≡ rows
all_key_types_seen-same rows = (λ i. seen_rows (λ key. key_types_seen-same key i) rows) ∙ seen_rows-same rows

validity_seen-same : (table : Validity) → validity_seen table ≡ table
validity_seen-same table = λ i. record {
  languages = seen_rows-same table.languages i;
  scripts = seen_rows-same table.scripts i;
  regions = seen_rows-same table.regions i;
  variants = seen_rows-same table.variants i;
  subdivisions = seen_rows-same table.subdivisions i;
  currencies = seen_rows-same table.currencies i;
  keywords = all_key_types_seen-same table.keywords i;
  fields = all_key_types_seen-same table.fields i;
}

-- a supplement is seen as the rows that it holds
supplement_seen-is : (s : Supplement) → supplement_seen s ≡ rows_of s
supplement_seen-is s = λ i. record {
  parents = seen_rows-same s.parents i;
  matching = option_map-seen matching_seen matching_rows matching_seen-is s.matching i;
  keywords = nested_seen-same s.keywords i;
  fields = nested_seen-same s.fields i;
  extension_names = all_names_seen-same s.extension_names i;
  cldr = option_map_id s.cldr i;
  validity = option_map-same validity_seen validity_seen-same s.validity i;
}

-- what was read of the value of a text are the rows of the text
pub rows_from_reads : (text : List ℕ) (value : Data) (result : Result Supplement TableError) → json_of text ≡ Some value
    → Reads supplement_seen result (supplement value) → IfOk result (λ s. rows_in text ≡ Ok (rows_of s))
rows_from_reads text value (Ok s) is reads = ap (or_json supplement) is ∙ ap or_shape reads ∙ ap (λ rows. Ok rows) (supplement_seen-is s)
rows_from_reads text value (Err e) is reads = tt
