-- The rows of a supplement as they were read, one by one: what only the readers' own functions cite.
use Rattle.std.specs.Prelude.{map, option_map}
use Rattle.icu_locale_validity.specs.declared.table.KeyTypes.{KeyTypes}
use Rattle.icu_locale_validity.specs.declared.table.Validity.{Validity}
use Rattle.icu_provider.specs.declared.extension_names.ExtensionNames.{ExtensionNames}
use Rattle.icu_provider.specs.declared.matching.LanguageMatching.{LanguageMatching}
use Rattle.icu_provider.specs.declared.matching.MatchRules.{MatchRules}
use Rattle.icu_tables.specs.Rows.{seen_rows}
use Rattle.icu_tables.specs.Supplement.{RuleRows, MatchingRows, SupplementRows, PatternRows}
use Rattle.icu_tables.specs.declared.from_json.matching.PatternParts.{PatternParts}
use Rattle.icu_tables.specs.declared.supplement.Supplement.{Supplement}

abbrev pub pattern_seen : PatternParts → PatternRows
pattern_seen parts = record {
  script = option_map (λ v. v) parts.script;
  inside = option_map (λ v. v) parts.inside;
  outside = option_map (λ v. v) parts.outside;
}

abbrev pub rules_seen : MatchRules → RuleRows
rules_seen rules = record {
  language = map (λ v. v) rules.language.items;
  script = map (λ v. v) rules.script.items;
  region = map (λ v. v) rules.region.items;
}

abbrev pub matching_seen : LanguageMatching → MatchingRows
matching_seen table = record {
  others = (table.other_language, table.other_script, table.other_region);
  macros = seen_rows (λ regions. map (λ v. v) regions.items) table.macros;
  paradigms = map (λ v. v) table.paradigms.items;
  rules = seen_rows rules_seen table.rules;
}

abbrev pub names_seen : ExtensionNames → ExtensionNames
names_seen names = record {
  types = seen_rows (seen_rows (λ v. v)) names.types;
  keys = seen_rows (λ v. v) names.keys;
  values = seen_rows (seen_rows (λ v. v)) names.values;
  pattern = names.pattern;
}

abbrev pub key_types_seen : {V : Type 0} → KeyTypes V → KeyTypes V
key_types_seen key = record {
  status = key.status;
  types = seen_rows (λ s. s) key.types;
  kind = option_map (λ k. k) key.kind;
  many = key.many;
}

abbrev pub validity_seen : Validity → Validity
validity_seen table = record {
  languages = seen_rows (λ s. s) table.languages;
  scripts = seen_rows (λ s. s) table.scripts;
  regions = seen_rows (λ s. s) table.regions;
  variants = seen_rows (λ s. s) table.variants;
  subdivisions = seen_rows (λ s. s) table.subdivisions;
  currencies = seen_rows (λ s. s) table.currencies;
  keywords = seen_rows key_types_seen table.keywords;
  fields = seen_rows key_types_seen table.fields;
}

abbrev pub supplement_seen : Supplement → SupplementRows
supplement_seen supplement = record {
  parents = seen_rows (λ v. v) supplement.parents;
  matching = option_map matching_seen supplement.matching;
  keywords = seen_rows (seen_rows (λ v. v)) supplement.keywords;
  fields = seen_rows (seen_rows (λ v. v)) supplement.fields;
  extension_names = seen_rows names_seen supplement.extension_names;
  cldr = option_map (λ t. t) supplement.cldr;
  validity = option_map validity_seen supplement.validity;
}
