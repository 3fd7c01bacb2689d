-- What a JSON file of tables may hold, what a text says as one, or why it says nothing.
use Rattle.std.specs.Prelude.{codes, ℕ, List, if◌then◌else◌, Option, Some, None, Result, Ok, Err}
use Rattle.std.specs.Str.{is_utf8}
use Rattle.icu_provider.specs.declared.likely.extended.LikelySubtagsExtended.{LikelySubtagsExtended}
use Rattle.icu_provider.specs.declared.likely.language.LikelySubtagsForLanguage.{LikelySubtagsForLanguage}
use Rattle.icu_provider.specs.declared.likely.script_region.LikelySubtagsForScriptRegion.{LikelySubtagsForScriptRegion}
use Rattle.icu_provider.specs.Requests.{exemplar_cmp, locale_cmp, menu_cmp, name_cmp}
use Rattle.icu_tables.specs.Fields.{fields, ◌and◌, required, rows, optional, object_of}
use Rattle.icu_tables.specs.NamedRows.{marked_exemplars, marked_names, marked_menus, locale_essentials}
use Rattle.icu_tables.specs.Puts.{map_by}
use Rattle.icu_tables.specs.Rows.{AliasRows, DirectionRows, FileRows}
use Rattle.icu_tables.specs.Shape.{Shape, text, pair_of, triple_of, array_of, set_of, map_of}
use Rattle.icu_tables.specs.Subtags.{language, script, region, variant, language_key, script_key, region_key, variant_key, subtag_key, key_pair}
use Rattle.serde_json.specs.Data.{Data}
use Rattle.serde_json.specs.Read.{read}
use Rattle.icu_tables.specs.declared.error.TableError.{TableError}
use Rattle.icu_tables.specs.declared.error.TableError.TheVariants as refusal

-- likely subtags by language
abbrev pub likely_language : Shape LikelySubtagsForLanguage
likely_language =
    object_of (
    fields (λ und language language_script language_region. record {
      und = und;
      language = language;
      language_script = language_script;
      language_region = language_region;
    })
    and required (codes "und") (triple_of language script region)
    and rows (codes "language") (map_of language_key (pair_of script region))
    and rows (codes "language_script") (map_of (key_pair language_key script_key) region)
    and rows (codes "language_region") (map_of (key_pair language_key region_key) script))

-- likely subtags by script and region
abbrev pub likely_script_region : Shape LikelySubtagsForScriptRegion
likely_script_region =
    object_of (
    fields (λ script_region script region. record {
      script_region = script_region;
      script = script;
      region = region;
    })
    and rows (codes "script_region") (map_of (key_pair script_key region_key) language)
    and rows (codes "script") (map_of script_key (pair_of language region))
    and rows (codes "region") (map_of region_key (pair_of language script)))

-- further likely subtags
abbrev pub likely_extended : Shape LikelySubtagsExtended
likely_extended =
    object_of (
    fields (λ language language_script language_region script_region script region. record {
      language = language;
      language_script = language_script;
      language_region = language_region;
      script_region = script_region;
      script = script;
      region = region;
    })
    and rows (codes "language") (map_of language_key (pair_of script region))
    and rows (codes "language_script") (map_of (key_pair language_key script_key) region)
    and rows (codes "language_region") (map_of (key_pair language_key region_key) script)
    and rows (codes "script_region") (map_of (key_pair script_key region_key) language)
    and rows (codes "script") (map_of script_key (pair_of language region))
    and rows (codes "region") (map_of region_key (pair_of language script)))

-- rules of canonicalization
abbrev pub aliases : Shape AliasRows
aliases =
    object_of (
    fields (λ language_variants language sgn_region language_len2 language_len3 script
    region_alpha region_num complex_region variant subdivision. record {
      language_variants = language_variants;
      language = language;
      sgn_region = sgn_region;
      language_len2 = language_len2;
      language_len3 = language_len3;
      script = script;
      region_alpha = region_alpha;
      region_num = region_num;
      complex_region = complex_region;
      variant = variant;
      subdivision = subdivision;
    })
    and rows (codes "language_variants") (array_of (triple_of language text text))
    and rows (codes "language") (array_of (pair_of text text))
    and rows (codes "sgn_region") (map_of region_key language)
    and rows (codes "language_len2") (map_of language_key text)
    and rows (codes "language_len3") (map_of language_key text)
    and rows (codes "script") (map_of script_key script)
    and rows (codes "region_alpha") (map_of region_key region)
    and rows (codes "region_num") (map_of region_key region)
    and rows (codes "complex_region") (map_of region_key (array_of region))
    and rows (codes "variant") (map_of variant_key variant)
    and rows (codes "subdivision") (map_of subtag_key text))

-- which way scripts run
abbrev pub direction : Shape DirectionRows
direction =
    object_of (
    fields (λ rtl ltr. record {
      rtl = rtl;
      ltr = ltr;
    })
    and rows (codes "rtl") (set_of script)
    and rows (codes "ltr") (set_of script))

-- a file: a member for each table, any of which may be left out
abbrev pub file : Shape FileRows
file =
    object_of (
    fields (λ likely_language likely_script_region likely_extended aliases direction exemplars
    names menus essentials. record {
      likely_language = likely_language;
      likely_script_region = likely_script_region;
      likely_extended = likely_extended;
      aliases = aliases;
      direction = direction;
      exemplars = exemplars;
      names = names;
      menus = menus;
      essentials = essentials;
    })
    and optional (codes "likely_language") likely_language
    and optional (codes "likely_script_region") likely_script_region
    and optional (codes "likely_extended") likely_extended
    and optional (codes "aliases") aliases
    and optional (codes "direction") direction
    and rows (codes "exemplars") (map_by exemplar_cmp marked_exemplars)
    and rows (codes "names") (map_by name_cmp marked_names)
    and rows (codes "menus") (map_by menu_cmp marked_menus)
    and rows (codes "essentials") (map_by locale_cmp locale_essentials))

-- the JSON value that a text is, if it is one
abbrev pub json_of : List ℕ → Option Data
json_of text = if is_utf8 text then read text else None

-- `Shape` where there are no rows
abbrev pub or_shape : {A : Type 0} → Option A → Result A TableError
or_shape None = Err refusal.Shape
or_shape (Some rows) = Ok rows

-- the rows of a value of a shape, and `Json` where there is no value
abbrev pub or_json : {A : Type 0} → Shape A → Option Data → Result A TableError
or_json shape None = Err refusal.Json
or_json shape (Some value) = or_shape (shape value)

-- the rows in a text, or why there are none
abbrev pub rows_in : List ℕ → Result FileRows TableError
rows_in text = or_json file (json_of text)
