-- The members of a file that hold exemplar sets, names, names in menus and patterns of names.
use Rattle.std.specs.Prelude.{ℕ, List, [], Option, option_map, option_and_then, if◌then◌else◌, codes, None, Some, ◌==◌}
use Rattle.std.specs.Option.{option_or}
use Rattle.icu_locale_core.specs.TextSet.{from_list}
use Rattle.icu_provider.specs.InversionList.{is_inversion_list}
use Rattle.icu_provider.specs.declared.data_locale.DataLocale.{DataLocale}
use Rattle.icu_provider.specs.declared.essentials.LocaleNamesEssentials.{LocaleNamesEssentials}
use Rattle.icu_provider.specs.declared.exemplars.ExemplarCharactersData.{ExemplarCharactersData}
use Rattle.icu_provider.specs.declared.exemplars.ExemplarMarker.{ExemplarMarker}
use Rattle.icu_provider.specs.declared.names.MenuMarker.{MenuMarker}
use Rattle.icu_provider.specs.declared.names.MenuNameParts.{MenuNameParts}
use Rattle.icu_provider.specs.declared.names.NameKey.{NameKey}
use Rattle.icu_provider.specs.declared.names.NameMarker.{NameMarker}
use Rattle.icu_tables.specs.Fields.{fields, ◌and◌, required, object_of}
use Rattle.icu_tables.specs.Names.{named_in, exemplar_markers, name_markers, menu_markers, locale_key, name_key}
use Rattle.icu_tables.specs.Shape.{bound, Shape, both, array_of, pair_of, text, with_row}
use Rattle.icu_tables.specs.Puts.{rows_by}
use Rattle.icu_tables.specs.Subtags.{language_key}
use Rattle.serde_json.specs.Find.{as_number, as_str, as_u64}
use Rattle.icu_provider.specs.Names.{PatternPart, fixed_text, first_place, second_place}

-- the place that a number names: 0 the first, and 1 the second
abbrev pub place : ℕ → Option PatternPart
place n = if n == 0 then Some first_place else if n == 1 then Some second_place else None

-- a fixed text, or the number of a place
abbrev pub pattern_item : Shape PatternPart
pattern_item value =
    option_or (option_map (λ t. fixed_text t) (as_str value))
    (option_and_then place (option_and_then as_u64 (as_number value)))

-- a pattern: any number of items
abbrev pub pattern : Shape (List PatternPart)
pattern = array_of pattern_item

-- how the parts of names are put together
abbrev pub name_patterns : Shape LocaleNamesEssentials
name_patterns =
    object_of (
    fields (λ pattern separator. record {
      locale_pattern = pattern;
      locale_separator = separator;
    })
    and required (codes "pattern") pattern
    and required (codes "separator") pattern)

-- a set, where its list is an inversion list
abbrev pub if_inversion_list : ExemplarCharactersData → Option ExemplarCharactersData
if_inversion_list set = if is_inversion_list set.ranges then Some set else None

-- a set of exemplar characters: bounds two by two, and texts
abbrev pub exemplar_set : Shape ExemplarCharactersData
exemplar_set value =
    option_and_then if_inversion_list (object_of (
    fields (λ ranges strings. record { ranges = ranges; strings = from_list strings })
    and required (codes "ranges") (array_of bound)
    and required (codes "strings") (array_of text)) value)

-- one row, where the key is one
abbrev pub named_row : {K V : Type 0} → Option K → Shape V → Shape (List (K × V))
named_row key shape value = option_map (λ held. with_row key held []) (shape value)

-- the rows of a member named by a marker; no other member is there
abbrev pub marked : {M R : Type 0} → List (List ℕ × M) → (M → List ℕ → Shape (List R))
    → List ℕ → Shape (List R)
marked markers rows name value =
    option_and_then (λ marker. rows_by (rows marker) value) (named_in markers name)

-- the request of a marker and a member named by a locale
abbrev pub exemplar_request : ExemplarMarker → List ℕ → Option (ExemplarMarker × DataLocale)
exemplar_request marker name = option_map (λ locale. (marker, locale)) (locale_key name)

-- the sets of a marker, by locale
abbrev pub exemplars_of : ExemplarMarker → List ℕ
    → Shape (List ((ExemplarMarker × DataLocale) × ExemplarCharactersData))
exemplars_of marker name = named_row (exemplar_request marker name) exemplar_set

-- the sets of a member named by a marker; no other member is there
abbrev pub marked_exemplars : List ℕ
    → Shape (List ((ExemplarMarker × DataLocale) × ExemplarCharactersData))
marked_exemplars = marked exemplar_markers exemplars_of

-- the request of a marker, a locale and a key, where both are there
abbrev pub request_in : {M K : Type 0} → M → Option DataLocale → Option K
    → Option (M × DataLocale × K)
request_in marker locale key =
    option_map (λ pair. (marker, pair.0, pair.1)) (both locale key)

-- the rows of a marker and a locale, by key
abbrev pub rows_in_locale : {M K V : Type 0} → (M → List ℕ → Option K) → Shape V
    → M → Option DataLocale → List ℕ → Shape (List ((M × DataLocale × K) × V))
rows_in_locale key shape marker locale name =
    named_row (request_in marker locale (key marker name)) shape

-- the rows of a marker, by locale
abbrev pub rows_of_marker : {M K V : Type 0} → (M → List ℕ → Option K) → Shape V
    → M → List ℕ → Shape (List ((M × DataLocale × K) × V))
rows_of_marker key shape marker name =
    rows_by (rows_in_locale key shape marker (locale_key name))

-- the rows of a member named by a marker
abbrev pub marked_rows : {M K V : Type 0} → List (List ℕ × M) → (M → List ℕ → Option K) → Shape V
    → List ℕ → Shape (List ((M × DataLocale × K) × V))
marked_rows markers key shape = marked markers (rows_of_marker key shape)

-- the names of a member named by a marker
abbrev pub marked_names : List ℕ → Shape (List ((NameMarker × DataLocale × NameKey) × List ℕ))
marked_names = marked_rows name_markers name_key text

-- a name in a menu: an array of its core and its extension
abbrev pub menu_name : Shape MenuNameParts
menu_name value =
    option_map (λ pair. record { core = pair.0; extension = pair.1 }) (pair_of text text value)

-- the names in menus of a member named by a marker
abbrev pub marked_menus : List ℕ
    → Shape (List ((MenuMarker × DataLocale × List ℕ) × MenuNameParts))
marked_menus = marked_rows menu_markers (λ _. language_key) menu_name

-- how the parts of names are put together, in a member named by a locale
abbrev pub locale_essentials : List ℕ → Shape (List (DataLocale × LocaleNamesEssentials))
locale_essentials name = named_row (locale_key name) name_patterns
