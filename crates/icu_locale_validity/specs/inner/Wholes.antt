-- Whether the parts of one kind are valid.
use Rattle.std.specs.Prelude.{ℕ, Bool, true, false, ◌&&◌, List, [], ◌∷◌, Option, Some, None}
use Rattle.std.specs.List.{list_all}
use Rattle.icu_locale_core.specs.Maps.{value_at}
use Rattle.icu_locale_core.specs.TextSet.{rising, text_cmp}
use Rattle.icu_locale_core.specs.declared.langid.LanguageIdentifier.{LanguageIdentifier}
use Rattle.icu_locale_extensions.specs.declared.identifier.LocaleIdentifier.{LocaleIdentifier}
use Rattle.icu_locale_validity.specs.Parts.{is_of_region}
use Rattle.icu_locale_validity.specs.Statuses.{is_valid_status}
use Rattle.icu_locale_validity.specs.Types.{field_status, keyword_status}
use Rattle.icu_locale_validity.specs.declared.table.Validity.{Validity}

-- a script, if there is one
abbrev pub is_script_if_any : Validity → Option (List ℕ) → Bool
is_script_if_any v None = true
is_script_if_any v (Some p) = is_valid_status (value_at text_cmp v.scripts p)

-- a region, if there is one
abbrev pub is_region_if_any : Validity → Option (List ℕ) → Bool
is_region_if_any v None = true
is_region_if_any v (Some p) = is_valid_status (value_at text_cmp v.regions p)

-- each of some variants
abbrev pub are_variants : Validity → List (List ℕ) → Bool
are_variants v ps = list_all (λ p. is_valid_status (value_at text_cmp v.variants p)) ps

-- each of some keywords, of a locale with a region or with none
abbrev pub are_keywords : Validity → Option (List ℕ) → List (List ℕ × List (List ℕ)) → Bool
are_keywords v region rows = list_all
    (λ row. is_of_region region row.0 row.1 && is_valid_status (keyword_status v row.0 row.1)) rows

-- each of some fields
abbrev pub are_fields : Validity → List (List ℕ × List (List ℕ)) → Bool
are_fields v rows = list_all (λ row. is_valid_status (field_status v row.0 row.1)) rows

-- there is none
abbrev pub is_nothing : {X : Type 0} → List X → Bool
is_nothing [] = true
is_nothing (x ∷ xs) = false

-- each part of an identifier
abbrev pub is_id : Validity → LanguageIdentifier → Bool
is_id v x = is_valid_status (value_at text_cmp v.languages x.language)
    && (is_script_if_any v x.script
    && (is_region_if_any v x.region && are_variants v (rising x.variants)))

-- each part of an identifier, if there is one
abbrev pub is_id_if_any : Validity → Option LanguageIdentifier → Bool
is_id_if_any v None = true
is_id_if_any v (Some x) = is_id v x

-- each part of the Unicode extension, and of the transform extension
abbrev pub is_unicode : Validity → LocaleIdentifier → Bool
is_unicode v x = is_nothing x.attributes
    && are_keywords v x.locale.id.region x.locale.extensions.unicode.keywords

abbrev pub is_transform : Validity → LocaleIdentifier → Bool
is_transform v x = is_id_if_any v x.locale.extensions.transform.lang && are_fields v x.fields

-- each part
abbrev pub is_whole : Validity → LocaleIdentifier → Bool
is_whole v x = is_id v x.locale.id
    && (is_unicode v x && (is_transform v x && is_nothing x.others))
