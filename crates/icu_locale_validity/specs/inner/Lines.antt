-- What is appended for each part.
use Rattle.std.specs.Prelude.{ℕ, ◌&&◌, List, [], ◌∷◌, ◌++◌, map, codes, Option, None, if◌then◌else◌}
use Rattle.std.specs.List.{flat_map}
use Rattle.std.specs.Option.{option_to_list}
use Rattle.icu_locale_core.specs.TextSet.{rising}
use Rattle.icu_locale_core.specs.declared.langid.LanguageIdentifier.{LanguageIdentifier}
use Rattle.icu_locale_extensions.specs.declared.identifier.LocaleIdentifier.{LocaleIdentifier}
use Rattle.icu_locale_validity.specs.Parts.{Part, code_part, id_parts, is_of_region, keyword_part, kind_word, lang_parts, row_part, status_of}
use Rattle.icu_locale_validity.specs.Places.{place_of}
use Rattle.icu_locale_validity.specs.Reports.{fault_word, part_text, place_text}
use Rattle.icu_locale_validity.specs.Statuses.{is_valid_status}
use Rattle.icu_locale_validity.specs.declared.part.PartKind.{PartKind}
use Rattle.icu_locale_validity.specs.declared.part.PartKind.TheVariants.{Script, Region, Variant, Attribute, Field, Extension}
use Rattle.icu_locale_validity.specs.declared.table.Status.{Status}
use Rattle.icu_locale_validity.specs.declared.table.Validity.{Validity}

-- what follows the pieces of a part that is not valid
abbrev pub ending : List ℕ → PartKind → List (List ℕ) → Option Status → List ℕ → List ℕ
ending t kind marks status wanted = (codes " " ++ (fault_word status ++ codes " "))
    ++ (place_text (place_of t kind marks wanted) ++ codes "\t")

-- a part of this status, with a tab after it
abbrev pub fault_line : List ℕ → Option Status → Part → List ℕ
fault_line t status part = (kind_word part.kind ++ codes " ")
    ++ (part_text part ++ ending t part.kind part.behind status (part_text part))

-- the same, but nothing of a part that is valid
abbrev pub line : List ℕ → Option Status → Part → List ℕ
line t status part =
    if is_of_region part.region part.first part.rest && is_valid_status status then []
    else fault_line t status part

-- each of some parts
abbrev pub lines : Validity → List ℕ → List Part → List ℕ
lines v t parts = flat_map (λ part. line t (status_of v part) part) parts

-- each of some parts that are not listed
abbrev pub unlisted : List ℕ → List Part → List ℕ
unlisted t parts = flat_map (line t None) parts

-- what follows the language of an identifier
abbrev pub tail_lines : Validity → List ℕ → List (List ℕ) → LanguageIdentifier → List ℕ
tail_lines v t marks x = lines v t (map (code_part Script marks) (option_to_list x.script))
    ++ (lines v t (map (code_part Region marks) (option_to_list x.region))
    ++ lines v t (map (code_part Variant marks) (rising x.variants)))

-- the parts of the Unicode extension
abbrev pub unicode_lines : Validity → List ℕ → LocaleIdentifier → List ℕ
unicode_lines v t x = unlisted t (map (code_part Attribute (codes "u" ∷ [])) x.attributes)
    ++ lines v t (map (keyword_part x.locale.id.region) x.locale.extensions.unicode.keywords)

-- the parts of the transform extension
abbrev pub transform_lines : Validity → List ℕ → LocaleIdentifier → List ℕ
transform_lines v t x = lines v t (lang_parts x.locale.extensions.transform.lang)
    ++ lines v t (map (row_part Field (codes "t" ∷ [])) x.fields)

-- all parts
abbrev pub whole_lines : Validity → List ℕ → LocaleIdentifier → List ℕ
whole_lines v t x = lines v t (id_parts [] x.locale.id)
    ++ (unicode_lines v t x ++ (transform_lines v t x
    ++ unlisted t (map (row_part Extension []) x.others)))
