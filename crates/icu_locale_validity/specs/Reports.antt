-- What is told of a locale of which a part is not valid.
use Rattle.std.specs.Prelude.{ℕ, not, List, [], ◌∷◌, ◌++◌, filter, codes, decimal, Option, if◌then◌else◌}
use Rattle.std.specs.List.{flat_map, join_by}
use Rattle.icu_locale_extensions.specs.declared.identifier.LocaleIdentifier.{LocaleIdentifier}
use Rattle.icu_locale_validity.specs.Parts.{Part, is_valid_part, kind_word, parts_of, status_of}
use Rattle.icu_locale_validity.specs.Places.{place_of}
use Rattle.icu_locale_validity.specs.Statuses.{is_valid_status, listed_word}
use Rattle.icu_locale_validity.specs.declared.table.Status.{Status}
use Rattle.icu_locale_validity.specs.declared.table.Validity.{Validity}

-- the pieces of a part with `-` between them
abbrev pub part_text : Part → List ℕ
part_text part = part.first ++ flat_map (λ p. codes "-" ++ p) part.rest

-- a place in decimal digits: its first byte, and the byte after its last
abbrev pub place_text : ℕ × ℕ → List ℕ
place_text place = decimal place.0 ++ (codes " " ++ decimal place.1)

-- why a part is not valid: its status, or that it is of another region where its status is that of a valid code
abbrev pub fault_word : Option Status → List ℕ
fault_word status =
    if is_valid_status status then codes "other_region" else listed_word status

-- a part that is not valid: its kind, its pieces, why, and its place in t
abbrev pub fault_text : Validity → List ℕ → Part → List ℕ
fault_text v t part =
    kind_word part.kind ++ (codes " " ++ (part_text part ++ (codes " "
    ++ (fault_word (status_of v part) ++ (codes " "
    ++ place_text (place_of t part.kind part.behind (part_text part)))))))

-- the parts that are not valid
abbrev pub faults : Validity → List Part → List Part
faults v parts = filter (λ part. not (is_valid_part v part)) parts

-- each that is not valid, with a tab between two, or the word `valid`
abbrev pub told : Validity → List ℕ → List Part → List ℕ
told v t [] = codes "valid"
told v t (part ∷ parts) = join_by (fault_text v t) (codes "\t") (part ∷ parts)

-- what is told of the locale x that a text t spells
abbrev pub report_of : Validity → List ℕ → LocaleIdentifier → List ℕ
report_of v t x = told v t (faults v (parts_of x))
