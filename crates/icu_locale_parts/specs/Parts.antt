-- The parts of a locale identifier, each in a place of its own (UTS #35 Part 1, section 3.2, unicode_locale_id).
use Rattle.std.specs.Prelude.{ℕ, List, [], ◌∷◌, ◌++◌, codes, Option, None, Some}
use Rattle.std.specs.List.{flat_map, join_by}
use Rattle.icu_locale_core.specs.Identifier as core
use Rattle.icu_locale_core.specs.TextSet.{rising}
use Rattle.icu_locale_core.specs.declared.langid.LanguageIdentifier.{LanguageIdentifier}
use Rattle.icu_locale_extensions.specs.Locales.{written}
use Rattle.icu_locale_extensions.specs.declared.identifier.LocaleIdentifier.{LocaleIdentifier}

-- a key or a singleton, and the pieces that it has
abbrev pub Row : Type 0
Row = List ℕ × List (List ℕ)

-- a text, or the empty one where there is none
abbrev pub if_any : Option (List ℕ) → List ℕ
if_any None = []
if_any (Some text) = text

-- members of one kind, a space between two
abbrev pub members : List (List ℕ) → List ℕ
members ps = join_by (λ p. p) (codes " ") ps

-- pieces that belong together, a dash between two
abbrev pub joined : List (List ℕ) → List ℕ
joined ps = join_by (λ p. p) (codes "-") ps

-- a key or a singleton, `=` and its pieces
abbrev pub pair : Row → List ℕ
pair row = row.0 ++ (codes "=" ++ joined row.1)

abbrev pub pairs : List Row → List ℕ
pairs rows = join_by pair (codes " ") rows

-- the written form of a language of the transform extension, if there is one
abbrev pub language_if_any : Option LanguageIdentifier → List ℕ
language_if_any None = []
language_if_any (Some l) = core.written l

-- the pieces of private use, if there are any
abbrev pub pieces_if_any : Option (List (List ℕ)) → List ℕ
pieces_if_any None = []
pieces_if_any (Some ps) = joined ps

-- language, script, region, variants
abbrev pub identifier_parts : LanguageIdentifier → List (List ℕ)
identifier_parts x =
    x.language ∷ if_any x.script ∷ if_any x.region ∷ members (rising x.variants) ∷ []

-- attributes, keywords, the language of a transform, its fields, other extensions, private use
abbrev pub extension_parts : LocaleIdentifier → List (List ℕ)
extension_parts x =
    members x.attributes ∷ pairs x.locale.extensions.unicode.keywords
    ∷ language_if_any x.locale.extensions.transform.lang ∷ pairs x.fields ∷ pairs x.others
    ∷ pieces_if_any x.private_use ∷ []

-- the parts of a locale identifier: those of its identifier, and those of its extensions
abbrev pub columns : LocaleIdentifier → List (List ℕ)
columns x = identifier_parts x.locale.id ++ extension_parts x

-- each text after a tab
abbrev pub tabbed : List (List ℕ) → List ℕ
tabbed ps = flat_map (λ p. codes "\t" ++ p) ps

-- an identifier in written form, and each of its parts after a tab; the last six are empty
abbrev pub identifier_parts_text : LanguageIdentifier → List ℕ
identifier_parts_text x = core.written x ++ (tabbed (identifier_parts x) ++ codes "\t\t\t\t\t\t")

-- a locale identifier in written form, and each of its parts after a tab
abbrev pub parts_text : LocaleIdentifier → List ℕ
parts_text x =
    written x ++ (tabbed (identifier_parts x.locale.id) ++ tabbed (extension_parts x))
