-- What is read of pieces, all of them or those at the front: a language, a script, a region, variants.
use Rattle.std.specs.Prelude.{ℕ, List, [], ◌∷◌, Bool, ◌&&◌, ◌==◌, length, map, Option, Result, Ok, Err, if◌then◌else◌}
use Rattle.std.specs.List.{list_all}
use Rattle.icu_locale_core.specs.Cuts.{front, from, other_than, optional_subtag, after_optional_subtag}
use Rattle.icu_locale_core.specs.Subtag.{is_language, is_script, is_region, is_variant, lowercase, titlecase, uppercase}
use Rattle.icu_locale_core.specs.TextSet.{TextSet, from_list, len}
use Rattle.icu_locale_core.specs.declared.langid.LanguageIdentifier.{LanguageIdentifier}
use Rattle.icu_locale_core.specs.declared.parse_error.ParseError.{ParseError}
use Rattle.icu_locale_core.specs.declared.parse_error.ParseError.TheVariants.{InvalidLanguage, InvalidSubtag}

-- every piece is a variant, and none comes twice
abbrev pub are_variants : List (List ℕ) → Bool
are_variants ps = list_all is_variant ps && (len (from_list (map lowercase ps)) == length ps)

-- the set of a list, where none comes twice
abbrev pub set_of_once : List (List ℕ) → Result TextSet ParseError
set_of_once ps = if len (from_list ps) == length ps then Ok (from_list ps) else Err InvalidSubtag

-- the set of the pieces, where they are variants
abbrev pub read_variants : List (List ℕ) → Result TextSet ParseError
read_variants ps = if are_variants ps then Ok (from_list (map lowercase ps)) else Err InvalidSubtag

-- an identifier with these variants, or why they are refused
abbrev pub with_variants : List ℕ → Option (List ℕ) → Option (List ℕ) → Result TextSet ParseError
    → Result LanguageIdentifier ParseError
with_variants l s r (Ok vs) = Ok (record { language = l; script = s; region = r; variants = vs })
with_variants l s r (Err e) = Err e

-- the pieces after the language
abbrev pub read_rest : List ℕ → List (List ℕ) → Result LanguageIdentifier ParseError
read_rest l ps =
    let after_script = after_optional_subtag is_script ps in
    with_variants l (optional_subtag is_script titlecase ps)
    (optional_subtag is_region uppercase after_script)
    (read_variants (after_optional_subtag is_region after_script))

-- an identifier from its pieces
abbrev pub read_pieces : List (List ℕ) → Result LanguageIdentifier ParseError
read_pieces [] = Err InvalidLanguage
read_pieces (p ∷ ps) = if is_language p then read_rest (lowercase p) ps else Err InvalidLanguage

-- what is left after the language, the script and the region
abbrev pub after_head : List (List ℕ) → List (List ℕ)
after_head ps = after_optional_subtag is_region (after_optional_subtag is_script ps)

-- the identifier of a language and what follows it
abbrev pub read_after : List ℕ → List (List ℕ) → Result LanguageIdentifier ParseError
read_after l ps =
    with_variants l (optional_subtag is_script titlecase ps)
    (optional_subtag is_region uppercase (after_optional_subtag is_script ps))
    (read_variants (front (other_than is_variant) (after_head ps)))

-- the identifier at the front of pieces
abbrev pub read_front : List (List ℕ) → Result LanguageIdentifier ParseError
read_front [] = Err InvalidLanguage
read_front (p ∷ ps) = if is_language p then read_after (lowercase p) ps else Err InvalidLanguage

-- the pieces after it
abbrev pub after_front : List (List ℕ) → List (List ℕ)
after_front [] = []
after_front (p ∷ ps) = from (other_than is_variant) (after_head ps)

-- the variants of it
abbrev pub front_variants : List (List ℕ) → List (List ℕ)
front_variants [] = []
front_variants (p ∷ ps) = front (other_than is_variant) (after_head ps)
