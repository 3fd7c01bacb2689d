-- Names that are lent: their parts, and their pieces.
use Rattle.std.specs.Prelude.{ℕ, List, ◌++◌, ◌∷◌, [], map}
use Rattle.icu_provider.specs.Names.{part_of}
use Rattle.icu_provider.specs.declared.essentials.PatternItem.{PatternItem}
use Rattle.icu_locale_names.specs.LanguageNames.{Head, NameParts, pieces_by_parts}
use Rattle.icu_locale_names.specs.Pieces.{Piece}
use Rattle.icu_locale_names.specs.Shown.{piece_of, shown_pieces, text_pieces}
use Rattle.icu_locale_names.specs.declared.language.borrowed.LanguageIdentifierDisplayNameBorrowed.{LanguageIdentifierDisplayNameBorrowed}
use Rattle.icu_locale_names.specs.declared.language.parts.Parts.{Parts}
use Rattle.icu_locale_names.specs.declared.language.variants.VariantNames.{VariantNames}
use Rattle.icu_locale_names.specs.declared.language.variants.VariantNames.TheVariants as variants
use Rattle.icu_locale_names.specs.declared.shown.Shown.{Shown}
pub use Rattle.icu_locale_names.specs.Shown.{lent_piece}

-- the parts but for variants and patterns, as they are shown
abbrev pub shown_head : Parts → Head
shown_head p = record {
  base = piece_of p.base;
  qualifiers = text_pieces p.extension ++ (shown_pieces p.script ++ shown_pieces p.region);
}

-- the names of variants
abbrev pub variant_list : VariantNames → List (Shown (List ℕ))
variant_list variants.None = []
variant_list (variants.One name) = name ∷ []
variant_list (variants.Many names) = names.items

-- the parts of a name: with the names of variants, a pattern and a separator
abbrev pub parts_by : Parts → List (Shown (List ℕ)) → List PatternItem → List ℕ → NameParts
parts_by parts names pattern separator = record {
  base = piece_of parts.base;
  qualifiers = (shown_head parts).qualifiers ++ map piece_of names;
  pattern = map part_of pattern;
  separator = separator;
}

-- the parts of a name that is lent
abbrev pub parts_of : LanguageIdentifierDisplayNameBorrowed → NameParts
parts_of name = parts_by name.parts.now name.variants.now name.pattern.now name.separator.now

-- its pieces in order
abbrev pub pieces_of : LanguageIdentifierDisplayNameBorrowed → List Piece
pieces_of name = pieces_by_parts (parts_of name)
