-- How the pieces of a name are walked through.
use Rattle.std.specs.Prelude.{ℕ, List, [], ◌∷◌, ◌++◌, map}
use Rattle.std.specs.List.{flat_map}
use Rattle.icu_provider.specs.Names.{part_of}
use Rattle.icu_provider.specs.declared.essentials.PatternItem.{PatternItem}
use Rattle.icu_locale_names.specs.LanguageNames.{joined, filled}
use Rattle.icu_locale_names.specs.Pieces.{Piece, plain}
use Rattle.icu_locale_names.specs.declared.language.walk.Qualifiers.{Qualifiers}
use Rattle.icu_locale_names.specs.declared.language.walk.Frame.{Frame}
use Rattle.icu_locale_names.specs.declared.language.walk.PieceWalk.{PieceWalk}
use Rattle.icu_locale_names.specs.Shown.{piece_of, lent_piece, lent_pieces}

-- qualifiers in their order
abbrev pub qualifier_pieces : Qualifiers → List Piece
qualifier_pieces q =
    (lent_pieces q.extension ++ (lent_pieces q.script ++ lent_pieces q.region))
    ++ map piece_of q.variants.now

-- those from the script on
abbrev pub pieces_from_script : Qualifiers → List Piece
pieces_from_script q =
    (lent_pieces q.script ++ lent_pieces q.region) ++ map piece_of q.variants.now

-- those from the region on
abbrev pub pieces_from_region : Qualifiers → List Piece
pieces_from_region q = lent_pieces q.region ++ map piece_of q.variants.now

-- qualifiers with the separator before each
abbrev pub behind_separator : List ℕ → List Piece → List Piece
behind_separator separator qualifiers =
    flat_map (λ q. plain separator ∷ q ∷ []) qualifiers

-- what the second place of the pattern stands for
abbrev pub second_of : Frame → List Piece
second_of frame =
    joined frame.separator.now (lent_piece frame.first ∷ qualifier_pieces frame.others)

-- what items of the pattern stand for
abbrev pub pieces_of_items : Frame → List PatternItem → List Piece
pieces_of_items frame items =
    flat_map (filled (lent_piece frame.base) (second_of frame)) (map part_of items)

-- what is left of a walk where no piece is ready: qualifiers with the separator before each, items
abbrev pub pieces_not_ready : PieceWalk → List Piece
pieces_not_ready w =
    behind_separator w.frame.separator.now (qualifier_pieces w.pending)
    ++ pieces_of_items w.frame w.items.now

-- what is left of a walk: a piece that is ready, and then the others
abbrev pub pieces_left : PieceWalk → List Piece
pieces_left w = lent_pieces w.ready ++ pieces_not_ready w
