use Rattle.std.proofs.Common.{List, [], ◌∷◌, map, subst, sym, false}
use Rattle.icu_locale_names.specs.LentNames.{lent_piece, parts_of}
use Rattle.icu_locale_names.specs.Pieces.{Piece}
use Rattle.icu_locale_names.specs.Walk.{qualifier_pieces}
use Rattle.icu_locale_full_names.specs.FullNames.{one_piece}
use Rattle.icu_locale_full_names.specs.inner.Drafts.{Joins}
use Rattle.icu_locale_full_names.proofs.Joining.{joins_none, joins_left}
use Rattle.icu_locale_full_names.proofs.pairs.Language.join_base.Goals as goal

pub loop-piece-preserved : goal.loop-piece-preserved
loop-piece-preserved c =
    let sep = c.args.self.now.separator.now in
    let first = c.loop-piece.draft in
    let so_far = c.loop-piece.is_any in
    let rest = qualifier_pieces c.next.new.self in
    joins_left sep (one_piece (lent_piece c.in-Some.piece) ∷ []) (map one_piece rest) (map one_piece ((parts_of c.args.name.now).qualifiers)) c.args.draft.now false first so_far c.join_piece.new.draft c.in_ok-is_any.is_any
    (λ new after j. c.loop-piece.invariant new after (subst (λ (xs : List Piece). Joins sep (map one_piece xs) first so_far new after) (sym c.in-Some.ensures.steps) j))
    c.in_ok-is_any.ensures

-- none is left
pub returns : goal.returns
returns c =
    let sep = c.args.self.now.separator.now in
    let d = c.loop-piece.draft in
    let any = c.loop-piece.is_any in
    c.loop-piece.invariant d any (subst (λ (xs : List Piece). Joins sep (map one_piece xs) d any d any) (sym c.in-None.ensures.steps.0) (joins_none sep d any))
