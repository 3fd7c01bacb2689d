use Rattle.std.proofs.Common.{◌∷◌, [], sym, subst, List}
use Rattle.icu_locale_names.specs.LentNames.{lent_piece, pieces_of}
use Rattle.icu_locale_names.specs.Pieces.{Piece}
use Rattle.icu_locale_names.specs.Walk.{pieces_left}
use Rattle.icu_locale_full_names.specs.Squares.{squared}
use Rattle.icu_locale_full_names.specs.inner.Drafts.{Adds}
use Rattle.icu_locale_full_names.proofs.Adding.{adds_none, adds_left}
use Rattle.icu_locale_full_names.proofs.pairs.add_name.Goals as goal

pub loop-piece-preserved : goal.loop-piece-preserved
loop-piece-preserved c =
    let first = c.loop-piece.draft in
    adds_left (lent_piece c.in-Some.piece ∷ []) (pieces_left c.next.new.self) (pieces_of c.args.name.now) c.args.draft.now first c.add_square.new.self
    (λ new adds. c.loop-piece.invariant new (subst (λ (ps : List Piece). Adds (squared ps) first new) (sym c.in-Some.ensures.steps) adds))
    c.in_ok-add_square.ensures

pub returns : goal.returns
returns c =
    let d = c.loop-piece.draft in
    c.loop-piece.invariant d (subst (λ (ps : List Piece). Adds (squared ps) d d) (sym c.in-None.ensures.steps.0) (adds_none d))
