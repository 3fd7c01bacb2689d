use Rattle.std.proofs.Common.{ℕ, List, [], ◌∷◌, map, subst, sym, ap, ◌∙◌}
use Rattle.icu_locale_full_names.specs.FullNames.{attribute_says, one_piece}
use Rattle.icu_locale_names.specs.Pieces.{Piece, raw_subtag}
use Rattle.icu_locale_full_names.specs.inner.Drafts.{Joins}
use Rattle.icu_locale_full_names.proofs.Joining.{joins_none, joins_left}
use Rattle.icu_locale_full_names.proofs.pairs.Language.join_attributes.Goals as goal

pub loop-attribute-preserved : goal.loop-attribute-preserved
loop-attribute-preserved c =
    let sep = c.args.self.now.separator.now in
    let says = attribute_says in
    let first = c.loop-attribute.draft in
    let so_far = c.loop-attribute.is_any in
    let rest = c.next.new.self in
    joins_left sep (says c.in-Some.attribute.now ∷ []) (map says rest) (map says c.args.attributes.now) c.args.draft.now c.args.before first so_far c.join_piece.new.draft c.in_ok-is_any.is_any
    (λ new after j. c.loop-attribute.invariant new after (subst (λ (xs : List (List ℕ)). Joins sep (map says xs) first so_far new after) (sym c.in-Some.ensures.steps) j))
    (subst (λ (p : Piece). Joins sep (one_piece p ∷ []) first so_far c.join_piece.new.draft c.in_ok-is_any.is_any) (c.raw_subtag.ensures ∙ ap raw_subtag c.as_str.ensures.text) c.in_ok-is_any.ensures)

-- none is left
pub returns : goal.returns
returns c =
    let sep = c.args.self.now.separator.now in
    let says = attribute_says in
    let d = c.loop-attribute.draft in
    let any = c.loop-attribute.is_any in
    c.loop-attribute.invariant d any (subst (λ (xs : List (List ℕ)). Joins sep (map says xs) d any d any) (sym c.in-None.ensures.steps.0) (joins_none sep d any))
