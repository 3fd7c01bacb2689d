use Rattle.std.proofs.Common.{sym, ◌∙◌}
use Rattle.icu_locale_places.proofs.Probed.{wrong_at_end, wrong_at_piece, probed}
use Rattle.icu_locale_places.proofs.fronts.find_place.Goals as goal

pub first_wrong-requires : goal.first_wrong-requires
first_wrong-requires c = sym (probed c.args.text.now c.requires) ∙ sym c.in_ok-is_read_with_more.ensures ∙ c.if-branch.false

pub returns-then-branch : goal.returns-then-branch
returns-then-branch c = wrong_at_end c.begins_is_told.ensures c.args.text.now
    (sym (probed c.args.text.now c.requires) ∙ sym c.in_ok-is_read_with_more.ensures ∙ c.if-branch.true)

pub returns : goal.returns
returns c = wrong_at_piece c.begins_is_told.ensures c.args.text.now c.in_ok-piece.piece c.span.result.0 c.span.result.1
    c.in_ok-piece.ensures.within c.in_ok-piece.ensures.before c.in_ok-piece.ensures.there c.span.ensures
