use Rattle.std.proofs.Common.{List, [], ◌∷◌, map, filter, subst, sym}
use Rattle.icu_locale_full_names.specs.FullNames.{is_beside_x}
use Rattle.icu_locale_full_names.specs.Says.{row_says}
use Rattle.icu_locale_full_names.specs.Says.{Row}
use Rattle.icu_locale_full_names.specs.inner.Drafts.{Joins}
use Rattle.icu_locale_full_names.proofs.Joining.{Text, joins_none, joins_left, kept_cons}
use Rattle.icu_locale_full_names.proofs.pairs.Language.join_beside.Goals as goal

pub loop-singleton-preserved : goal.loop-singleton-preserved
loop-singleton-preserved c =
    let sep = c.args.self.now.separator.now in
    let says = row_says c.args.self.now.names.now in
    let keep = is_beside_x c.args.side in
    let first = c.loop-singleton.draft in
    let so_far = c.loop-singleton.is_any in
    let rest = c.next.new.self in
    joins_left sep (map says (filter keep ((c.in-Some.singleton.now, c.in-Some.pieces.now) ∷ []))) (map says (filter keep rest)) (map says (filter keep c.args.others.now)) c.args.draft.now c.args.before first so_far c.join_if_beside.new.draft c.in_ok-is_any.is_any
    (λ new after j. c.loop-singleton.invariant new after (subst (λ (xs : List Row). Joins sep (map says (filter keep xs)) first so_far new after) (sym c.in-Some.ensures.steps)
    (subst (λ (ts : List Text). Joins sep ts first so_far new after) (sym (kept_cons says keep (c.in-Some.singleton.now, c.in-Some.pieces.now) rest)) j)))
    c.in_ok-is_any.ensures

-- none is left
pub returns : goal.returns
returns c =
    let sep = c.args.self.now.separator.now in
    let says = row_says c.args.self.now.names.now in
    let keep = is_beside_x c.args.side in
    let d = c.loop-singleton.draft in
    let any = c.loop-singleton.is_any in
    c.loop-singleton.invariant d any (subst (λ (xs : List Row). Joins sep (map says (filter keep xs)) d any d any) (sym c.in-None.ensures.steps.0) (joins_none sep d any))
