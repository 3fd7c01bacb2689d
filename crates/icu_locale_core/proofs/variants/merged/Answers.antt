use Rattle.std.proofs.Common.{◌∙◌, ◌++◌, ◌∷◌, [], sym, ap, append-nil, append_assoc}
use Rattle.icu_locale_core.specs.TextSet.{from_list}
use Rattle.icu_locale_core.proofs.Merges.{left_follows, right_follows, least-first, nothing-left, some_text}
use Rattle.icu_locale_core.proofs.variants.merged.Goals as goal

pub loop-next-preserved : goal.loop-next-preserved
loop-next-preserved c =
    let left = c.loop-next.left.now in
    let right = c.loop-next.right.now in
    let next = c.in-Some.next in
    let list = c.loop-next.list.items in
    let left_rises = c.loop-next.invariant.left_rises in
    let right_rises = c.loop-next.invariant.right_rises in
    let is = sym c.in-Some.ensures in
    record {
      left_rises = rw c.behind-left.ensures (left_follows next left right left_rises right_rises is);
      right_rises = rw c.behind-right.ensures (right_follows next left right left_rises right_rises is);
      whole = rw (c.in_ok-push.ensures.items, c.behind-left.ensures, c.behind-right.ensures)
          (c.loop-next.invariant.whole ∙ ap (λ ts. list ++ ts) (least-first next left right left_rises right_rises is) ∙ sym (append_assoc list (next ∷ []) _));
    }

-- memory is asked for only where there is a next variant
pub returns-in_err-push-clause-free : goal.returns-in_err-push-clause-free
returns-in_err-push-clause-free c none =
    let left = c.loop-next.left.now in
    let right = c.loop-next.right.now in
    let next = c.in-Some.next in
    let list = c.loop-next.list.items in
    let first = least-first next left right c.loop-next.invariant.left_rises c.loop-next.invariant.right_rises (sym c.in-Some.ensures) in
    absurd (some_text (from_list (c.args.left.now ++ c.args.right.now)) list _ next (c.loop-next.invariant.whole ∙ ap (λ ts. list ++ ts) first) none)

pub returns-clause-list : goal.returns-clause-list
returns-clause-list c =
    let list = c.loop-next.list.items in
    let nothing = nothing-left c.loop-next.left.now c.loop-next.right.now (sym c.least.ensures ∙ c.in_default.is) in
    sym (c.loop-next.invariant.whole ∙ ap (λ ts. list ++ ts) nothing ∙ append-nil list)
