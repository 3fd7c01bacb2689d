use Rattle.std.proofs.Common.{◌≡◌, ◌⊎◌, ap, sym, subst, ◌∙◌, rules, tests, length, [], List, ℕ}
use Rattle.std.specs.Borrow.{Bor}
use Rattle.std.specs.List.{slice_split}
use Rattle.std.proofs.lemmas.Iterator.{YieldsList}
use Rattle.std.proofs.lemmas.Iterator.Consumers.{YieldsList-at, YieldsList-so_far, YieldsList-turn, YieldsList-end}
use Rattle.std.proofs.lemmas.Iterator.Splits.{YieldsList-from_slice_split}
use Rattle.icu_locale_core.specs.declared.parse_error.ParseError.TheVariants.{Memory}
use Rattle.icu_locale_lines.specs.Lists.{is_space, listed, SpellsAll, IsFaultAt}
use Rattle.icu_locale_lines.proofs.ListReading.{SpellsAll-push, fault_here, listed_some}
use Rattle.icu_locale_lines.proofs.work.list.read_texts.Given as given
use Rattle.icu_locale_lines.proofs.work.list.read_texts.Goals as goal

pub loop-piece-init : goal.loop-piece-init
loop-piece-init c = subst (SpellsAll c.args.syntax []) (sym c.new-list.ensures.items) tt

-- a text that spells no identifier is the first such one
pub returns-in-Err-clause-refused : goal.returns-in-Err-clause-refused
returns-in-Err-clause-refused c =
    let road : YieldsList given.iterator-loop-piece.next_gives (λ (piece : Bor (List ℕ)). piece.now) c.into_iter-piece-iterator.result
    (slice_split is_space c.args.line.now) = YieldsList-at c.into_iter-piece-iterator.ensures.into_iter_gives
    (YieldsList-from_slice_split _ is_space c.args.line.now c.split-piece-items.ensures.rest c.split-piece-items.ensures.done
    c.split-piece-items.ensures.closure (λ x r q k. search (rules, tests))) in
    let so_far = YieldsList-so_far road c.loop-piece.yielded _ c.loop-piece.yielded_by in
    let turn = YieldsList-turn road c.loop-piece.yielded _ c.loop-piece.yielded_by _ _ c.in-Some.piece c.in-Some.is c.next.ensures.steps in
    let read = subst (λ ts. SpellsAll c.args.syntax ts c.loop-piece.list.items) so_far c.loop-piece.invariant in
    let e = c.in-Err.refusal in
    let refused = fault_here c.args.syntax _ (length c.loop-piece.yielded) c.loop-piece.list.items read turn.0 c.in-Some.piece.now turn.1
    e c.in-Err.ensures.refused in
    subst (λ place. (e ≡ Memory) ⊎ IsFaultAt c.args.syntax (listed c.args.line.now) place e)
    (sym (ap length c.as_slice-place.ensures.value))
    (subst (λ ts. (e ≡ Memory) ⊎ IsFaultAt c.args.syntax ts (length c.loop-piece.list.items) e)
    (sym (listed_some c.args.line.now c.if-is_empty.ensures)) refused)

-- one more text is read
pub loop-piece-preserved : goal.loop-piece-preserved
loop-piece-preserved c = SpellsAll-push c.args.syntax c.loop-piece.yielded c.loop-piece.list.items c.push.new.list.items c.in-Some.piece
    c.in-Ok.identifier c.loop-piece.invariant c.in-Ok.ensures.read c.in_ok-push-in-Ok.ensures.pushed

-- no text is left
pub returns-clause-read : goal.returns-clause-read
returns-clause-read c =
    let road : YieldsList given.iterator-loop-piece.next_gives (λ (piece : Bor (List ℕ)). piece.now) c.into_iter-piece-iterator.result
    (slice_split is_space c.args.line.now) = YieldsList-at c.into_iter-piece-iterator.ensures.into_iter_gives
    (YieldsList-from_slice_split _ is_space c.args.line.now c.split-piece-items.ensures.rest c.split-piece-items.ensures.done
    c.split-piece-items.ensures.closure (λ x r q k. search (rules, tests))) in
    let end = YieldsList-end road c.loop-piece.yielded _ c.loop-piece.yielded_by _ _ c.in-None.is c.next.ensures.steps in
    subst (λ ts. SpellsAll c.args.syntax ts c.loop-piece.list.items) (end.0 ∙ sym (listed_some c.args.line.now c.if-is_empty.ensures)) c.loop-piece.invariant
