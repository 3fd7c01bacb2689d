use Rattle.std.proofs.Common.{◌≡◌, ◌⊎◌, sym, subst, ◌∙◌, rules, tests, length, [], List, ℕ}
use Rattle.std.specs.Borrow.{Bor}
use Rattle.std.specs.List.{AllZip, slice_split}
use Rattle.std.proofs.lemmas.Iterator.{YieldsList}
use Rattle.std.proofs.lemmas.Iterator.Consumers.{YieldsList-at, YieldsList-so_far, YieldsList-turn, YieldsList-end}
use Rattle.std.proofs.lemmas.Iterator.Splits.{YieldsList-from_slice_split}
use Rattle.std.proofs.lemmas.Result.{err_from_is_err_and}
use Rattle.icu_locale_core.specs.declared.parse_error.ParseError.TheVariants.{Memory}
use Rattle.icu_locale_lines.specs.Lists.{is_space, ids_of, SpellsWanted, IsFirstFault}
use Rattle.icu_locale_lines.proofs.ListReading.{SpellsWanted-push, wanted_spelled, listed_some, refused_here}
use Rattle.icu_locale_lines.proofs.work.offered.read_wanted.Given as given
use Rattle.icu_locale_lines.proofs.work.offered.read_wanted.Goals as goal

pub loop-piece-init : goal.loop-piece-init
loop-piece-init c = subst (AllZip (SpellsWanted c.args.syntax) []) (sym c.new-list.ensures.items) tt

-- a text that spells no identifier is the first such one
pub returns-in_err-read_one-clause-refused : goal.returns-in_err-read_one-clause-refused
returns-in_err-read_one-clause-refused c =
    let road : YieldsList given.iterator-loop-piece.next_gives (λ (piece : Bor (List ℕ)). piece.now) c.into_iter-piece-iterator.result
    (slice_split is_space c.args.line.now) = YieldsList-at c.into_iter-piece-iterator.ensures.into_iter_gives
    (YieldsList-from_slice_split _ is_space c.args.line.now c.split-piece-items.ensures.rest c.split-piece-items.ensures.done
    c.split-piece-items.ensures.closure (λ x r q k. search (rules, tests))) in
    let so_far = YieldsList-so_far road c.loop-piece.yielded _ c.loop-piece.yielded_by in
    let turn = YieldsList-turn road c.loop-piece.yielded _ c.loop-piece.yielded_by _ _ c.in-Some.piece c.in-Some.is c.next.ensures.steps in
    let read = subst (λ ts. AllZip (SpellsWanted c.args.syntax) ts c.loop-piece.list.items) so_far c.loop-piece.invariant in
    let refused = refused_here c.args.syntax _ (length c.loop-piece.yielded) (ids_of c.loop-piece.list.items)
    (wanted_spelled c.args.syntax _ c.loop-piece.list.items read) turn.0 c.in-Some.piece.now turn.1
    c.in_err-read_one.field-0.0 c.in_err-read_one.ensures.refused in
    let e = c.in_err-read_one.field-0.0 in
    let passed_on = err_from_is_err_and c.from_residual.result c.from_residual.ensures.1 in
    rw (passed_on.1, passed_on.2) (subst (λ ts. (e ≡ Memory) ⊎ IsFirstFault c.args.syntax ts e)
    (sym (listed_some c.args.line.now c.if-is_empty.ensures)) refused)

-- one more text is read
pub loop-piece-preserved : goal.loop-piece-preserved
loop-piece-preserved c = SpellsWanted-push c.args.syntax c.loop-piece.yielded c.loop-piece.list.items c.push.new.self.items c.in-Some.piece
    c.in_ok-read_one.field-0 c.loop-piece.invariant c.in_ok-read_one.ensures.read c.in_ok-push.ensures.items

-- no text is left
pub returns-clause-read : goal.returns-clause-read
returns-clause-read c =
    let road : YieldsList given.iterator-loop-piece.next_gives (λ (piece : Bor (List ℕ)). piece.now) c.into_iter-piece-iterator.result
    (slice_split is_space c.args.line.now) = YieldsList-at c.into_iter-piece-iterator.ensures.into_iter_gives
    (YieldsList-from_slice_split _ is_space c.args.line.now c.split-piece-items.ensures.rest c.split-piece-items.ensures.done
    c.split-piece-items.ensures.closure (λ x r q k. search (rules, tests))) in
    let end = YieldsList-end road c.loop-piece.yielded _ c.loop-piece.yielded_by _ _ c.in-None.is c.next.ensures.steps in
    subst (λ ts. AllZip (SpellsWanted c.args.syntax) ts c.loop-piece.list.items) (end.0 ∙ sym (listed_some c.args.line.now c.if-is_empty.ensures)) c.loop-piece.invariant
