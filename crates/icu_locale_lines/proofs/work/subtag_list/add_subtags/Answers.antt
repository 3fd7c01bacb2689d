use Rattle.std.proofs.Common.{◌≡◌, ◌++◌, ◌+◌, ◌||◌, ℕ, List, Result, Ok, Err, length, take, drop, ap, sym, subst, ◌∙◌, append_assoc, arith}
use Rattle.std.specs.Result.{OnErr}
use Rattle.std.proofs.lemmas.List.{take-append-le, take_all, take-append-drop}
use Rattle.icu_locale_extensions.specs.Extensions.{any_piece}
use Rattle.icu_locale_parts.specs.Parts.{members}
use Rattle.icu_locale_lines.specs.Answers.{Keeps}
use Rattle.icu_locale_lines.specs.SubtagLists.{after_any, began, if_begun, subtag_of}
use Rattle.icu_locale_lines.specs.declared.error.CliError.{CliError}
use Rattle.icu_locale_lines.proofs.SubtagLists.{any_more, began_more, members_more}
use Rattle.icu_locale_lines.proofs.work.subtag_list.add_subtags.Goals as goal

-- what stood before is in front of what is added to it, and of a part of that
kept_on : (old more mid new : List ℕ) → mid ≡ old ++ more → Keeps mid new → Keeps old new
kept_on old more mid new is keeps =
    let whole : new ≡ old ++ (more ++ drop (length mid) new) = sym (take-append-drop (length mid) new) ∙ ap (λ t. t ++ drop (length mid) new) (keeps ∙ is)
    ∙ append_assoc old more (drop (length mid) new) in
    subst (Keeps old) (sym whole) (take-append-le (length old) old (more ++ drop (length mid) new) (omega arith) ∙ take_all (length old) old (omega arith))

on_err : {P : Type 0} (r : Result (Unit {0}) CliError) → P → OnErr r P
on_err (Ok x) p = tt
on_err (Err e) p = p

pub returns-in_err-is_added-clause-kept : goal.returns-in_err-is_added-clause-kept
returns-in_err-is_added-clause-kept c = on_err c.from_residual.result
    (kept_on c.args.text.now.items _ c.loop-key.text.items c.add_begun.new.text.items c.loop-key.invariant.0 c.in_err-is_added.ensures.kept)

-- the subtag of one key more
pub loop-key-preserved : goal.loop-key-preserved
loop-key-preserved c =
    let kind = c.args.kind in
    let front = c.args.front.now in
    let keys = c.args.keys.now in
    let i = c.loop-key.key-index in
    let key = c.key-item.result in
    let old = c.args.text.now.items in
    let done = began kind front (take i keys) in
    let added = if_begun front (subtag_of kind key) in
    let more : began kind front (take (i + 1) keys) ≡ done ++ added =
    began_more kind front keys i key c.loop-key-test.true ∙ ap (λ k. done ++ if_begun front (subtag_of kind k)) (sym c.key-item.is) in (
      c.in_ok-is_added.ensures.added ∙ (λ j. c.loop-key.invariant.0 j ++ after_any (c.loop-key.invariant.1 j) added)
          ∙ append_assoc old (members done) (after_any (any_piece done) added)
          ∙ ap (λ t. old ++ t) (sym (members_more done front (subtag_of kind key)) ∙ ap members (sym more)),
      (λ j. c.loop-key.invariant.1 j || c.in_ok-is_added.ensures.told j) ∙ sym (any_more done added) ∙ ap any_piece (sym more),
    )
