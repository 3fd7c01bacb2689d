use Rattle.std.proofs.Common.{◌≡◌, ℕ, ◌+◌, arith, subst, ◌<◌, List, [], ◌∷◌, ◌++◌, get_or, length, take, codes, Result, Ok, Err, ap, sym, ◌∙◌, append_assoc}
use Rattle.std.specs.List.{flat_map}
use Rattle.std.specs.Result.{OnErr}
use Rattle.icu_locale_lines.specs.Answers.{Keeps}
use Rattle.std.proofs.lemmas.List.{flat_map_more, take_more, take_all, take-append-le}
use Rattle.icu_locale_lines.specs.declared.error.CliError.{CliError}
use Rattle.icu_locale_lines.proofs.work.value.add_pieces.Goals as goal

abbrev dashed : List ℕ → List ℕ
dashed p = codes "-" ++ p

-- the pieces are one more
one_more : (old mid with_dash new : List ℕ) (pieces : List (List ℕ)) (i : ℕ) (p : List ℕ) → i < length pieces → p ≡ get_or pieces i p
    → mid ≡ old ++ flat_map dashed (take i pieces) → with_dash ≡ mid ++ codes "-" → new ≡ with_dash ++ p
    → new ≡ old ++ flat_map dashed (take (i + 1) pieces)
one_more old mid with_dash new pieces i p within at before dash piece =
    piece ∙ ap (λ t. t ++ p) dash ∙ append_assoc mid (codes "-") p ∙ ap (λ t. t ++ dashed p) before
    ∙ flat_map_more dashed old (take i pieces) p
    ∙ ap (λ ps. old ++ flat_map dashed ps) (ap (λ x. take i pieces ++ x ∷ []) at ∙ sym (take_more pieces i p within))

pub loop-piece-preserved : goal.loop-piece-preserved
loop-piece-preserved c = record {
  wrote = one_more c.args.text.now.items c.loop-piece.text.items c.add_text.new.text.items _ c.args.pieces.now c.loop-piece.piece-index
      c.piece-item.result c.loop-piece-test.true c.piece-item.is c.loop-piece.invariant.wrote c.in_ok-add_text.ensures.added
      (c.in_ok-add_text-2.ensures.added ∙ ap (λ p. c.add_text.new.text.items ++ p) c.as_str.ensures.text);
}

-- what stood before is still in front of what was added
kept : (old more new : List ℕ) → new ≡ old ++ more → Keeps old new
kept old more new is = subst (Keeps old) (sym is) (take-append-le (length old) old more (omega arith) ∙ take_all (length old) old (omega arith))

on_err : {P : Type 0} (r : Result (Unit {0}) CliError) → P → OnErr r P
on_err (Ok x) p = tt
on_err (Err e) p = p

pub returns-in_err-add_text-clause-kept : goal.returns-in_err-add_text-clause-kept
returns-in_err-add_text-clause-kept c = on_err c.from_residual.result
    (kept c.args.text.now.items _ c.add_text.new.text.items (c.in_err-add_text.ensures.unchanged ∙ c.loop-piece.invariant.wrote))

pub returns-in_err-add_text-2-clause-kept : goal.returns-in_err-add_text-2-clause-kept
returns-in_err-add_text-2-clause-kept c = on_err c.from_residual-in_err-add_text-2.result
    (kept c.args.text.now.items _ c.add_text-in-loop-piece.new.text.items
    (c.in_err-add_text-2.ensures.unchanged ∙ c.in_ok-add_text.ensures.added ∙ ap (λ t. t ++ codes "-") c.loop-piece.invariant.wrote
    ∙ append_assoc c.args.text.now.items _ (codes "-")))
