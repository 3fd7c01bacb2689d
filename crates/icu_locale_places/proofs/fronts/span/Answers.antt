use Rattle.std.proofs.Common.{◌≡◌, ◌+◌, [], length, take, get_or, sym, ap, ◌∙◌, add-one, arith}
use Rattle.icu_locale_core.specs.Identifier.{pieces}
use Rattle.icu_locale_places.specs.inner.Spans.{spaced}
use Rattle.icu_locale_places.proofs.Bytes.{next_left, next_long, separator_within, spaced_more, within_text}
use Rattle.icu_locale_places.proofs.fronts.span.Goals as goal

pub overflow_add-from : goal.overflow_add-from
overflow_add-from c =
    let ps = pieces c.args.text.now in
    let long = next_long ps c.pieces.pieces c.pieces._before c.next_length.result c.pieces.invariant.left c.next_length.ensures.length in
    omega (arith, long, separator_within c.args.text.now c.pieces._before (omega arith))

pub overflow_add-from-in-pieces : goal.overflow_add-from-in-pieces
overflow_add-from-in-pieces c =
    let ps = pieces c.args.text.now in
    let long = next_long ps c.pieces.pieces c.pieces._before c.next_length.result c.pieces.invariant.left c.next_length.ensures.length in
    omega (arith, long, c.pieces.invariant.bytes, separator_within c.args.text.now c.pieces._before (omega arith))

pub pieces-preserved : goal.pieces-preserved
pieces-preserved c =
    let ps = pieces c.args.text.now in
    let n = c.pieces._before in
    let long = next_long ps c.pieces.pieces n c.next_length.result c.pieces.invariant.left c.next_length.ensures.length in
    record {
      left = next_left ps c.pieces.pieces c.next_length.new.pieces n c.pieces.invariant.left c.next_length.ensures.rest;
      bytes = (λ i. c.pieces.invariant.bytes i + (long i + 1)) ∙ sym (spaced_more ps n (omega arith)) ∙ ap (λ m. spaced (take m ps)) (sym (add-one n));
    }

pub overflow_add-result : goal.overflow_add-result
overflow_add-result c =
    let ps = pieces c.args.text.now in
    let long = next_long ps c.pieces.pieces c.pieces._before c.next_length-2.result c.pieces.invariant.left c.next_length-2.ensures.length in
    omega (arith, long, c.pieces.invariant.bytes, within_text c.args.text.now c.pieces._before (omega arith))

pub returns : goal.returns
returns c =
    let ps = pieces c.args.text.now in
    let all : c.pieces._before ≡ c.args.piece = omega arith in
    let long = next_long ps c.pieces.pieces c.pieces._before c.next_length-2.result c.pieces.invariant.left c.next_length-2.ensures.length in
    record {
      piece = λ inside. (
        c.pieces.invariant.bytes ∙ ap (λ n. spaced (take n ps)) all,
        ap (λ n. c.pieces.from + n) (long ∙ ap (λ n. length (get_or ps n [])) all),
      );
      ending = λ is. absurd (omega (arith, c.requires));
    }
