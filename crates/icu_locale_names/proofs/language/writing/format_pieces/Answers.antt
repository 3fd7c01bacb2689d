use Rattle.std.proofs.Common.{◌≡◌, ◌∙◌, ◌++◌, ap, sym, append_assoc, [], rules}
use Rattle.std.proofs.lemmas.Grind.{put_two}
use Rattle.icu_locale_names.specs.Pieces.{text_of}
use Rattle.icu_locale_names.specs.LentNames.{pieces_of}
use Rattle.icu_locale_names.specs.Walk.{pieces_left}
use Rattle.icu_locale_names.proofs.language.writing.format_pieces.Goals as goal

-- nothing is written yet
pub loop-piece-init : goal.loop-piece-init
loop-piece-init g c = record {
  written = [];
  parted = let same : pieces_of c.args.name.now ≡ pieces_left c.into_iter-piece-iterator.result = cc in ap text_of same;
  wrote = search rules;
}

-- one more piece is written
pub loop-piece-preserved : goal.loop-piece-preserved
loop-piece-preserved g c =
    let before = c.loop-piece.invariant in
    record {
      written = before.written ++ c.in-Some.piece.text.now;
      parted = before.parted ∙ ap (λ ps. before.written ++ text_of ps) c.in-Some.ensures.steps
          ∙ sym (append_assoc before.written c.in-Some.piece.text.now (text_of (pieces_left c.next.new.self)));
      wrote = λ plain. let first = before.wrote plain in search (rules, put_two);
    }
