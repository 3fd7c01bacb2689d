use Rattle.std.proofs.Common.{◌≡◌, subst}
use Rattle.std.proofs.lemmas.Result.{err_from_is_err_and}
use Rattle.icu_locale_names.specs.LentNames.{pieces_of}
use Rattle.std.specs.Io.KnownBytes.{Appends}
use Rattle.icu_locale_core.specs.Sinks.{AppendsPart}
use Rattle.icu_locale_names.specs.Pieces.{text_of}
use Rattle.icu_locale_names.specs.Shown.{lent_piece}
use Rattle.icu_locale_names.specs.Walk.{pieces_left}
use Rattle.icu_locale_names.proofs.PieceWrites.{Written, Written-none, Written-more, Written-all, AppendsPart-behind}
use Rattle.icu_locale_names.proofs.language.writing.write_pieces.Goals as goal

-- nothing is written yet
pub loop-piece-init : goal.loop-piece-init
loop-piece-init g c =
    let old = g.W.Write.contents c.args.sink.now in
    let pieces = pieces_of c.args.name.now in
    let same : pieces ≡ pieces_left c.into_iter-piece-iterator.result = cc in
    subst (Written (text_of pieces) old old) same (Written-none pieces old)

-- a beginning of the next piece is written
pub returns-in_err-write_whole-clause-part : goal.returns-in_err-write_whole-clause-part
returns-in_err-write_whole-clause-part g c =
    let contents = g.W.Write.contents in
    let text = text_of (pieces_of c.args.name.now) in
    let before = subst (Written text (contents c.args.sink.now) (contents c.loop-piece.sink)) c.in-Some.ensures.steps c.loop-piece.invariant in
    let refused = err_from_is_err_and c.from_residual.result c.from_residual.ensures.1 in
    rw refused.1 (AppendsPart-behind text (contents c.args.sink.now) (contents c.loop-piece.sink) (contents c.write_whole.new.sink)
    (lent_piece c.in-Some.piece) (pieces_left c.next.new.self) before (subst
    (AppendsPart (contents c.loop-piece.sink) (contents c.write_whole.new.sink)) c.as_bytes.ensures.value c.in_err-write_whole.ensures.part))

-- one more piece is written
pub loop-piece-preserved : goal.loop-piece-preserved
loop-piece-preserved g c =
    let contents = g.W.Write.contents in
    let text = text_of (pieces_of c.args.name.now) in
    let before = subst (Written text (contents c.args.sink.now) (contents c.loop-piece.sink)) c.in-Some.ensures.steps c.loop-piece.invariant in
    Written-more text (contents c.args.sink.now) (contents c.loop-piece.sink) (contents c.write_whole.new.sink) (lent_piece c.in-Some.piece)
    (pieces_left c.next.new.self) before (subst (Appends (contents c.loop-piece.sink) (contents c.write_whole.new.sink))
    c.as_bytes.ensures.value c.in_ok-write_whole.ensures.whole)

-- all pieces are written
pub returns-clause-whole : goal.returns-clause-whole
returns-clause-whole g c =
    let contents = g.W.Write.contents in
    let text = text_of (pieces_of c.args.name.now) in
    Written-all text (contents c.args.sink.now) (contents c.loop-piece.sink)
    (subst (Written text (contents c.args.sink.now) (contents c.loop-piece.sink)) c.in-None.ensures.steps.0 c.loop-piece.invariant)
