use Rattle.std.proofs.Common.{[], refl, sym, subst, ◌∙◌, append-nil}
use Rattle.icu_locale_core.specs.Sinks.{AppendsPart}
use Rattle.icu_locale_lines.proofs.Progress.{answered_none, first_more, first_sent}
use Rattle.icu_locale_lines.proofs.runs.writing.write_lines.Goals as goal

pub loop-line-init : goal.loop-line-init
loop-line-init g c = rw c.clear.ensures.items (record { first = []; parted = refl; answered = answered_none c.args.work.now (g.W.Write.contents c.args.writer.now) })

-- what was answered before a line for which memory was refused is written
pub returns-in-Err-clause-memory : goal.returns-in-Err-clause-memory
returns-in-Err-clause-memory g c = λ refused.
    let text = c.loop-line.text.items in (
      c.loop-line.status,
      c.in-Some.line.now,
      first_sent text [] (rw c.in-Some.ensures.steps at c.loop-line.invariant) (sym (append-nil text))
          (rw (c.as_slice.ensures.value ∙ c.in-Err.ensures.unchanged) at c.in_ok-write_bytes-in-Err.ensures.whole),
    )

-- or in part
pub returns-in_err-write_bytes-in-Err-clause-write : goal.returns-in_err-write_bytes-in-Err-clause-write
returns-in_err-write_bytes-in-Err-clause-write g c = λ refused.
    let contents = g.W.Write.contents in
    let part = subst (AppendsPart (contents c.loop-line.writer) (contents c.write_bytes.new.writer))
    (c.as_slice.ensures.value ∙ c.in-Err.ensures.unchanged) c.in_err-write_bytes-in-Err.ensures.part in
    (c.loop-line.status, part.left, _, part.short, first_sent part.written part.left c.loop-line.invariant part.parted part.appended)

-- a full list is written in part
pub returns-in_err-write_bytes-clause-write : goal.returns-in_err-write_bytes-clause-write
returns-in_err-write_bytes-clause-write g c = λ refused.
    let contents = g.W.Write.contents in
    let part = subst (AppendsPart (contents c.loop-line.writer) (contents c.write_bytes-then-len-ge-FULL.new.writer))
    c.as_slice-then-len-ge-FULL.ensures.value c.in_err-write_bytes.ensures.part in
    let more = first_more c.in-Some.line.now (rw c.in-Some.ensures.steps at c.loop-line.invariant) c.in-Ok.ensures.answer c.after-status.ensures in
    (c.after-status.result, part.left, _, part.short, first_sent part.written part.left more part.parted part.appended)

-- one more line is answered, and a full list written
pub loop-line-preserved-then-len-ge-FULL : goal.loop-line-preserved-then-len-ge-FULL
loop-line-preserved-then-len-ge-FULL g c =
    let text = c.add_answer.new.text.items in
    let more = first_more c.in-Some.line.now (rw c.in-Some.ensures.steps at c.loop-line.invariant) c.in-Ok.ensures.answer c.after-status.ensures in
    rw c.clear-then-len-ge-FULL.ensures.items (first_sent text [] more (sym (append-nil text))
    (rw c.as_slice-then-len-ge-FULL.ensures.value at c.in_ok-write_bytes.ensures.whole))

-- or kept
pub loop-line-preserved : goal.loop-line-preserved
loop-line-preserved g c = first_more c.in-Some.line.now (rw c.in-Some.ensures.steps at c.loop-line.invariant) c.in-Ok.ensures.answer c.after-status.ensures

-- the last answers are written in part
pub returns-in_err-write_bytes-2-clause-write : goal.returns-in_err-write_bytes-2-clause-write
returns-in_err-write_bytes-2-clause-write g c = λ refused.
    let contents = g.W.Write.contents in
    let part = subst (AppendsPart (contents c.loop-line.writer) (contents c.write_bytes-2.new.writer)) c.as_slice-2.ensures.value
    c.in_err-write_bytes-2.ensures.part in
    (c.loop-line.status, part.left, _, part.short, first_sent part.written part.left c.loop-line.invariant part.parted part.appended)
