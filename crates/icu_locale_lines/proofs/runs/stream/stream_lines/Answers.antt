use Rattle.std.proofs.Common.{◌≡◌, ◌≤◌, Err, [], take, length, rules, inl, inr, refl, ap, sym, subst, append-nil}
use Rattle.std.specs.Io.KnownBytes.{Consumes, IsAtEnd}
use Rattle.std.proofs.KnownBytes.{Keeps-refl}
use Rattle.std.proofs.lemmas.Result.{err_from_is_err_and}
use Rattle.icu_locale_lines.specs.inner.Parts.{StopsText}
use Rattle.icu_locale_lines.specs.Streams.{part_size}
use Rattle.icu_locale_lines.proofs.Bounds.{within_alone}
use Rattle.icu_locale_lines.proofs.Ended.{comes_none, comes_more, comes_refused, comes_failed, comes_end, comes_flushed, stops_written}
use Rattle.icu_locale_lines.proofs.FirstReads.{Consumes-prepended}
use Rattle.icu_locale_lines.proofs.runs.stream.stream_lines.Goals as goal

-- what was read before was refused
pub returns-in_err-status-clause-refused : goal.returns-in_err-status-clause-refused
returns-in_err-status-clause-refused g c =
    let passed_on = err_from_is_err_and c.from_residual.result c.from_residual.ensures.1 in
    rw (passed_on.1, passed_on.2) (comes_refused (comes_none c.new-carry.result.items c.new-carry.ensures.items) c.args.first.now
    (Consumes-prepended c.args.first.now (g.R.Read.remaining c.args.reader.now)) (λ never. absurd never) c.requires.short c.in_err-status.ensures.refused)

-- the last line was refused
pub returns-in_err-last-in-Ok-eq0-clause-refused : goal.returns-in_err-last-in-Ok-eq0-clause-refused
returns-in_err-last-in-Ok-eq0-clause-refused g c =
    let read = g.R.Read.remaining in
    let wrote = g.W.Write.contents in
    let carry = c.loop.carry.items in
    let before = comes_flushed c.loop.invariant (wrote c.flush.new.self) c.flush.ensures.bytes in
    let none : c.in-Ok-eq0.field-0 ≡ 0 = search rules in
    let more = subst (λ n. Consumes (read c.loop.reader) (read c.read.new.self) (take n c.read.new.buf)) none c.in-Ok-eq0.ensures.bytes.0 in
    let ended : IsAtEnd (read c.read.new.self) = search rules in
    let refused = c.in_err-last-in-Ok-eq0.ensures in
    let stops : StopsText (IsAtEnd (read c.read.new.self)) c.args.longest c.args.work.now carry (wrote c.flush.new.self) (wrote c.write_answers.new.writer)
    c.in_err-last-in-Ok-eq0.field-0.0 = rw (← c.as_slice.ensures.value) (stops_written c.as_slice.result.now (inr ended)
    (rw c.as_slice.ensures.value (within_alone c.args.longest carry before.unended)) refused.refused (λ is. refused.memory (ap (λ e. Err e) is))
    (λ is. refused.write (ap (λ e. Err e) is))) in
    let passed_on = err_from_is_err_and c.from_residual-in_err-last-in-Ok-eq0.result c.from_residual-in_err-last-in-Ok-eq0.ensures.1 in
    rw (passed_on.1, passed_on.2) (comes_refused before [] more {Last = IsAtEnd (read c.read.new.self)} (λ at. at) (search rules) (rw (append-nil carry) stops))

-- the input is at its end, and its last line is answered
pub returns-in-Ok-eq0-clause-whole : goal.returns-in-Ok-eq0-clause-whole
returns-in-Ok-eq0-clause-whole g c =
    let read = g.R.Read.remaining in
    let none : c.in-Ok-eq0.field-0 ≡ 0 = search rules in
    let more = subst (λ n. Consumes (read c.loop.reader) (read c.read.new.self) (take n c.read.new.buf)) none c.in-Ok-eq0.ensures.bytes.0 in
    comes_end (comes_flushed c.loop.invariant (g.W.Write.contents c.flush.new.self) c.flush.ensures.bytes) [] more refl (search rules)
    (rw c.as_slice.ensures.value at c.in_ok-last-in-Ok-eq0.ensures.whole) c.and.ensures

-- a part was refused
pub returns-in_err-ended-in-Ok-clause-refused : goal.returns-in_err-ended-in-Ok-clause-refused
returns-in_err-ended-in-Ok-clause-refused g c =
    let read = g.R.Read.remaining in
    let part = c.split_at.result.0.now in
    let more = subst (Consumes (read c.loop.reader) (read c.read.new.self)) (sym c.split_at.ensures.front) c.in-Ok.ensures.bytes.0 in
    let size : length part ≤ part_size = search rules in
    let passed_on = err_from_is_err_and c.from_residual-in_err-ended-in-Ok.result c.from_residual-in_err-ended-in-Ok.ensures.1 in
    rw (passed_on.1, passed_on.2) (comes_refused (comes_flushed c.loop.invariant (g.W.Write.contents c.flush.new.self) c.flush.ensures.bytes) part more
    (λ never. absurd never) size c.in_err-ended-in-Ok.ensures.refused)

-- a failed read leaves what is carried unanswered
pub returns-in-Err-clause-refused : goal.returns-in-Err-clause-refused
returns-in-Err-clause-refused g c =
    comes_failed (comes_flushed c.loop.invariant (g.W.Write.contents c.flush.new.self) c.flush.ensures.bytes) (inl refl) c.in-Err.ensures.bytes

-- so does a read too many
pub returns-clause-refused : goal.returns-clause-refused
returns-clause-refused g c = comes_failed c.loop.invariant (inl refl) (Keeps-refl (g.R.Read.remaining c.loop.reader))

-- one more part is answered
pub loop-preserved : goal.loop-preserved
loop-preserved g c =
    let read = g.R.Read.remaining in
    let more = subst (Consumes (read c.loop.reader) (read c.read.new.self)) (sym c.split_at.ensures.front) c.in-Ok.ensures.bytes.0 in
    comes_more (comes_flushed c.loop.invariant (g.W.Write.contents c.flush.new.self) c.flush.ensures.bytes) c.split_at.result.0.now more
    c.in_ok-ended-in-Ok.ensures.whole c.in_ok-ended-in-Ok.ensures.unended c.and-status.ensures

-- a flush failed
pub returns-then-is_err-clause-refused : goal.returns-then-is_err-clause-refused
returns-then-is_err-clause-refused g c =
    comes_failed (comes_flushed c.loop.invariant (g.W.Write.contents c.flush.new.self) c.flush.ensures.bytes) (inr refl)
    (Keeps-refl (g.R.Read.remaining c.loop.reader))
