use Rattle.std.proofs.Common.{◌≡◌, true, false, ap, ◌∙◌, rules}
use Rattle.std.specs.Io.KnownBytes.{prepend_known}
use Rattle.icu_locale_lines.specs.Tasks.{asks_list}
use Rattle.icu_locale_lines.proofs.Sessions.{kept_ready}
use Rattle.icu_locale_lines.proofs.StreamEnds.{prepend_none, head_alone, run_behind, stopped_behind, head_listed, ended_run}
use Rattle.icu_locale_lines.proofs.runs.stream.stream_session.Goals as goal

-- no list is asked for
pub work-requires-clause-kept : goal.work-requires-clause-kept
work-requires-clause-kept g c = kept_ready c.args.command.now c.args.tables.now c.args.session c.requires.ready (search rules)

-- nothing is before the lines
pub returns-then-not-row-clause-output : goal.returns-then-not-row-clause-output
returns-then-not-row-clause-output g c =
    let read = g.R.Read.remaining in
    let wrote = g.W.Write.contents in
    let start = prepend_known c.args.before.now (read c.args.reader.now) in
    let k = c.args.command.now in
    let t = c.args.tables.now in
    let w = c.in_ok-work.work in
    let alone : asks_list k.task ≡ false = search rules in
    run_behind k t c.args.longest start start w (head_alone k t c.args.session w alone c.in_ok-work.ensures.work c.args.longest start)
    (read c.args.reader.now) (read c.stream_lines.new.reader) (wrote c.args.writer.now) (wrote c.stream_lines.new.writer) c.stream_lines.result
    c.stream_lines.ensures.whole

pub returns-then-not-row-clause-refused : goal.returns-then-not-row-clause-refused
returns-then-not-row-clause-refused g c =
    let read = g.R.Read.remaining in
    let wrote = g.W.Write.contents in
    let start = prepend_known c.args.before.now (read c.args.reader.now) in
    let k = c.args.command.now in
    let t = c.args.tables.now in
    let w = c.in_ok-work.work in
    let alone : asks_list k.task ≡ false = search rules in
    stopped_behind k t c.args.longest start start w (head_alone k t c.args.session w alone c.in_ok-work.ensures.work c.args.longest start)
    (read c.args.reader.now) (read c.stream_lines.new.reader) (wrote c.args.writer.now) (wrote c.stream_lines.new.writer) c.stream_lines.result
    c.stream_lines.ensures.refused

-- the input ended with the line that lists what is available
pub returns-then-first-clause-output : goal.returns-then-first-clause-output
returns-then-first-clause-output g c =
    let read = g.R.Read.remaining in
    let k = c.args.command.now in
    let lists : asks_list k.task ≡ true = search rules in
    let held = read c.read_first_line.new.reader in
    let rest : prepend_known c.in_ok-first.first.rest.items held ≡ held = ap (λ r. prepend_known r held) (c.in_ok-first.ensures.alone c.if-first.true)
    ∙ prepend_none held in
    ended_run k c.args.tables.now lists c.deref.result.now c.in_ok-session.session c.in_ok-work-2.work c.in_ok-session.ensures.kept.listed
    c.in_ok-work-2.ensures.work c.args.longest (prepend_known c.args.before.now (read c.args.reader.now)) (read c.args.reader.now) held
    (g.W.Write.contents c.args.writer.now) (rw (c.deref.ensures.value, ← rest, ← c.if-first.true) c.in_ok-first.ensures.line)

-- lines follow it
pub returns-clause-output : goal.returns-clause-output
returns-clause-output g c =
    let read = g.R.Read.remaining in
    let wrote = g.W.Write.contents in
    let first = c.in_ok-first.first in
    let start = prepend_known c.args.before.now (read c.args.reader.now) in
    let mid = prepend_known first.rest.items (read c.read_first_line.new.reader) in
    let k = c.args.command.now in
    let t = c.args.tables.now in
    let w = c.in_ok-work-2.work in
    let lists : asks_list k.task ≡ true = search rules in
    let head = head_listed k t lists c.deref.result.now c.in_ok-session.session w c.in_ok-session.ensures.kept.listed c.in_ok-work-2.ensures.work
    c.args.longest start mid (rw (c.deref.ensures.value, ← c.if-first.false) c.in_ok-first.ensures.line) in
    run_behind k t c.args.longest start mid w head (read c.args.reader.now) (read c.stream_lines-2.new.reader) (wrote c.args.writer.now)
    (wrote c.stream_lines-2.new.writer) c.stream_lines-2.result (rw (← c.deref-2.ensures.value) c.stream_lines-2.ensures.whole)

pub returns-clause-refused : goal.returns-clause-refused
returns-clause-refused g c =
    let read = g.R.Read.remaining in
    let wrote = g.W.Write.contents in
    let first = c.in_ok-first.first in
    let start = prepend_known c.args.before.now (read c.args.reader.now) in
    let mid = prepend_known first.rest.items (read c.read_first_line.new.reader) in
    let k = c.args.command.now in
    let t = c.args.tables.now in
    let w = c.in_ok-work-2.work in
    let lists : asks_list k.task ≡ true = search rules in
    let head = head_listed k t lists c.deref.result.now c.in_ok-session.session w c.in_ok-session.ensures.kept.listed c.in_ok-work-2.ensures.work
    c.args.longest start mid (rw (c.deref.ensures.value, ← c.if-first.false) c.in_ok-first.ensures.line) in
    stopped_behind k t c.args.longest start mid w head (read c.args.reader.now) (read c.stream_lines-2.new.reader) (wrote c.args.writer.now)
    (wrote c.stream_lines-2.new.writer) c.stream_lines-2.result (rw (← c.deref-2.ensures.value) c.stream_lines-2.ensures.refused)
