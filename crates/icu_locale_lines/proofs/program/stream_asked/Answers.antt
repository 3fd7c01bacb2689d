use Rattle.std.proofs.Common.{inr}
use Rattle.std.specs.Io.KnownBytes.{prepend_known}
use Rattle.std.proofs.lemmas.Result.{IfOk-weaker, IfErr-weaker}
use Rattle.icu_locale_lines.proofs.program.stream_asked.Goals as goal

pub returns-clause-output : goal.returns-clause-output
returns-clause-output g c =
    let head = c.in_ok-head.head in
    let left = g.R.Read.remaining c.read_head.new.reader in
    IfOk-weaker c.stream_over.result _ _ (λ s h. (head.tables, prepend_known head.rest.items left, left, c.in_ok-head.ensures.read, h))
    (rw (← c.deref.ensures.value) c.stream_over.ensures.output)

pub returns-clause-refused : goal.returns-clause-refused
returns-clause-refused g c =
    let head = c.in_ok-head.head in
    let left = g.R.Read.remaining c.read_head.new.reader in
    IfErr-weaker c.stream_over.result _ _ (λ e h. inr (head.tables, prepend_known head.rest.items left, left, c.in_ok-head.ensures.read, h))
    (rw (← c.deref.ensures.value) c.stream_over.ensures.refused)
