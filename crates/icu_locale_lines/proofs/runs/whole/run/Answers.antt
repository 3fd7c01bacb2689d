use Rattle.std.proofs.Common.{◌≡◌, false, IfOk, IfErr, subst}
use Rattle.std.proofs.lemmas.Result.{IfErr-at_err}
use Rattle.icu_locale_lines.specs.Commands.{IsUnsettled, has_tables}
use Rattle.icu_locale_lines.specs.Loads.{not_found}
use Rattle.icu_locale_lines.specs.Runs.{ReadsAll}
use Rattle.icu_locale_lines.specs.WholeRuns.{WritesLines, StopsLines}
use Rattle.icu_locale_lines.proofs.RunEnds.{lines_run, lines_refused, no_data, no_unsettled, ready_held, ready_settled}
use Rattle.icu_locale_lines.proofs.runs.whole.run.Goals as goal

pub returns-clause-output : goal.returns-clause-output
returns-clause-output g c =
    let read = g.R.Read.remaining in
    let before = g.W.Write.contents c.args.writer.now in
    let after = g.W.Write.contents c.answer_input.new.writer in
    let k = c.in-Lines.command in
    let t = c.args.tables.now in
    let input = c.in_ok-input.input.items in
    let all : ReadsAll (read c.args.reader.now) (read c.read_all.new.reader) input = record
    { consumed = c.in_ok-input.ensures.whole; ended = c.in_ok-input.ensures.end } in
    rw c.in-Lines.is (lines_run t before after (read c.args.reader.now) (read c.read_all.new.reader) c.answer_input.result k input all
    (subst (λ i. IfOk c.answer_input.result (WritesLines k t i before after)) c.deref.ensures.value c.answer_input.ensures.output))

-- all was ready, so nothing was refused for a table
pub returns-clause-data : goal.returns-clause-data
returns-clause-data g c = (
  λ e. absurd (no_data c.in-Lines.command c.args.tables.now c.deref.result.now (g.W.Write.contents c.args.writer.now)
      (g.W.Write.contents c.answer_input.new.writer) not_found (IfErr-at_err _ e c.answer_input.ensures.left)),
  λ h. absurd (ready_held c.in-Lines.command c.args.tables.now c.in_ok-session.session c.in_ok-session.ensures.ready
      (subst (λ k. has_tables k c.args.tables.now ≡ false) c.in-Lines.is h)),
)

pub returns-clause-unsettled : goal.returns-clause-unsettled
returns-clause-unsettled g c = (
  λ e. absurd (no_unsettled c.in-Lines.command c.args.tables.now c.deref.result.now (g.W.Write.contents c.args.writer.now)
      (g.W.Write.contents c.answer_input.new.writer) (IfErr-at_err _ e c.answer_input.ensures.left)),
  λ h. absurd (ready_settled c.in-Lines.command c.args.tables.now c.in_ok-session.session c.in_ok-session.ensures.ready
      (subst (λ k. IsUnsettled k c.args.tables.now) c.in-Lines.is h)),
)

pub returns-clause-refused : goal.returns-clause-refused
returns-clause-refused g c =
    let read = g.R.Read.remaining in
    let before = g.W.Write.contents c.args.writer.now in
    let after = g.W.Write.contents c.answer_input.new.writer in
    let k = c.in-Lines.command in
    let t = c.args.tables.now in
    let input = c.in_ok-input.input.items in
    let all : ReadsAll (read c.args.reader.now) (read c.read_all.new.reader) input = record
    { consumed = c.in_ok-input.ensures.whole; ended = c.in_ok-input.ensures.end } in
    rw c.in-Lines.is (lines_refused t before after (read c.args.reader.now) (read c.read_all.new.reader) c.answer_input.result k input all
    (subst (λ i. IfErr c.answer_input.result (StopsLines k t i before after)) c.deref.ensures.value c.answer_input.ensures.left))
