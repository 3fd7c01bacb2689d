use Rattle.icu_locale_lines.proofs.RunEnds.{output_refused}
use Rattle.icu_locale_lines.proofs.runs.whole.write_output.Goals as goal

-- what the lines leave that stop early
pub returns-in_ok-session-in-Lines-clause-refused : goal.returns-in_ok-session-in-Lines-clause-refused
returns-in_ok-session-in-Lines-clause-refused g c =
    let wrote = g.W.Write.contents in
    let told = c.answer_input in
    rw c.in-Lines.is (output_refused c.in-Lines.command c.args.tables.now c.args.input.now (wrote c.args.writer.now) (wrote told.new.writer)
    told.result told.ensures.left)
