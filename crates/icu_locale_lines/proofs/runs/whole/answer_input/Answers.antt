use Rattle.std.proofs.Common.{◌≡◌, ◌∙◌, sym, true, false, rules}
use Rattle.icu_locale_lines.specs.Tasks.{asks_list}
use Rattle.icu_locale_lines.proofs.RunEnds.{lines_written, lines_stopped}
use Rattle.icu_locale_lines.proofs.Sessions.{answered_alone, answered_listed, work_alone, work_listed}
use Rattle.icu_locale_lines.proofs.runs.whole.answer_input.Goals as goal

-- every line of the input is answered
pub returns-then-not-row-clause-output : goal.returns-then-not-row-clause-output
returns-then-not-row-clause-output g c =
    let k = c.args.command.now in
    let t = c.args.tables.now in
    let input = c.args.input.now in
    let none : asks_list k.task ≡ false = search rules in
    let w = c.in_ok-work.work in
    lines_written k t input w (work_alone k t c.args.session w none c.in_ok-work.ensures.work input) input (answered_alone k none input)
    (g.W.Write.contents c.args.writer.now) (g.W.Write.contents c.write_answers.new.writer) c.write_answers.result c.write_answers.ensures.whole

pub returns-then-not-row-clause-left : goal.returns-then-not-row-clause-left
returns-then-not-row-clause-left g c =
    let k = c.args.command.now in
    let t = c.args.tables.now in
    let input = c.args.input.now in
    let none : asks_list k.task ≡ false = search rules in
    let w = c.in_ok-work.work in
    let told = c.write_answers in
    lines_stopped k t input w (work_alone k t c.args.session w none c.in_ok-work.ensures.work input) input (answered_alone k none input)
    (g.W.Write.contents c.args.writer.now) (g.W.Write.contents told.new.writer) told.result told.ensures.refused told.ensures.memory
    told.ensures.write

-- behind the first, where that lists what is available
pub returns-clause-output : goal.returns-clause-output
returns-clause-output g c =
    let k = c.args.command.now in
    let t = c.args.tables.now in
    let input = c.args.input.now in
    let asks : asks_list k.task ≡ true = search rules in
    let w = c.in_ok-work-2.work in
    let told = c.write_answers-2 in
    lines_written k t input w (work_listed k t c.in_ok-session.session w c.cut.result.0.now c.in_ok-session.ensures.kept.listed
    c.in_ok-work-2.ensures.work input (sym c.cut.ensures.first)) c.cut.result.1.now (answered_listed k asks input ∙ sym c.cut.ensures.rest)
    (g.W.Write.contents c.args.writer.now) (g.W.Write.contents told.new.writer) told.result told.ensures.whole

pub returns-clause-left : goal.returns-clause-left
returns-clause-left g c =
    let k = c.args.command.now in
    let t = c.args.tables.now in
    let input = c.args.input.now in
    let asks : asks_list k.task ≡ true = search rules in
    let w = c.in_ok-work-2.work in
    let told = c.write_answers-2 in
    lines_stopped k t input w (work_listed k t c.in_ok-session.session w c.cut.result.0.now c.in_ok-session.ensures.kept.listed
    c.in_ok-work-2.ensures.work input (sym c.cut.ensures.first)) c.cut.result.1.now (answered_listed k asks input ∙ sym c.cut.ensures.rest)
    (g.W.Write.contents c.args.writer.now) (g.W.Write.contents told.new.writer) told.result told.ensures.refused told.ensures.memory
    told.ensures.write
