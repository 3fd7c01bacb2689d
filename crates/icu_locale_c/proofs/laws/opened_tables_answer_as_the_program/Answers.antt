use Rattle.icu_locale_c.proofs.Opened.{over_json, over_one}
use Rattle.icu_locale_c.proofs.laws.opened_tables_answer_as_the_program.Goals as goal

pub returns-clause-written : goal.returns-clause-written
returns-clause-written c = λ json old h command line text accepted asks none none_line opened answer.
    over_json json old h command line text accepted none opened
    ((c.calls_answer_as_the_program.ensures.alone h command line text accepted asks none_line).0 answer)

pub returns-clause-only : goal.returns-clause-only
returns-clause-only c = λ json old h command line text other accepted also asks none none_line opened answer run.
    over_one json old h command line text accepted none opened
    ((c.calls_answer_as_the_program.ensures.alone h command line text accepted asks none_line).0 answer)
    c.input_determines_output.ensures other also run
