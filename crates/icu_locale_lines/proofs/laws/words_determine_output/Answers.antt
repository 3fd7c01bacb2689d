use Rattle.icu_locale_lines.proofs.OneRun.{stream_one, words_run_one}
use Rattle.icu_locale_lines.proofs.laws.words_determine_output.Goals as goal

pub returns-clause-run : goal.returns-clause-run
returns-clause-run c = λ words input one two read also of_one of_two first second.
    words_run_one c.input_determines_output.ensures words input one two read also of_one of_two first second

pub returns-clause-stream : goal.returns-clause-stream
returns-clause-stream c = λ words input one two read also of_one of_two first second.
    stream_one c.input_determines_output.ensures words input one two read also of_one of_two first second
