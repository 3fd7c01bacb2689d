use Rattle.icu_locale_lines.proofs.OneOutput.{output_one}
use Rattle.icu_locale_lines.proofs.Readings.{SpellingFacts}
use Rattle.icu_locale_lines.proofs.SameTables.{same_tables}
use Rattle.icu_locale_lines.proofs.laws.input_determines_output.Goals as goal

pub returns : goal.returns
returns c = λ command t u input one two of_one of_two same first second.
    let spelling : SpellingFacts = record {
      alone = c.spelled_once.ensures;
      read = c.spelled_is_read.ensures;
      faults = c.reading_is_by_the_grammar.ensures.faults;
    } in
    output_one spelling c.a_line_has_one_answer.ensures t u (same_tables t u same) input one two of_one of_two command first second
