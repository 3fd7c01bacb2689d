use Rattle.icu_locale_lines.proofs.OneOutput.{lists_one}
use Rattle.icu_locale_lines.proofs.laws.a_list_is_one.Goals as goal

pub returns : goal.returns
returns c = λ syntax line h k first second.
    lists_one (record { alone = c.spelled_once.ensures; read = c.spelled_is_read.ensures; faults = c.reading_is_by_the_grammar.ensures.faults }) syntax line h.available k.available h.wholes k.wholes
    first second
