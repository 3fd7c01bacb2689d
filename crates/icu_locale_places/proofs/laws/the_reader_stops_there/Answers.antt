use Rattle.icu_locale_places.proofs.Stopped.{not_before, stopped_there}
use Rattle.icu_locale_places.proofs.laws.the_reader_stops_there.Goals as goal

pub returns-clause-stopped : goal.returns-clause-stopped
returns-clause-stopped c = stopped_there

pub returns-clause-not_before : goal.returns-clause-not_before
returns-clause-not_before c = not_before c.derived_is_read.ensures c.reading_is_by_the_grammar.ensures.refusals
