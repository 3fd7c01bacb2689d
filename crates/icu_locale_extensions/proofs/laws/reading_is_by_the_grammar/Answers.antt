use Rattle.icu_locale_extensions.proofs.ByGrammar.{faults_read, from_reader, refusals_read, to_reader}
use Rattle.icu_locale_extensions.proofs.laws.reading_is_by_the_grammar.Goals as goal

pub returns-clause-reads : goal.returns-clause-reads
returns-clause-reads c = λ s t r. (to_reader c.derived_is_read.ensures s t r, from_reader c.derived_is_read.ensures s t r)

pub returns-clause-faults : goal.returns-clause-faults
returns-clause-faults c = faults_read c.derived_is_read.ensures

pub returns-clause-refusals : goal.returns-clause-refusals
returns-clause-refusals c = refusals_read c.derived_is_read.ensures
