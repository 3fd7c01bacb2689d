use Rattle.icu_locale_extensions.proofs.ByGrammar.{fault_spells, refusal_fault}
use Rattle.icu_locale_extensions.proofs.laws.refusals_are_faults.Goals as goal

pub returns-clause-told : goal.returns-clause-told
returns-clause-told c = refusal_fault c.derived_is_read.ensures

pub returns-clause-nothing : goal.returns-clause-nothing
returns-clause-nothing c = fault_spells c.derived_is_read.ensures

pub returns-clause-language : goal.returns-clause-language
returns-clause-language c = λ s t. (λ is. is, λ is. is)

pub returns-clause-memory : goal.returns-clause-memory
returns-clause-memory c = λ s t is. is
