use Rattle.std.proofs.lemmas.Bool.{false≢true}
use Rattle.icu_tables.proofs.Files.{json_from_read, no_json}
use Rattle.icu_tables.proofs.from_json.parse.Goals as goal

pub returns-in-Ok-clause-value : goal.returns-in-Ok-clause-value
returns-in-Ok-clause-value c = json_from_read _ _ c.in-Ok.ensures.ok.0 c.in-Ok.ensures.ok.1

pub returns-else-is_memory-clause-none : goal.returns-else-is_memory-clause-none
returns-else-is_memory-clause-none c = λ other. no_json _ (c.in-Err.ensures.err (λ memory. false≢true (c.if-is_memory.ensures.1 memory)))
