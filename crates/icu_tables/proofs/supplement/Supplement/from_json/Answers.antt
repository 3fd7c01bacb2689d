use Rattle.icu_tables.proofs.Supplements.{rows_from_reads}
use Rattle.icu_tables.proofs.supplement.Supplement.from_json.Goals as goal

-- the value was read
pub returns-clause-rows : goal.returns-clause-rows
returns-clause-rows c = rows_from_reads c.args.text.now _ c.from_value.result c.in_ok-value.ensures.value c.from_value.ensures
