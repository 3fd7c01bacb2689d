use Rattle.std.proofs.Common.{Ok}
use Rattle.icu_tables.proofs.Files.{rows_from_reads}
use Rattle.icu_tables.proofs.tables.Tables.from_json.Goals as goal

-- the value was read
pub returns-in-Ok-clause-rows : goal.returns-in-Ok-clause-rows
returns-in-Ok-clause-rows c =
    rw c.alone.ensures (rows_from_reads c.args.text.now _ (Ok c.in-Ok.tables) c.in_ok-value.ensures.value c.in-Ok.ensures)
