use Rattle.std.proofs.Common.{ap}
use Rattle.icu_tables.specs.Rows.{seen_rows}
use Rattle.icu_tables.proofs.Puts.{added_to_none, refused_said}
use Rattle.icu_tables.proofs.from_json.members.rows_in.Goals as goal

-- all members were read
pub returns-in-Ok : goal.returns-in-Ok
returns-in-Ok g c = added_to_none _ _ _ (ap (seen_rows g.P.AddsRows.seen) c.new-rows.ensures.items) c.in-Ok.ensures

-- one was refused
pub returns-in-Err : goal.returns-in-Err
returns-in-Err g c = refused_said _ _ _ c.in-Err.ensures
