use Rattle.icu_tables.proofs.Puts.{map_settled, map_refused}
use Rattle.icu_tables.proofs.from_json.members.map_in.Goals as goal

-- the rows are settled
pub returns-in_ok-settled-in-Ok : goal.returns-in_ok-settled-in-Ok
returns-in_ok-settled-in-Ok g c = map_settled g.K.Ord.cmp g.P.AddsRows.seen _ _ _ c.in-Ok.ensures c.in_ok-settled-in-Ok.ensures

-- they were refused
pub returns-in-Err : goal.returns-in-Err
returns-in-Err g c = map_refused g.K.Ord.cmp _ _ c.in-Err.ensures
