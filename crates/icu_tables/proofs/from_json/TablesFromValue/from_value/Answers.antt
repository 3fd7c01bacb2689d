use Rattle.icu_tables.proofs.MemberReads.{◌and_fills◌, Tells-start, Reads-told}
use Rattle.icu_tables.proofs.from_json.TablesFromValue.from_value.Goals as goal

-- what was read of each member tells what the object says
pub returns : goal.returns
returns c =
    let empty = c.new-tables.ensures in
    rw c.in_ok-only_members.ensures (Reads-told _ _ _ (Tells-start c.of.ensures.object c.of.ensures.outcome
    and_fills (rw empty at c.fill.ensures)
    and_fills (rw empty at c.fill-2.ensures)
    and_fills (rw empty at c.fill-3.ensures)
    and_fills (rw empty at c.fill-4.ensures)
    and_fills (rw empty at c.fill-5.ensures)
    and_fills c.fill_by.ensures
    and_fills c.fill_by-2.ensures
    and_fills c.fill_by-3.ensures
    and_fills c.fill_by-4.ensures) c.finish.ensures)
