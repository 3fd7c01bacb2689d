use Rattle.icu_tables.proofs.MemberReads.{◌and_fills◌, Tells-start, Reads-told}
use Rattle.icu_tables.proofs.from_json.validity.KeyTypesFromValue.from_value.Goals as goal

-- what was read of each member tells what the object says
pub returns : goal.returns
returns g c =
    rw c.in_ok-only_members.ensures (Reads-told _ _ _ (Tells-start c.of.ensures.object c.of.ensures.outcome
    and_fills c.fill.ensures
    and_fills c.fill_by.ensures
    and_fills c.fill-2.ensures
    and_fills c.fill-3.ensures) c.finish.ensures)
