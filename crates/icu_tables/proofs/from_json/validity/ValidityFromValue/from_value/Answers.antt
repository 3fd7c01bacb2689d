use Rattle.icu_tables.proofs.MemberReads.{◌and_fills◌, Tells-start, Reads-told}
use Rattle.icu_tables.proofs.from_json.validity.ValidityFromValue.from_value.Goals as goal

-- what was read of each member tells what the object says
pub returns : goal.returns
returns c =
    rw c.in_ok-only_members.ensures (Reads-told _ _ _ (Tells-start c.of.ensures.object c.of.ensures.outcome
    and_fills c.fill_by.ensures
    and_fills c.fill_by-2.ensures
    and_fills c.fill_by-3.ensures
    and_fills c.fill_by-4.ensures
    and_fills c.fill_by-5.ensures
    and_fills c.fill_by-6.ensures
    and_fills c.fill_by-7.ensures
    and_fills c.fill_by-8.ensures) c.finish.ensures)
