use Rattle.icu_tables.proofs.MemberReads.{◌and_fills◌, Tells-start, Reads-told}
use Rattle.icu_tables.proofs.from_json.extension_names.ExtensionNamesFromValue.from_value.Goals as goal

-- what was read of each member tells what the object says
pub returns : goal.returns
returns c =
    let none = c.new-names.ensures in
    rw (c.in_ok-only_members.ensures, c.in_ok-required.ensures)
    (Reads-told _ _ _ (Tells-start c.of.ensures.object c.of.ensures.outcome
    and_fills c.fill_by.ensures
    and_fills (rw none.keys at c.fill.ensures)
    and_fills c.fill_by-2.ensures) (rw none.pattern at c.finish.ensures))
