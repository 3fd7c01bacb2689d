use Rattle.icu_tables.proofs.MemberReads.{◌and_fills◌, Tells-start, Reads-told}
use Rattle.icu_tables.proofs.from_json.matching.MatchRuleFromValue.from_value.Goals as goal

-- what was read of each member tells what the object says
pub returns : goal.returns
returns c =
    rw (c.in_ok-only_members.ensures, c.in_ok-language.ensures, c.in_ok-distance.ensures)
    (Reads-told _ _ _ (Tells-start c.of.ensures.object c.of.ensures.outcome
    and_fills (rw c.any_form.ensures at c.fill.ensures)
    and_fills (rw c.any_form-2.ensures at c.fill-2.ensures)) c.finish.ensures)
