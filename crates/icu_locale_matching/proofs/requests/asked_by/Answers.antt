use Rattle.std.proofs.Common.{[], sym, subst, map, take, ◌+◌}
use Rattle.icu_locale.specs.LikelyTable.{likely}
use Rattle.icu_locale.specs.RuleSet.{lent}
use Rattle.icu_locale_matching.specs.Header.{shown}
use Rattle.icu_locale_matching.specs.Requests.{Asks, AreAsked}
use Rattle.icu_locale_matching.proofs.Brought.{asked_next}
use Rattle.icu_locale_matching.proofs.requests.asked_by.Goals as goal

pub loop-wish-preserved : goal.loop-wish-preserved
loop-wish-preserved c =
    let l = likely c.args.rules.now.expander in
    let r = lent c.args.rules.now.rules in
    let ws = c.args.wishes.now in
    let i = c.loop-wish.wish-index in
    let added = c.in_ok-add_asked.ensures in
    subst (AreAsked (Asks c.args.bare_alone l r) (map shown (take (i + 1) ws))) (sym added.is)
    (asked_next (Asks c.args.bare_alone l r) ws i (record { range = record { ref_ptr = (0, 0); now = [] }; weight = 0 }) c.loop-wish.list.items added.asked c.loop-wish-test.true
    c.loop-wish.invariant added.only)
