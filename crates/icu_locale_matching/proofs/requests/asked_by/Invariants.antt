use Rattle.std.proofs.Common.{take, map}
use Rattle.icu_locale.specs.LikelyTable.{likely}
use Rattle.icu_locale.specs.RuleSet.{lent}
use Rattle.icu_locale_matching.specs.Header.{shown}
use Rattle.icu_locale_matching.specs.Requests.{Asks, AreAsked}
use Rattle.icu_locale_matching.proofs.requests.asked_by.Given as goal

abbrev pub invariant-loop-wish : goal.invariant-loop-wish
invariant-loop-wish l = AreAsked (Asks l.bare_alone (likely l.rules.expander) (lent l.rules.rules)) (map shown (take l.wish-index l.wishes)) l.list.items
