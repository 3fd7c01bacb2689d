use Rattle.std.proofs.Common.{◌-◌, ◌*◌, length}
use Rattle.icu_locale_runs.proofs.Walks.{HasFollowed}
use Rattle.icu_locale_runs.proofs.rewriting.first_repeat.Given as goal

abbrev pub invariant-walkers : goal.invariant-walkers
invariant-walkers g l =
    HasFollowed (g.R.Rewriting.next l.rewriting) l.start l.meeting l.near l.far l.fn.turns l.turns

abbrev pub decreases-walkers : goal.decreases-walkers
decreases-walkers g l =
    2 * length (g.R.Rewriting.universe l.rewriting l.start) - (l.turns - l.fn.turns)
