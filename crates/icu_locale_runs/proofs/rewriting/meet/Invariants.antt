use Rattle.std.proofs.Common.{◌-◌, ◌*◌, length}
use Rattle.icu_locale_runs.proofs.Walks.{HasWalked}
use Rattle.icu_locale_runs.proofs.rewriting.meet.Given as goal

abbrev pub invariant-walkers : goal.invariant-walkers
invariant-walkers g l =
    HasWalked (g.R.Rewriting.next l.rewriting) l.start l.slow l.fast l.fn.turns l.turns

abbrev pub decreases-walkers : goal.decreases-walkers
decreases-walkers g l =
    3 * length (g.R.Rewriting.universe l.rewriting l.start) - (l.turns - l.fn.turns)
