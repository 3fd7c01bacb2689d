use Rattle.std.proofs.Common.{◌≤◌, length}
use Rattle.icu_locale_matching.specs.inner.Spelled.{AreSpelled}
use Rattle.icu_locale_matching.proofs.spellings.spellings_of.Given as goal

abbrev pub invariant-loop-place : goal.invariant-loop-place
invariant-loop-place l = (l.place ≤ length l.identifiers) × AreSpelled l.identifiers l.place l.rows

abbrev pub decreases-loop-place : goal.decreases-loop-place
decreases-loop-place l = l.place
